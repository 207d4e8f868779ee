-- What is remembered stays true: after a scan, and after the move that it accepted.
use Rattle.std.proofs.Common.{◌≡◌, ◌≢◌, ◌∙◌, ℕ, suc, ◌+◌, ◌^◌, ◌<◌, ◌≤◌, Bool, true, false, cond, List, [], ◌∷◌, ◌++◌, length, length-append, Some, None, w64}
use Rattle.std.proofs.Common.{to_z, of_z, refl, sym, ap, arith, inl, inr, ◌⊎◌, ◌&&◌, nat_le}
use Rattle.std.specs.Prelude.{All, IsTrue, ℤ, ◌≤ℤ◌, pos, int_lt, nat_lt}
use Rattle.std.specs.List.{list_all}
use Rattle.std.proofs.lemmas.List.Elements.{All-head}
use Rattle.vr_model.specs.deciding.Testing.{and_left, and_right}
use Rattle.vr_model.specs.tables.WellFormed.{IsWellFormed}
use Rattle.vr_model.proofs.tables.Tests.{clash}
use Rattle.vr_model.specs.moves.Moves.{apply, moves, is_pair_served, without_pair}
use Rattle.vr_model.specs.tables.Tables.{pair_at}
use Rattle.vr_model.specs.routes.Routes.{route}
use Rattle.vr_model.specs.moves.MoveTests.{is_move, may_put_pair}
use Rattle.vr_model.specs.routes.Rules.{is_valid}
use Rattle.vr_model.specs.search.Scans.{scan, scan_from}
use Rattle.vr_model.specs.search.Scans.Scan.{Accepted, Complete, Cut}
use Rattle.vr_model.specs.declared.records.Model.{Model}
use Rattle.vr_model.specs.declared.neighbours.Move.{Move}
use Rattle.std.proofs.lemmas.Int.{ints}
use Rattle.vr_model.proofs.routes.Lists.{are-lists, are_lists-count}
use Rattle.vr_model.specs.declared.neighbours.Move.TheVariants.{TwoOpt, OrOpt, Relocate, Exchange, Cross, RelocatePair, PairActive, PairInactive, MakeActive}
use Rattle.vr_model.specs.declared.neighbours.Move.TheVariants.{MakeInactive, SwapActive}
use Rattle.vr_model.proofs.routes.CostFits.{costs_are_bounded}
use Rattle.vr_model.proofs.moves.Kept.{pair_of_test}
use Rattle.vr_model.proofs.moves.KeptLists.{as_many}
use Rattle.vr_descent.proofs.EndLemmas.{both}
use Rattle.vr_routes.specs.Judging.{cost_change}
use Rattle.vr_descent.specs.Scanned.{is_acceptable, scan_end, taken_difference, takes_less}
use Rattle.vr_descent.specs.declared.scanning.ScanEnd.TheVariants as ends
use Rattle.vr_model.specs.declared.neighbours.Neighbourhood.{Neighbourhood}
use Rattle.vr_model.specs.moves.Kinds.{kind_of, rows_of}
use Rattle.vr_known.specs.Blocks.{Memory, is_known, covers, first_of, second_of, is_behind, is_kind_of, IsApart, Agree}
use Rattle.vr_known.specs.Locality.{HasNoGlobalSpans}
use Rattle.vr_known.proofs.Applied.{first_low}
use Rattle.vr_known.proofs.Local.{activity_stays, moves_local}
use Rattle.vr_known.proofs.Locality.{validity_is_local}
use Rattle.vr_known.proofs.CostLocality.{cost_is_local}
use Rattle.vr_known.proofs.PassingLemmas.{capped_small, covers_known}
use Rattle.vr_known.specs.Passing.{capped, CoversBlock, Passes}
use Rattle.vr_descent.specs.Refused.{AreRefused, IsPassed, StaysRefused}
use Rattle.vr_descent.proofs.PassedLemmas.{all_left, all_right, at_each, of_each, capped_low, in_front, none_taken, over}
use Rattle.vr_descent.proofs.OrderLemmas.{are_listed, stand_before}

-- ---- what a descent takes

pub less_stays : (model : Model) → IsWellFormed model → HasNoGlobalSpans model → StaysRefused model takes_less
less_stays model well none lists other mv both = λ i. validity_is_local model well lists other mv both i
    && int_lt (cost_is_local model none lists other mv both i) (pos 0)

-- nothing is remembered
pub nothing_refused : (model : Model) (takes : List (List ℕ) → Move → ℤ → Bool) (lists : List (List ℕ)) (memory : Memory)
    → ((kind : Neighbourhood) (v w : ℕ) → is_known memory kind v w ≡ false) → AreRefused model takes lists memory
nothing_refused model takes lists memory none mv one covered =
    absurd (clash (is_known memory (kind_of mv) (first_of mv) (second_of mv)) covered (none (kind_of mv) (first_of mv) (second_of mv)))

module _ (model : Model) (takes : List (List ℕ) → Move → ℤ → Bool) (lists : List (List ℕ)) where
  -- ---- after a scan

  -- a move is of a row of its kind
  pub row_low : IsWellFormed model → length lists < 101 → (mv : Move) → IsTrue (is_move model lists mv) → first_of mv < rows_of (kind_of mv)
  row_low well few (TwoOpt v a b) one = let low = first_low model lists (TwoOpt v a b) one refl in omega (arith, low, few)
  row_low well few (OrOpt v a k t) one = let low = first_low model lists (OrOpt v a k t) one refl in omega (arith, low, few)
  row_low well few (Relocate v a w t) one = let low = first_low model lists (Relocate v a w t) one refl in omega (arith, low, few)
  row_low well few (Exchange v a w b) one = let low = first_low model lists (Exchange v a w b) one refl in omega (arith, low, few)
  row_low well few (Cross v a w b) one = let low = first_low model lists (Cross v a w b) one refl in omega (arith, low, few)
  row_low well few (RelocatePair p w s t) one =
      let others = and_right (is_pair_served model lists p) _ one in
      let low = pair_of_test model lists p
      (and_left (nat_lt p (length model.pairs)) _
      (and_left (may_put_pair model lists p w (length (without_pair (pair_at model p) (route lists w))) s t) _ others)) in
      let most : length model.pairs ≤ 500 = well.number_of_pairs in
      omega (arith, low, most)
  row_low well few (PairActive p w s t) one = omega arith
  row_low well few (PairInactive p) one =
      let low = pair_of_test model lists p (and_left (nat_lt p (length model.pairs)) _ one) in
      let most : length model.pairs ≤ 500 = well.number_of_pairs in
      omega (arith, low, most)
  row_low well few (MakeActive u w t) one = omega arith
  row_low well few (MakeInactive v a) one = omega arith
  row_low well few (SwapActive v a u) one = omega arith

  -- what was remembered, and the moves in front of the one that was accepted, are refused
  pub noted : (old new : Memory) (place rest : ℕ) (mv : Move) → IsWellFormed model → length lists < 101
      → scan (moves model lists) (is_acceptable model takes lists) rest ≡ Accepted place mv
      → ((k : Neighbourhood) (u w : ℕ) → u < rows_of k → IsTrue (is_known new k u w)
      → IsTrue (is_known old k u w) ⊎ IsTrue (is_behind model.search.neighbourhoods k u mv))
      → AreRefused model takes lists old → AreRefused model takes lists new
  noted old new place rest mv well few scanned learned refused m one covered =
      elim (learned (kind_of m) (first_of m) (second_of m) (row_low well few m one) covered) [
        | inl before ↦ refused m one before
        | inr behind ↦ (
            let front = in_front (is_acceptable model takes lists) rest 0 (moves model lists) place mv scanned in
            front.none m (stand_before model lists model.search.neighbourhoods front.before mv front.after front.split m one behind))
      ]

  -- what was remembered, and all moves of a scan that accepted none, are refused
  pub noted_all : (old new : Memory) (n rest : ℕ) → IsWellFormed model → length lists < 101
      → scan (moves model lists) (is_acceptable model takes lists) rest ≡ Complete n
      → ((k : Neighbourhood) (u w : ℕ) → u < rows_of k → IsTrue (is_known new k u w)
      → IsTrue (is_known old k u w) ⊎ IsTrue (is_kind_of model.search.neighbourhoods k))
      → AreRefused model takes lists old → AreRefused model takes lists new
  noted_all old new n rest well few scanned learned refused m one covered =
      elim (learned (kind_of m) (first_of m) (second_of m) (row_low well few m one) covered) [
        | inl before ↦ refused m one before
        | inr listed ↦ none_taken (is_acceptable model takes lists) rest 0 (moves model lists)
            n scanned m (are_listed model lists model.search.neighbourhoods m one listed)
      ]

  -- ---- after a move

  module _ (mv : Move) (one : IsTrue (is_move model lists mv)) (first second : ℕ)
      (others : (u : ℕ) → u ≢ first → u ≢ second → route (apply model lists mv) u ≡ route lists u) where
    -- of a move that it did not change nothing differs after it
    agree_after : (m : Move) → IsApart model (apply model lists mv) mv first second m → Agree model m (apply model lists mv) lists
    agree_after m apart = record {
      many = as_many model lists mv;
      source = λ v is. let off = apart.source v is in others v off.0 off.1;
      second = others (second_of m) apart.target.0 apart.target.1;
      active = λ changes. activity_stays model lists mv one (apart.active changes);
    }

    -- what is still remembered after the move is refused
    pub changed : (old new : Memory) → IsTrue (is_valid model lists) → IsTrue (is_valid model (apply model lists mv))
        → ((k : Neighbourhood) (u w : ℕ) → IsTrue (is_known new k u w) → StaysRefused model takes)
        → ((k : Neighbourhood) (u w : ℕ) → IsTrue (is_known new k u w) → IsTrue (is_known old k u w))
        → ((m : Move) → IsTrue (is_move model (apply model lists mv) m) → IsTrue (covers new m) → IsApart model (apply model lists mv) mv first second m)
        → AreRefused model takes lists old → AreRefused model takes (apply model lists mv) new
    changed old new valid valid_after local fewer apart refused m there covered =
        let after : List (List ℕ) = apply model lists mv in
        let agree = agree_after m (apart m there covered) in
        let here : IsTrue (is_move model lists m) = moves_local model after lists m there agree ∙ there in
        local (kind_of m) (first_of m) (second_of m) covered after lists m (record { valid = valid_after; other_valid = valid; is_one = there; agree = agree })
        ∙ refused m here (fewer (kind_of m) (first_of m) (second_of m) covered)

-- ---- what a scan passes over

-- the moves of a block that is remembered
pub passes_known : (model : Model) (takes : List (List ℕ) → Move → ℤ → Bool) (lists : List (List ℕ))
    (rest : ℕ) (memory : Memory) (kind : Neighbourhood) (v w : ℕ) → rest ≤ 1000000000
    → AreRefused model takes lists memory → IsTrue (is_known memory kind v w) → CoversBlock (IsPassed model takes lists rest) kind v w
passes_known model takes lists rest memory kind v w few refused known mv k f s =
    record { few = few; refused = λ one. refused mv one (covers_known memory kind v w known mv k f s) }

-- a difference that is not below 0 makes the cost no less
pub not_less : (d : ℤ) → pos 0 ≤ℤ d → int_lt d (pos 0) ≡ false
not_less d low = Prim.grind arith

-- ---- a step of a scan

-- so many moves were passed over, and the scan goes on behind them
pub record GoesOn (model : Model) (takes : List (List ℕ) → Move → ℤ → Bool) (lists : List (List ℕ))
    (rest : ℕ) (list : List Move) (place : ℕ) (behind : List Move) (counted : ℕ) : Type 0 where
  pub at : ℕ
  pub more : place ≤ at
  pub real : counted ≡ capped at
  pub exact : counted ≤ rest → counted ≡ at
  pub ends : scan_from place (is_acceptable model takes lists) rest list ≡ scan_from at (is_acceptable model takes lists) rest behind
  pub are_moves : list_all (is_move model lists) behind ≡ true
  pub fewer : length behind ≤ length list

module _ (model : Model) (takes : List (List ℕ) → Move → ℤ → Bool) (lists : List (List ℕ)) (rest : ℕ) where
  abbrev acceptable : Move → Bool
  acceptable = is_acceptable model takes lists

  -- so many tries are counted as they are
  counts_as : (passed : List Move) (place counted : ℕ) → All (IsPassed model takes lists rest) passed → place < 2 ^ 64
      → counted ≡ capped (place + length passed) → counted ≤ rest → counted ≡ place + length passed
  counts_as [] place counted none fits real low =
      let same : place + 0 ≡ place = omega arith in
      let there : place + 0 < 2 ^ 64 = omega (arith, fits) in
      real ∙ sym (capped_small (place + 0) there)
  counts_as (mv ∷ passed) place counted all fits real low =
      let most = (All-head (IsPassed model takes lists rest) mv passed all).few in
      real ∙ capped_low (place + length (mv ∷ passed)) (omega (arith, real, low, most))

  pub goes_on : (list behind : List Move) (place counted : ℕ) → place < 2 ^ 64
      → list_all (is_move model lists) list ≡ true → Passes (IsPassed model takes lists rest) list place behind counted
      → GoesOn model takes lists rest list place behind counted
  goes_on list behind place counted fits are p =
      let all : list_all (is_move model lists) (p.passed ++ behind) ≡ true = sym (ap (list_all (is_move model lists)) p.split) ∙ are in
      let long = length-append p.passed behind in
      let same = ap length p.split in
      record {
        at = place + length p.passed;
        more = omega arith;
        real = p.counts;
        exact = counts_as p.passed place counted p.covered fits p.counts;
        ends = ap (scan_from place acceptable rest) p.split ∙ over acceptable rest place p.passed behind
            (λ m there. (of_each (IsPassed model takes lists rest) p.passed p.covered m there).refused
            (at_each (is_move model lists) p.passed (all_left (is_move model lists) p.passed behind all) m there));
        are_moves = all_right (is_move model lists) p.passed behind all;
        fewer = omega (arith, long, same);
      }

  -- a move that is acceptable ends the scan
  pub found_at : (place : ℕ) (mv : Move) (left : List Move) (difference : ℤ) → Some difference ≡ taken_difference model takes lists mv → place < rest
      → scan_end model lists (scan_from place acceptable rest (mv ∷ left)) ≡ ends.Accepted (place + 1) mv difference
  found_at place mv left difference e low = by (acceptable mv) e
    where
      here : place < rest → nat_le (suc place) rest ≡ true
      here low = Prim.grind arith

      same : Some difference ≡ Some (cost_change model lists mv) → difference ≡ cost_change model lists mv
      same e = Prim.cc

      number : suc place ≡ place + 1
      number = omega arith

      by : (b : Bool) → Some difference ≡ cond b (Some (cost_change model lists mv)) None
          → scan_end model lists (cond b (cond (nat_le (suc place) rest) (Accepted (suc place) mv) Cut) (scan_from (suc place) acceptable rest left))
          ≡ ends.Accepted (place + 1) mv difference
      by true e = ap (λ c. scan_end model lists (cond c (Accepted (suc place) mv) Cut)) (here low)
          ∙ ap (λ k. ends.Accepted k mv (cost_change model lists mv)) number ∙ ap (λ d. ends.Accepted (place + 1) mv d) (sym (same e))
      by false e = absurd (no e)
        where
          no : Some difference ≡ None → ⊥
          no e = Prim.cc

  -- one that is not is a try
  pub missed_at : (place : ℕ) (mv : Move) (left : List Move) → None ≡ taken_difference model takes lists mv
      → scan_from place acceptable rest (mv ∷ left) ≡ scan_from (place + 1) acceptable rest left
  missed_at place mv left e = by (acceptable mv) e
    where
      number : suc place ≡ place + 1
      number = omega arith

      by : (b : Bool) → None ≡ cond b (Some (cost_change model lists mv)) None
          → cond b (cond (nat_le (suc place) rest) (Accepted (suc place) mv) Cut) (scan_from (suc place) acceptable rest left)
          ≡ scan_from (place + 1) acceptable rest left
      by true e = absurd (no e)
        where
          no : None ≡ Some (cost_change model lists mv) → ⊥
          no e = Prim.cc
      by false e = ap (λ k. scan_from k acceptable rest left) number

  taken_where : (mv : Move) (difference : ℤ) → Some difference ≡ taken_difference model takes lists mv
      → IsTrue (is_valid model (apply model lists mv)) × (difference ≡ cost_change model lists mv)
  taken_where mv difference e = by (is_acceptable model takes lists mv) refl e
    where
      by : (b : Bool) → is_acceptable model takes lists mv ≡ b → Some difference ≡ cond b (Some (cost_change model lists mv)) None
          → IsTrue (is_valid model (apply model lists mv)) × (difference ≡ cost_change model lists mv)
      by true f e = ((both (is_valid model (apply model lists mv)) (takes lists mv (cost_change model lists mv)) f).0, Prim.cc)
      by false f e = absurd (no e)
        where
          no : Some difference ≡ None → ⊥
          no e = Prim.cc

  -- a difference is read as it is
  pub read_difference : IsWellFormed model → IsTrue (is_valid model lists) → (mv : Move) (difference : ℤ)
      → Some difference ≡ taken_difference model takes lists mv → to_z w64 (of_z w64 difference) ≡ difference
  read_difference well valid mv difference e =
      let t = taken_where mv difference e in
      let changes = t.1 in
      let after = costs_are_bounded model well (apply model lists mv) t.0 in
      let before = costs_are_bounded model well lists valid in
      omega (arith, ints, changes, after.least, after.greatest, before.least, before.greatest)

-- ---- few vehicles

-- the lists of a model are few
pub few_lists : (model : Model) → IsWellFormed model → (lists : List (List ℕ)) → IsTrue (is_valid model lists) → length lists < 101
few_lists model well lists valid =
    let many = are_lists-count model lists (are-lists model lists valid) in
    let most = well.number_of_vehicles.at_most in
    omega (arith, many, most)
