-- What is remembered after something was learned or forgotten.
use Rattle.std.proofs.Common.{◌≡◌, ◌≢◌, ◌∙◌, ◌⊎◌, ℕ, zero, suc, ◌+◌, ◌*◌, ◌<◌, ◌≤◌, Bool, true, false, ◌&&◌, ◌||◌, cond, List, [], ◌∷◌, length, drop, drop-cons}
use Rattle.std.proofs.Common.{add-one, refl, sym, ap, subst, inl, inr, arith, nat_lt}
use Rattle.std.specs.Prelude.{IsTrue, ◌==◌, slice_index_or, slice_set}
use Rattle.std.proofs.Math.ListN.{replicate}
use Rattle.std.proofs.lemmas.Bool.{cases_Bool, cases_lt, false≢true}
use Rattle.std.proofs.lemmas.List.{get_or-set_same, get_or-set_other, get_or_past}
use Rattle.vr_model.specs.deciding.Testing.{and_left, and_right, and_both, eq_of_test, or_cases, or_left, or_right, test_of_eq}
use Rattle.vr_model.specs.tables.Tables.{pair_at}
use Rattle.vr_model.specs.routes.Routes.{route, holds, is_active}
use Rattle.vr_model.specs.moves.Moves.{is_pair_served, without_pair}
use Rattle.vr_model.specs.moves.MoveTests.{is_move, may_put_pair}
use Rattle.vr_model.specs.declared.records.Model.{Model}
use Rattle.vr_model.specs.declared.neighbours.Move.{Move}
use Rattle.vr_model.specs.declared.neighbours.Move.TheVariants.{TwoOpt, OrOpt, Relocate, Exchange, Cross, RelocatePair, PairActive, PairInactive, MakeActive}
use Rattle.vr_model.specs.declared.neighbours.Move.TheVariants.{MakeInactive, SwapActive}
use Rattle.vr_model.specs.declared.neighbours.Neighbourhood.{Neighbourhood}
use Rattle.vr_model.specs.declared.neighbours.Neighbourhood.TheVariants as all
use Rattle.vr_model.proofs.tables.Tests.{clash, test_of_lt}
use Rattle.vr_model.proofs.routes.Lists.{held_at}
use Rattle.vr_model.proofs.moves.Times.{held_times, times_route}
use Rattle.vr_model.proofs.moves.Kept.{pair_of_test}
use Rattle.vr_routes.specs.Seats.{IsSeat, IsOnce}
use Rattle.vr_routes.proofs.OnceLemmas.{few_times}
use Rattle.vr_model.specs.moves.Kinds.{changes_activity, is_by_pair, is_by_vehicle, is_same_kind, kind_of, owner, rows_of}
use Rattle.vr_known.specs.Blocks.{Memory, AreSettled, IsApart, IsSource, common_change, covers, seen_at, changed_at, is_known, is_later, is_behind, is_kind_of}
use Rattle.vr_known.specs.Blocks.{stamp_of, first_of, second_of}
use Rattle.vr_known.proofs.Applied.{same_or_not}
use Rattle.vr_known.proofs.Pairs.{nowhere_else, some_active}
use Rattle.vr_known.proofs.RowLemmas.{one_stamp, same_kind, same_test}

-- an entry that is set below a bound leaves all below it
pub set_low : (xs : List ℕ) (i x n : ℕ) → ((j : ℕ) → slice_index_or xs j 0 ≤ n) → x ≤ n → (j : ℕ) → slice_index_or (slice_set xs i x) j 0 ≤ n
set_low [] i x n each low j = each j
set_low (y ∷ ys) zero x n each low zero = low
set_low (y ∷ ys) zero x n each low (suc j) = each (suc j)
set_low (y ∷ ys) (suc i) x n each low zero = each 0
set_low (y ∷ ys) (suc i) x n each low (suc j) = set_low ys i x n (λ j. each (suc j)) low j

not_less : (m n : ℕ) → n ≤ m → nat_lt m n ≡ false
not_less m n low = Prim.grind arith

fails_left : (a b : Bool) → a ≡ false → (a && b) ≡ false
fails_left a b e = ap (λ c. c && b) e

fails_right : (a b : Bool) → b ≡ false → (a && b) ≡ false
fails_right true b e = e
fails_right false b e = refl

-- ---- what is known

module _ (memory : Memory) (kind : Neighbourhood) (row : ℕ) where
  pub first_known : (w : ℕ) → IsTrue (is_known memory kind row w) → IsTrue (nat_lt (common_change memory kind row) (seen_at memory kind row))
  first_known w h = and_left (nat_lt (common_change memory kind row) (seen_at memory kind row)) _ h

  pub later_known : (w : ℕ) → IsTrue (is_known memory kind row w) → IsTrue (is_later memory kind row w)
  later_known w h = and_right (nat_lt (common_change memory kind row) (seen_at memory kind row)) _ h

  -- nothing is known of a row that was never refused
  pub unseen_unknown : (w : ℕ) → seen_at memory kind row ≡ 0 → is_known memory kind row w ≡ false
  unseen_unknown w e = fails_left _ (is_later memory kind row w)
      (ap (λ s. nat_lt (common_change memory kind row) s) e ∙ not_less (common_change memory kind row) 0 (omega arith))

  pub unseen_not_later : (v : ℕ) → seen_at memory kind row ≡ 0 → is_later memory kind row v ≡ false
  unseen_not_later v e = ap (λ s. nat_lt (changed_at memory v) s) e ∙ not_less (changed_at memory v) 0 (omega arith)

module _ (memory : Memory) where
  abbrev learned : ℕ → Memory
  learned i = record memory { seen = slice_set memory.seen i memory.clock }

  abbrev emptied : ℕ → Memory
  emptied i = record memory { seen = slice_set memory.seen i 0 }

  abbrev forgotten : ℕ → Memory
  forgotten v = record memory { changed = slice_set memory.changed v memory.clock }

  abbrev unsettled : Memory
  unsettled = record memory { active = memory.clock }

  -- one row is learned
  pub learns : (kind : Neighbourhood) (row i : ℕ) → i ≡ stamp_of kind row → row < rows_of kind → (k : Neighbourhood) (u w : ℕ)
      → u < rows_of k → IsTrue (is_known (learned i) k u w) → IsTrue (is_known memory k u w) ⊎ ((k ≡ kind) × (u ≡ row))
  learns kind row i is low k u w low_u h = elim (same_or_not (stamp_of k u) i) [
    | inl same ↦ inr (one_stamp k u kind row low_u low (same ∙ is))
    | inr apart ↦ inl (subst (λ s. IsTrue (nat_lt (common_change memory k u) s && nat_lt (changed_at memory w) s))
        (get_or-set_other memory.seen i (stamp_of k u) memory.clock 0 apart) h)
  ]

  -- one row is forgotten
  module _ (i : ℕ) (low : i < length memory.seen) where
    emptied_seen : (k : Neighbourhood) (u : ℕ) → (seen_at (emptied i) k u ≡ 0) ⊎ (seen_at (emptied i) k u ≡ seen_at memory k u)
    emptied_seen k u = elim (same_or_not (stamp_of k u) i) [
      | inl same ↦ inl (ap (λ j. slice_index_or (slice_set memory.seen i 0) j 0) same ∙ get_or-set_same memory.seen i 0 0 low)
      | inr apart ↦ inr (get_or-set_other memory.seen i (stamp_of k u) 0 0 apart)
    ]

    pub emptied_fewer : (k : Neighbourhood) (u w : ℕ) → IsTrue (is_known (emptied i) k u w) → IsTrue (is_known memory k u w)
    emptied_fewer k u w h = elim (emptied_seen k u) [
      | inl none ↦ absurd (clash (is_known (emptied i) k u w) h (unseen_unknown (emptied i) k u w none))
      | inr same ↦ subst (λ s. IsTrue (nat_lt (common_change memory k u) s && nat_lt (changed_at memory w) s)) same h
    ]

    pub emptied_earlier : (k : Neighbourhood) (u w : ℕ) → IsTrue (is_later (emptied i) k u w) → IsTrue (is_later memory k u w)
    emptied_earlier k u w h = elim (emptied_seen k u) [
      | inl none ↦ absurd (clash (is_later (emptied i) k u w) h (unseen_not_later (emptied i) k u w none))
      | inr same ↦ subst (λ s. IsTrue (nat_lt (changed_at memory w) s)) same h
    ]

    pub emptied_keeps : (k : Neighbourhood) (u w v : ℕ) → IsTrue (is_known (emptied i) k u w)
        → IsTrue (is_later memory k u v) → IsTrue (is_later (emptied i) k u v)
    emptied_keeps k u w v h before = elim (emptied_seen k u) [
      | inl none ↦ absurd (clash (is_known (emptied i) k u w) h (unseen_unknown (emptied i) k u w none))
      | inr same ↦ subst (λ s. IsTrue (nat_lt (changed_at memory v) s)) (sym same) before
    ]

    pub emptied_unknown : (kind : Neighbourhood) (row : ℕ) → i ≡ stamp_of kind row → (w : ℕ) → is_known (emptied i) kind row w ≡ false
    emptied_unknown kind row is w =
        unseen_unknown (emptied i) kind row w (ap (λ j. slice_index_or (slice_set memory.seen i 0) j 0) (sym is) ∙ get_or-set_same memory.seen i 0 0 low)

  module _ (each : (i : ℕ) → slice_index_or memory.seen i 0 ≤ memory.clock) where
    -- a vehicle changes now
    module _ (v : ℕ) (low : v < length memory.changed) where
      there : changed_at (forgotten v) v ≡ memory.clock
      there = get_or-set_same memory.changed v memory.clock 0 low

      pub forgets_later : (k : Neighbourhood) (u : ℕ) → is_later (forgotten v) k u v ≡ false
      forgets_later k u = ap (λ c. nat_lt c (seen_at memory k u)) there ∙ not_less memory.clock (seen_at memory k u) (each (stamp_of k u))

      pub forgets_earlier : (k : Neighbourhood) (u x : ℕ) → IsTrue (is_later (forgotten v) k u x) → IsTrue (is_later memory k u x)
      forgets_earlier k u x h = elim (same_or_not x v) [
        | inl same ↦ absurd (clash (is_later (forgotten v) k u v) (subst (λ y. IsTrue (is_later (forgotten v) k u y)) same h) (forgets_later k u))
        | inr apart ↦ subst (λ c. IsTrue (nat_lt c (seen_at memory k u))) (get_or-set_other memory.changed v x memory.clock 0 apart) h
      ]

      pub forgets : (k : Neighbourhood) (u w : ℕ) → IsTrue (is_known (forgotten v) k u w) → IsTrue (is_known memory k u w)
      forgets k u w h = and_both (nat_lt (common_change memory k u) (seen_at memory k u)) _
          (by (changes_activity k) (is_by_vehicle (owner k)) (first_known (forgotten v) k u w h))
          (forgets_earlier k u w (later_known (forgotten v) k u w h))
        where
          by : (b c : Bool) → IsTrue (nat_lt (cond b memory.active (cond c (changed_at (forgotten v) u) 0)) (seen_at memory k u))
              → IsTrue (nat_lt (cond b memory.active (cond c (changed_at memory u) 0)) (seen_at memory k u))
          by true c g = g
          by false true g = forgets_earlier k u u g
          by false false g = g

    -- activity changes now
    pub unsettled_none : (k : Neighbourhood) (u w : ℕ) → IsTrue (changes_activity k) → is_known unsettled k u w ≡ false
    unsettled_none k u w active = fails_left _ (is_later memory k u w)
        (ap (λ b. nat_lt (cond b memory.clock (cond (is_by_vehicle (owner k)) (changed_at memory u) 0)) (seen_at memory k u)) active
        ∙ not_less memory.clock (seen_at memory k u) (each (stamp_of k u)))

    pub unsettled_fewer : (k : Neighbourhood) (u w : ℕ) → IsTrue (is_known unsettled k u w) → IsTrue (is_known memory k u w)
    unsettled_fewer k u w h = elim (cases_Bool (changes_activity k)) [
      | inl active ↦ absurd (clash (is_known unsettled k u w) h (unsettled_none k u w active))
      | inr still ↦ subst (λ c. IsTrue (nat_lt c (seen_at memory k u) && is_later memory k u w)) (as_before still) h
    ]
      where
        as_before : changes_activity k ≡ false → common_change unsettled k u ≡ common_change memory k u
        as_before still = ap (λ b. cond b memory.clock (cond (is_by_vehicle (owner k)) (changed_at memory u) 0)) still
            ∙ sym (ap (λ b. cond b memory.active (cond (is_by_vehicle (owner k)) (changed_at memory u) 0)) still)

-- ---- neighbourhoods in turn

-- what was learned of the neighbourhoods so far stands in front of the move in the list of all
pub record SoFar (all : List Neighbourhood) (mv : Move) (begin now : Memory) (left : List Neighbourhood) : Type 0 where
  pub behind : (k : Neighbourhood) (u : ℕ) → IsTrue (is_behind left k u mv) → IsTrue (is_behind all k u mv)
  pub learned_so : (k : Neighbourhood) (u w : ℕ) → u < rows_of k → IsTrue (is_known now k u w) → IsTrue (is_known begin k u w) ⊎ IsTrue (is_behind all k u mv)

module _ (all : List Neighbourhood) (mv : Move) (begin now : Memory) (n : Neighbourhood)
    (left : List Neighbourhood) (so : SoFar all mv begin now (n ∷ left)) where
  abbrev told : Bool → Neighbourhood → ℕ → Bool
  told b k u = cond b (is_same_kind k (kind_of mv) && nat_lt u (first_of mv)) (is_same_kind k n || is_behind left k u mv)

  -- another neighbourhood stands in front, and its moves were learned
  pub goes_on : (next : Memory) → is_same_kind n (kind_of mv) ≡ false
      → ((k : Neighbourhood) (u w : ℕ) → u < rows_of k → IsTrue (is_known next k u w) → IsTrue (is_known now k u w) ⊎ (k ≡ n)) → SoFar all mv begin next left
  goes_on next other more = record {
    behind = λ k u h. so.behind k u (ap (λ b. told b k u) other ∙ or_right (is_same_kind k n) _ h);
    learned_so = λ k u w low h. elim (more k u w low h) [
      | inl before ↦ so.learned_so k u w low before
      | inr same ↦ inr (so.behind k u (ap (λ b. told b k u) other ∙ or_left (is_same_kind k n) _ (same_test k n same)))
    ];
  }

  -- it is that of the move: the moves of the vehicles before were learned
  pub stops : (next : Memory) → is_same_kind n (kind_of mv) ≡ true
      → ((k : Neighbourhood) (u w : ℕ) → u < rows_of k → IsTrue (is_known next k u w) → IsTrue (is_known now k u w) ⊎ ((k ≡ kind_of mv) × (u < first_of mv)))
      → (k : Neighbourhood) (u w : ℕ) → u < rows_of k → IsTrue (is_known next k u w) → IsTrue (is_known begin k u w) ⊎ IsTrue (is_behind all k u mv)
  stops next same more k u w low h = elim (more k u w low h) [
    | inl before ↦ so.learned_so k u w low before
    | inr here ↦ inr (so.behind k u
        (ap (λ b. told b k u) same ∙ and_both (is_same_kind k (kind_of mv)) _ (same_test k (kind_of mv) here.0) (test_of_lt u (first_of mv) here.1)))
  ]

-- what was learned of the neighbourhoods so far is of kinds of theirs
pub record AllSoFar (all : List Neighbourhood) (begin now : Memory) (left : List Neighbourhood) : Type 0 where
  pub kind_in : (k : Neighbourhood) → IsTrue (is_kind_of left k) → IsTrue (is_kind_of all k)
  pub learned_so : (k : Neighbourhood) (u w : ℕ) → u < rows_of k → IsTrue (is_known now k u w) → IsTrue (is_known begin k u w) ⊎ IsTrue (is_kind_of all k)

pub all_goes_on : (all : List Neighbourhood) (begin now next : Memory) (n : Neighbourhood) (left : List Neighbourhood) → AllSoFar all begin now (n ∷ left)
    → ((k : Neighbourhood) (u w : ℕ) → u < rows_of k → IsTrue (is_known next k u w) → IsTrue (is_known now k u w) ⊎ (k ≡ n)) → AllSoFar all begin next left
all_goes_on all begin now next n left so more = record {
  kind_in = λ k h. so.kind_in k (or_right (is_same_kind k n) _ h);
  learned_so = λ k u w low h. elim (more k u w low h) [
    | inl before ↦ so.learned_so k u w low before
    | inr same ↦ inr (so.kind_in k (or_left (is_same_kind k n) _ (same_test k n same)))
  ];
}

-- as the loops over neighbourhoods ask it
module _ (all : List Neighbourhood) (begin now next : Memory) (k end : ℕ) (kind d : Neighbourhood) (low : k < length all) (is : kind ≡ slice_index_or all k d)
    (more : (j : Neighbourhood) (u w : ℕ) → u < rows_of j → IsTrue (is_known next j u w) → IsTrue (is_known now j u w) ⊎ ((j ≡ kind) × (u < end))) where
  left_is : drop k all ≡ kind ∷ drop (k + 1) all
  left_is = drop-cons all k d low ∙ ap (λ n. slice_index_or all k d ∷ drop n all) (sym (add-one k)) ∙ ap (λ n. n ∷ drop (k + 1) all) (sym is)

  learned_kind : (j : Neighbourhood) (u w : ℕ) → u < rows_of j → IsTrue (is_known next j u w) → IsTrue (is_known now j u w) ⊎ (j ≡ kind)
  learned_kind j u w row h = elim (more j u w row h) [ inl before ↦ inl before | inr same ↦ inr same.0 ]

  pub notes_on : (mv : Move) → is_same_kind kind (kind_of mv) ≡ false → SoFar all mv begin now (drop k all) → SoFar all mv begin next (drop (k + 1) all)
  notes_on mv other so = goes_on all mv begin now kind (drop (k + 1) all) (subst (SoFar all mv begin now) left_is so) next other learned_kind

  pub notes_last : (mv : Move) → is_same_kind kind (kind_of mv) ≡ true → end ≡ first_of mv → SoFar all mv begin now (drop k all)
      → (j : Neighbourhood) (u w : ℕ) → u < rows_of j → IsTrue (is_known next j u w) → IsTrue (is_known begin j u w) ⊎ IsTrue (is_behind all j u mv)
  notes_last mv same ends so =
      stops all mv begin now kind (drop (k + 1) all) (subst (SoFar all mv begin now) left_is so) next same
      (λ j u w row h. elim (more j u w row h)
      [ inl before ↦ inl before | inr there ↦ inr (there.0 ∙ same_kind kind (kind_of mv) same, subst (λ n. u < n) ends there.1) ])

  pub notes_all : AllSoFar all begin now (drop k all) → AllSoFar all begin next (drop (k + 1) all)
  notes_all so = all_goes_on all begin now next kind (drop (k + 1) all) (subst (AllSoFar all begin now) left_is so) learned_kind

-- ---- no stamps

pub zeros : (n i : ℕ) → slice_index_or (replicate n zero) i zero ≡ zero
zeros zero i = refl
zeros (suc n) zero = refl
zeros (suc n) (suc i) = zeros n i

-- where no row was ever refused, nothing is known
pub knows_nothing : (memory : Memory) → ((i : ℕ) → slice_index_or memory.seen i 0 ≡ 0) → (kind : Neighbourhood) (row w : ℕ) → is_known memory kind row w ≡ false
knows_nothing memory none kind row w = unseen_unknown memory kind row w (none (stamp_of kind row))

-- a memory without stamps knows nothing
pub knows_none : (memory : Memory) → length memory.seen ≡ 0 → (kind : Neighbourhood) (row w : ℕ) → is_known memory kind row w ≡ false
knows_none memory e kind row w = unseen_unknown memory kind row w (get_or_past memory.seen (stamp_of kind row) 0 (omega (arith, e)))

-- ---- pairs and the vehicles that serve them

module _ (lists : List (List ℕ)) where
  held_active : (x v : ℕ) → IsTrue (holds (route lists v) x) → IsTrue (is_active lists x)
  held_active x v h = let one = held_times x (route lists v) h in let all = times_route x lists v in some_active lists x (omega (arith, one, all))

  pub nowhere_held : (x v : ℕ) → is_active lists x ≡ false → IsTrue (holds (route lists v) x) → ⊥
  nowhere_held x v none h = clash (is_active lists x) (held_active x v h) none

  pub seat_held : (x v k : ℕ) → IsSeat lists x v k → IsTrue (holds (route lists v) x)
  seat_held x v k seat = held_at (route lists v) x k seat.place seat.found

  -- the list that holds a node is the one where it stands
  pub held_once : IsOnce lists → (x v k u : ℕ) → IsSeat lists x v k → IsTrue (holds (route lists u) x) → u ≡ v
  held_once once x v k u seat h = elim (same_or_not u v) [
    | inl same ↦ same
    | inr apart ↦ absurd (
        let none = nowhere_else lists x v u (few_times x lists (once x)) (seat_held x v k seat) apart in
        let one = held_times x (route lists u) h in
        omega (arith, none, one))
  ]

-- what is settled of the pairs so far
pub record SettledSoFar (model : Model) (lists : List (List ℕ)) (begin now : Memory) (n : ℕ) : Type 0 where
  pub fewer : (k : Neighbourhood) (u w : ℕ) → IsTrue (is_known now k u w) → IsTrue (is_known begin k u w)
  pub earlier : (k : Neighbourhood) (u w : ℕ) → IsTrue (is_later now k u w) → IsTrue (is_later begin k u w)
  pub settled : (kind : Neighbourhood) (p w v : ℕ) → IsTrue (is_by_pair (owner kind)) → p < n
      → IsTrue (is_known now kind p w) → IsTrue (holds (route lists v) (pair_at model p).pickup) → IsTrue (is_later now kind p v)

-- the row of a pair and a kind is forgotten where the list of a vehicle has changed since
pub record SettlesRow (now next : Memory) (kind : Neighbourhood) (n at : ℕ) : Type 0 where
  pub fewer : (k : Neighbourhood) (u w : ℕ) → IsTrue (is_known next k u w) → IsTrue (is_known now k u w)
  pub earlier : (k : Neighbourhood) (u w : ℕ) → IsTrue (is_later next k u w) → IsTrue (is_later now k u w)
  pub keeps : (k : Neighbourhood) (u w v : ℕ) → IsTrue (is_known next k u w) → IsTrue (is_later now k u v) → IsTrue (is_later next k u v)
  pub settled : (w : ℕ) → IsTrue (is_known next kind n w) → IsTrue (is_later next kind n at)

module _ (model : Model) (lists : List (List ℕ)) (begin now : Memory) (n : ℕ) (so : SettledSoFar model lists begin now n) where
  -- a pair that no vehicle serves
  pub settles_none : is_active lists (pair_at model n).pickup ≡ false → SettledSoFar model lists begin now (n + 1)
  settles_none none = record {
    fewer = so.fewer;
    earlier = so.earlier;
    settled = λ kind p w v paired low known h. elim (cases_lt p n) [
      | inl before ↦ so.settled kind p w v paired before known h
      | inr here ↦ absurd (nowhere_held lists (pair_at model n).pickup v none
          (subst (λ q. IsTrue (holds (route lists v) (pair_at model q).pickup)) (let e : p ≡ n = omega (arith, low, here) in e) h))
    ];
  }

  -- a pair whose rows of both kinds are settled one after the other
  pub settles_one : (mid next : Memory) (at k : ℕ) → IsOnce lists → IsSeat lists (pair_at model n).pickup at k
      → SettlesRow now mid all.RelocatePair n at → SettlesRow mid next all.PairInactive n at → SettledSoFar model lists begin next (n + 1)
  settles_one mid next at k once seat put out = record {
    fewer = λ j u w h. so.fewer j u w (put.fewer j u w (out.fewer j u w h));
    earlier = λ j u w h. so.earlier j u w (put.earlier j u w (out.earlier j u w h));
    settled = λ kind p w v paired low known h. elim (cases_lt p n) [
      | inl before ↦ (
          let before_out = out.fewer kind p w known in
          out.keeps kind p w v known (put.keeps kind p w v before_out (so.settled kind p w v paired before (put.fewer kind p w before_out) h)))
      | inr here ↦ (
          let same : p ≡ n = omega (arith, low, here) in
          let is : v ≡ at = held_once lists once (pair_at model n).pickup at k v seat
          (subst (λ q. IsTrue (holds (route lists v) (pair_at model q).pickup)) same h) in
          subst (λ q. IsTrue (is_later next kind q v)) (sym same)
          (subst (λ x. IsTrue (is_later next kind n x)) (sym is) (here_settled kind w paired (subst (λ q. IsTrue (is_known next kind q w)) same known))))
    ];
  }
    where
      here_settled : (kind : Neighbourhood) (w : ℕ) → IsTrue (is_by_pair (owner kind)) → IsTrue (is_known next kind n w) → IsTrue (is_later next kind n at)
      here_settled all.RelocatePair w paired known = out.keeps all.RelocatePair n w at known (put.settled w (out.fewer all.RelocatePair n w known))
      here_settled all.PairInactive w paired known = out.settled w known
      here_settled kind w paired known = absurd (false≢true paired)

-- ---- moves that are known still after another was made

-- the list of a vehicle from which a known move takes has not changed either
module _ (model : Model) (lists : List (List ℕ)) (memory : Memory) (settled : AreSettled model lists memory) where
  later_first : (k : Neighbourhood) (u w : ℕ) → changes_activity k ≡ false → IsTrue (is_by_vehicle (owner k))
      → IsTrue (is_known memory k u w) → (v : ℕ) → v ≡ u → IsTrue (is_later memory k u v)
  later_first k u w still owned known v is =
      subst (λ x. IsTrue (is_later memory k u x)) (sym is) (subst (λ c. IsTrue (nat_lt c (seen_at memory k u))) is_first (first_known memory k u w known))
    where
      is_first : common_change memory k u ≡ changed_at memory u
      is_first = ap (λ b. cond b memory.active (cond (is_by_vehicle (owner k)) (changed_at memory u) 0)) still ∙ ap (λ b. cond b (changed_at memory u) 0) owned

  later_second : (k : Neighbourhood) (w : ℕ) → IsTrue (is_known memory k 0 w) → (v : ℕ) → v ≡ w → IsTrue (is_later memory k 0 v)
  later_second k w known v is = subst (λ x. IsTrue (is_later memory k 0 x)) (sym is) (later_known memory k 0 w known)

  pub later_source : (m : Move) → IsTrue (is_move model lists m) → IsTrue (is_known memory (kind_of m) (first_of m) (second_of m))
      → (v : ℕ) → IsSource model lists m v → IsTrue (is_later memory (kind_of m) (first_of m) v)
  later_source (TwoOpt x a b) one known v is = later_first all.TwoOpt x x refl refl known v is
  later_source (OrOpt x a k t) one known v is = later_first all.OrOpt x x refl refl known v is
  later_source (Relocate x a w t) one known v is = later_first all.Relocate x w refl refl known v is
  later_source (Exchange x a w b) one known v is = later_first all.Exchange x w refl refl known v is
  later_source (Cross x a w b) one known v is = later_first all.Cross x w refl refl known v is
  later_source (RelocatePair p w s t) one known v is = settled all.RelocatePair p w v refl (pair_low one) known is
    where
      pair_low : IsTrue (is_move model lists (RelocatePair p w s t)) → p < length model.pairs
      pair_low one =
          let others = and_right (is_pair_served model lists p) _ one in
          pair_of_test model lists p
          (and_left (nat_lt p (length model.pairs)) _
          (and_left (may_put_pair model lists p w (length (without_pair (pair_at model p) (route lists w))) s t) _ others))
  later_source (PairActive p w s t) one known v is = later_second all.PairActive w known v is
  later_source (PairInactive p) one known v is =
      settled all.PairInactive p 0 v refl (pair_of_test model lists p (and_left (nat_lt p (length model.pairs)) _ one)) known is
  later_source (MakeActive u w t) one known v is = later_second all.MakeActive w known v is
  later_source (MakeInactive x a) one known v is = later_second all.MakeInactive x known v is
  later_source (SwapActive x a u) one known v is = later_second all.SwapActive x known v is

module _ (model : Model) (lists : List (List ℕ)) (made : Move) (first second : ℕ) (mid memory : Memory)
    (no_first : (k : Neighbourhood) (u : ℕ) → is_later mid k u first ≡ false) (no_second : (k : Neighbourhood) (u : ℕ) → is_later mid k u second ≡ false)
    (activity : (k : Neighbourhood) (u w : ℕ) → IsTrue (changes_activity k) → IsTrue (is_known mid k u w) → changes_activity (kind_of made) ≡ false)
    (fewer : (k : Neighbourhood) (u w : ℕ) → IsTrue (is_known memory k u w) → IsTrue (is_known mid k u w))
    (earlier : (k : Neighbourhood) (u w : ℕ) → IsTrue (is_later memory k u w) → IsTrue (is_later mid k u w))
    (settled : AreSettled model lists memory) where
  off : (k : Neighbourhood) (u v : ℕ) → IsTrue (is_later memory k u v) → (v ≢ first) × (v ≢ second)
  off k u v later = (
    λ e. clash (is_later mid k u first) (subst (λ x. IsTrue (is_later mid k u x)) e (earlier k u v later)) (no_first k u),
    λ e. clash (is_later mid k u second) (subst (λ x. IsTrue (is_later mid k u x)) e (earlier k u v later)) (no_second k u),
  )

  pub are_apart : (m : Move) → IsTrue (is_move model lists m) → IsTrue (covers memory m) → IsApart model lists made first second m
  are_apart m one covered =
      record {
        source = λ v is. off (kind_of m) (first_of m) v (later_source model lists memory settled m one covered v is);
        target = off (kind_of m) (first_of m) (second_of m) (later_known memory (kind_of m) (first_of m) (second_of m) covered);
        active = λ high. activity (kind_of m) (first_of m) (second_of m) high (fewer (kind_of m) (first_of m) (second_of m) covered);
      }

-- where nothing is known, that holds of all
pub none_apart : (model : Model) (lists : List (List ℕ)) (made : Move) (first second : ℕ) (memory : Memory) → length memory.seen ≡ 0
    → (m : Move) → IsTrue (is_move model lists m) → IsTrue (covers memory m) → IsApart model lists made first second m
none_apart model lists made first second memory e m one covered =
    absurd (clash (is_known memory (kind_of m) (first_of m) (second_of m)) covered (knows_none memory e (kind_of m) (first_of m) (second_of m)))

pub none_settled : (model : Model) (lists : List (List ℕ)) (memory : Memory) → length memory.seen ≡ 0 → AreSettled model lists memory
none_settled model lists memory e kind p w v paired low known h = absurd (clash (is_known memory kind p w) known (knows_none memory e kind p w))
