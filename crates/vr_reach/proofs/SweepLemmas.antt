-- Rows that are written one after another.
use Rattle.std.proofs.Common.{◌≡◌, ℕ, zero, suc, Bool, true, false, Option, Some, None, ◌+◌, ◌<◌, ◌≤◌, List, [], ◌∷◌, ◌++◌, length, get_or, set, take, drop, ℤ}
use Rattle.std.proofs.Common.{inl, inr, refl, sym, subst, ap, ◌∙◌, arith}
use Rattle.std.specs.Prelude.{IsTrue, ◌↔◌, is_some, IsNone, IfSome}
use Rattle.std.proofs.lemmas.Bool.{cases_lt}
use Rattle.std.proofs.lemmas.List.{get_or-set_same, get_or-set_other, length-set}
use Rattle.vr_spans.specs.declared.runs.Run.{Run}
use Rattle.vr_model.specs.schedules.Lines.{Line as Defined}
use Rattle.vr_model.specs.schedules.Schedules.{IsFeasible}
use Rattle.vr_steps.specs.declared.hops.Hop.{Hop}
use Rattle.vr_steps.specs.declared.lines.Line.{Line}
use Rattle.vr_steps.specs.Levels.{AreLevels, AreStartLevels, AreEndLevels, AreCrossed, AreCrossedBack}
use Rattle.vr_steps.specs.Lines.{IsLineOf, IsSoundLine}
use Rattle.vr_steps.specs.Reached.{LinesStandForTheirs, StartIsReached, ReachedBehindArc, EndIsReached, EndReachedBeforeArc, FeasibleWhereShared, IsAllowedSet}
use Rattle.vr_steps.specs.Reached.{AreReached, AreReachingEnd, hop_at}
use Rattle.vr_reach.specs.Rows.{BothWays, row_at, IsForwardRow, IsBackwardRow, AreRows}
use Rattle.vr_reach.specs.Shared.{SharedAt}

abbrev pub HoldUpto : (ℕ → List (List Run) → Type 0) → ℕ → List (List (List Run)) → Type 0
HoldUpto P k rows = (j : ℕ) → j ≤ k → P j (row_at rows j)

abbrev pub HoldFrom : (ℕ → List (List Run) → Type 0) → ℕ → List (List (List Run)) → Type 0
HoldFrom P k rows = (j : ℕ) → k ≤ j → j < length rows → P j (row_at rows j)

-- a row that was read from a part of the rows
pub read_front : (rows : List (List (List Run))) (n k : ℕ) (d : List (List Run)) → k < n → k < length rows → get_or (take n rows) k d ≡ row_at rows k
read_front [] n k d low lt = absurd (omega (arith, lt))
read_front (r ∷ rs) zero k d low lt = absurd (omega (arith, low))
read_front (r ∷ rs) (suc n) zero d low lt = refl
read_front (r ∷ rs) (suc n) (suc k) d low lt = read_front rs n k d (omega (arith, low)) (omega (arith, lt))

pub read_back : (rows : List (List (List Run))) (k : ℕ) (d : List (List Run)) → k < length rows → get_or (drop k rows) 0 d ≡ row_at rows k
read_back [] k d lt = absurd (omega (arith, lt))
read_back (r ∷ rs) zero d lt = refl
read_back (r ∷ rs) (suc k) d lt = read_back rs k d (omega (arith, lt))

-- a row that is written in a part of the rows
pub set_back : (rows : List (List (List Run))) (k : ℕ) (new : List (List Run)) → take k rows ++ set (drop k rows) 0 new ≡ set rows k new
set_back rows zero new = refl
set_back [] (suc k) new = refl
set_back (r ∷ rs) (suc k) new = ap (λ xs. r ∷ xs) (set_back rs k new)

set_front_at : (rows : List (List (List Run))) (k : ℕ) (new : List (List Run)) → set (take (suc k) rows) k new ++ drop (suc k) rows ≡ set rows k new
set_front_at [] k new = refl
set_front_at (r ∷ rs) zero new = refl
set_front_at (r ∷ rs) (suc k) new = ap (λ xs. r ∷ xs) (set_front_at rs k new)

pub set_front : (rows : List (List (List Run))) (k : ℕ) (new : List (List Run)) → set (take (k + 1) rows) k new ++ drop (k + 1) rows ≡ set rows k new
set_front rows k new = let e : k + 1 ≡ suc k = omega arith in rw e (set_front_at rows k new)

pub hold_first : (P : ℕ → List (List Run) → Type 0) (rows : List (List (List Run))) (new : List (List Run))
    → 0 < length rows → P 0 new → HoldUpto P 0 (set rows 0 new)
hold_first P rows new lt here j le =
    let e : 0 ≡ j = omega (arith, le) in
    subst (λ n. P n (row_at (set rows 0 new) n)) e (subst (P 0) (sym (get_or-set_same rows 0 new [] lt)) here)

pub hold_next : (P : ℕ → List (List Run) → Type 0) (k : ℕ) (rows : List (List (List Run))) (new : List (List Run))
    → k + 1 < length rows → HoldUpto P k rows → P (k + 1) new → HoldUpto P (k + 1) (set rows (k + 1) new)
hold_next P k rows new lt before here j le = elim (cases_lt j (k + 1)) [
  | inl earlier ↦ subst (P j) (sym (get_or-set_other rows (k + 1) j new [] (omega (arith, earlier)))) (before j (omega (arith, earlier)))
  | inr at ↦ (let e : k + 1 ≡ j = omega (arith, le, at) in
      subst (λ n. P n (row_at (set rows (k + 1) new) n)) e (subst (P (k + 1)) (sym (get_or-set_same rows (k + 1) new [] lt)) here))
]

pub hold_last : (P : ℕ → List (List Run) → Type 0) (k : ℕ) (rows : List (List (List Run))) (new : List (List Run))
    → length rows ≡ k + 1 → P k new → HoldFrom P k (set rows k new)
hold_last P k rows new long here j low lt =
    let n = length-set rows k new in
    let e : k ≡ j = omega (arith, low, lt, n, long) in
    subst (λ n. P n (row_at (set rows k new) n)) e (subst (P k) (sym (get_or-set_same rows k new [] (omega (arith, long)))) here)

pub hold_earlier : (P : ℕ → List (List Run) → Type 0) (k : ℕ) (rows : List (List (List Run))) (new : List (List Run))
    → k < length rows → HoldFrom P (suc k) rows → P k new → HoldFrom P k (set rows k new)
hold_earlier P k rows new lt behind here j low less = elim (cases_lt k j) [
  | inl later ↦ subst (P j) (sym (get_or-set_other rows k j new [] (omega (arith, later))))
      (behind j (omega (arith, later)) (let n = length-set rows k new in omega (arith, less, n)))
  | inr at ↦ (let e : k ≡ j = omega (arith, low, at) in
      subst (λ n. P n (row_at (set rows k new) n)) e (subst (P k) (sym (get_or-set_same rows k new [] lt)) here))
]

module _ (stands : LinesStandForTheirs) (made : Line) (sound : IsSoundLine made) where
  -- the levels of the start
  pub begun : StartIsReached → (set : List Run) (levels : List (List Run)) → ((d : List Run) → get_or made.allowed 0 d ≡ set)
      → AreStartLevels set made.breaks levels → AreLevels made.breaks levels → IsForwardRow made 0 levels
  begun law set levels is are fit = record {
    form = fit;
    exact = λ defined of.
        let s = stands defined made of sound in
        law defined s.sound set levels (subst (IsAllowedSet defined 0) (is []) (s.allowed 0 (omega (arith, sound.stops))))
        (subst (λ rows. AreStartLevels set rows levels) (sym s.breaks) are);
  }

  -- the levels behind an arc
  pub pushed : ReachedBehindArc → (k : ℕ) (set : List Run) (hop : Hop) (from levels : List (List Run))
      → k < length made.hops → ((d : List Run) → get_or made.allowed (k + 1) d ≡ set) → ((d : Hop) → get_or made.hops k d ≡ hop)
      → IsForwardRow made k from → AreCrossed from hop set made.breaks levels → AreLevels made.breaks levels → IsForwardRow made (k + 1) levels
  pushed law k set hop from levels lt is hop_is before crossed fit = record {
    form = fit;
    exact = λ defined of.
        let s = stands defined made of sound in
        let here : hop ≡ hop_at defined k = sym (hop_is hop) ∙ s.hops k hop lt in
        let next : k + 1 ≡ suc k = omega arith in
        let allowed : IsAllowedSet defined (suc k) set = subst (λ i. IsAllowedSet defined i set) next
        (subst (IsAllowedSet defined (k + 1)) (is []) (s.allowed (k + 1) (omega (arith, sound.stops)))) in
        subst (λ i. AreReached defined i levels) (sym next) (law defined s.sound k (omega (arith, s.arcs)) set from levels allowed (before.exact defined of)
        (subst (λ rows. AreCrossed from (hop_at defined k) set rows levels) (sym s.breaks)
        (subst (λ h. AreCrossed from h set made.breaks levels) here crossed)));
  }

  -- the levels of the end
  pub ended : EndIsReached → (k : ℕ) (set : List Run) (levels : List (List Run)) → k ≡ length made.hops
      → ((d : List Run) → get_or made.allowed k d ≡ set) → AreEndLevels set made.breaks levels → AreLevels made.breaks levels → IsBackwardRow made k levels
  ended law k set levels last is are fit = record {
    form = fit;
    exact = λ defined of.
        let s = stands defined made of sound in
        let same : length defined.arcs ≡ k = s.arcs ∙ sym last in
        let allowed : IsAllowedSet defined k set = subst (IsAllowedSet defined k) (is []) (s.allowed k (omega (arith, sound.stops, last))) in
        subst (λ i. AreReachingEnd defined i levels) same
        (law defined s.sound set levels (subst (λ i. IsAllowedSet defined i set) (sym same) allowed)
        (subst (λ rows. AreEndLevels set rows levels) (sym s.breaks) are));
  }

  -- the levels before an arc
  pub pulled : EndReachedBeforeArc → (k : ℕ) (set : List Run) (hop : Hop) (to levels : List (List Run))
      → k < length made.hops → ((d : List Run) → get_or made.allowed k d ≡ set) → ((d : Hop) → get_or made.hops k d ≡ hop)
      → IsBackwardRow made (suc k) to → AreCrossedBack to hop set made.breaks levels → AreLevels made.breaks levels → IsBackwardRow made k levels
  pulled law k set hop to levels lt is hop_is behind crossed fit = record {
    form = fit;
    exact = λ defined of.
        let s = stands defined made of sound in
        let here : hop ≡ hop_at defined k = sym (hop_is hop) ∙ s.hops k hop lt in
        let allowed : IsAllowedSet defined k set = subst (IsAllowedSet defined k) (is []) (s.allowed k (omega (arith, sound.stops, lt))) in
        law defined s.sound k (omega (arith, s.arcs, lt)) set to levels allowed (behind.exact defined of)
        (subst (λ rows. AreCrossedBack to (hop_at defined k) set rows levels) (sym s.breaks)
        (subst (λ h. AreCrossedBack to h set made.breaks levels) here crossed));
  }

-- the levels of a stop share a cumul exactly where the line is feasible
pub feasible_at_start : LinesStandForTheirs → FeasibleWhereShared → (line : Line) (rows : BothWays) → AreRows line rows
    → (defined : Defined) → IsLineOf defined line → ((x : ℤ) × SharedAt (row_at rows.forward 0) (row_at rows.backward 0) x) ↔ IsFeasible defined
feasible_at_start stands law line rows are defined of =
    let s = stands defined line of are.sound in
    let n = are.sound.stops in
    let ahead = are.forward.each 0 (omega (arith, n)) in
    let back = are.backward.each 0 (omega (arith, n)) in
    let long = ahead.form.one_more in
    let long_back = back.form.one_more in
    let same = ap length s.breaks in
    let there = law defined s.sound 0 (omega arith) (row_at rows.forward 0) (row_at rows.backward 0) (ahead.exact defined of) (back.exact defined of) in (
      λ shared. let m = shared.1 in there.1 (m.0, let lt = m.1 in omega (arith, lt, long, same), shared.0, m.3, m.4),
      λ feasible. let m = there.0 feasible in
          (m.2, (m.0, let le = m.1 in omega (arith, le, long, same), let le = m.1 in omega (arith, le, long_back, same), m.3, m.4)),
    )

-- whether a least cumul was found is whether there is a shared one
pub found_where_shared : (P Q : ℤ → Type 0) → ((x : ℤ) → Q x → P x) → (found : Option ℤ) (some : Bool)
    → some ≡ is_some found → (IsNone found → (x : ℤ) → P x → ⊥) → IfSome found Q → IsTrue some ↔ ((x : ℤ) × P x)
found_where_shared P Q weaker None some is none there = (λ t. absurd (let f : false ≡ true → ⊥ = λ e. cc in f (sym is ∙ t)), λ m. absurd (none refl m.0 m.1))
found_where_shared P Q weaker (Some x) some is none there = (λ t. (x, weaker x there), λ m. is)
