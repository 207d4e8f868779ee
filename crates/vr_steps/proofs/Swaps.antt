-- Two neighbours that change places: what both lists share, and what the change weighs.
use Rattle.std.proofs.Common.{◌≡◌, ◌≢◌, ◌∙◌, ℕ, suc, ◌+◌, ◌-◌, false, cond, List, [], ◌∷◌, ◌++◌, length, reverse, refl, sym, ap, ap₂, arith}
use Rattle.std.specs.Prelude.{IsTrue, ◌&&◌, ◌||◌, ◌==◌, not}
use Rattle.std.proofs.lemmas.List.{append_assoc, length-append, length-reverse, reverse-append}
use Rattle.vr_model.specs.routes.Routes.{holds, is_distinct, is_empty, is_same}
use Rattle.vr_model.specs.schedules.Lines.{line}
use Rattle.vr_model.specs.schedules.Levels.{FeasibleWhereLevelsMeet, ReachedAtStart, ReachedByCrossing, ReachedAtEnd, EndReachedByCrossing}
use Rattle.vr_model.specs.schedules.ChosenLaws.{ChosenWhereFeasible, ReachedAsTested, EndReachedAsTested}
use Rattle.vr_model.specs.schedules.SoundLines.{LinesAreSound}
use Rattle.vr_model.specs.schedules.Weights.{shared_front, shared_back, walk_weight}
use Rattle.vr_model.specs.deciding.Testing.{and_left, and_right, or_left, test_of_eq}
use Rattle.vr_model.proofs.tables.Tests.{apart, clash, fails_not}
use Rattle.vr_model.proofs.schedules.LineArcs.{arcs_of_line}
use Rattle.vr_steps.specs.Reached.{ArcAlone, RunsAreCounted}
use Rattle.vr_steps.specs.Even.{SwapIsFeasible, SwapWeighsFive}
use Rattle.vr_steps.proofs.EvenLines.{steady}
use Rattle.vr_steps.proofs.Steady.{goes_through, three_arcs}

shared_before : (front rest others : List ℕ) (a b : ℕ) → a ≢ b → shared_front (front ++ a ∷ rest) (front ++ b ∷ others) ≡ length front
shared_before [] rest others a b other = ap (λ t. cond t (1 + shared_front rest others) 0) (apart a b other)
shared_before (x ∷ front) rest others a b other =
    ap (λ t. cond t (1 + shared_front (front ++ a ∷ rest) (front ++ b ∷ others)) 0) (test_of_eq x x refl)
    ∙ (let e = shared_before front rest others a b other in omega (arith, e))

turned : (front back : List ℕ) (a b : ℕ) → reverse (front ++ a ∷ b ∷ back) ≡ reverse back ++ b ∷ a ∷ reverse front
turned front back a b =
    reverse-append front (a ∷ b ∷ back)
    ∙ (ap (λ xs. xs ++ reverse front) (reverse-append (a ∷ b ∷ []) back)
    ∙ append_assoc (reverse back) (b ∷ a ∷ []) (reverse front))

shared_behind : (front back : List ℕ) (a b : ℕ) → a ≢ b → shared_back (front ++ a ∷ b ∷ back) (front ++ b ∷ a ∷ back) ≡ length back
shared_behind front back a b other =
    ap₂ shared_front (turned front back a b) (turned front back b a)
    ∙ (shared_before (reverse back) (a ∷ reverse front) (b ∷ reverse front) b a (λ e. other (sym e)) ∙ length-reverse back)

not_same : (front rest others : List ℕ) (a b : ℕ) → a ≢ b → is_same (front ++ a ∷ rest) (front ++ b ∷ others) ≡ false
not_same [] rest others a b other = ap (λ t. t && is_same rest others) (apart a b other)
not_same (x ∷ front) rest others a b other =
    ap (λ t. t && is_same (front ++ a ∷ rest) (front ++ b ∷ others)) (test_of_eq x x refl) ∙ not_same front rest others a b other

not_empty : (front rest : List ℕ) (a : ℕ) → is_empty (front ++ a ∷ rest) ≡ false
not_empty [] rest a = refl
not_empty (x ∷ front) rest a = refl

differ : (front back : List ℕ) (a b : ℕ) → IsTrue (is_distinct (front ++ b ∷ a ∷ back)) → a ≢ b
differ [] back a b distinct = λ e.
    clash (holds (a ∷ back) b) (or_left (b == a) _ (test_of_eq b a (sym e))) (fails_not (holds (a ∷ back) b) (and_left (not (holds (a ∷ back) b)) _ distinct))
differ (x ∷ front) back a b distinct = differ front back a b (and_right (not (holds (front ++ b ∷ a ∷ back) x)) _ distinct)

module _ (sound : LinesAreSound) (at_start : ReachedAtStart) (crossing : ReachedByCrossing)
    (at_end : ReachedAtEnd) (back_over : EndReachedByCrossing) (alone : ArcAlone) where
  pub weighs_five : ReachedAsTested → EndReachedAsTested → RunsAreCounted → SwapWeighsFive
  weighs_five tested end_tested counted model even front back a b tour =
      let old : List ℕ = front ++ a ∷ b ∷ back in
      let new : List ℕ = front ++ b ∷ a ∷ back in
      let other : a ≢ b = differ front back a b tour.distinct in
      let some : is_empty new ≡ false = not_empty front (a ∷ back) b in
      let n : length new ≡ length front + suc (suc (length back)) = length-append front (b ∷ a ∷ back) in
      let arcs = arcs_of_line model 0 0 new in
      let last : length new + 1 - shared_back old new ≡ length front + 3 = (let s = shared_behind front back a b other in omega (arith, n, s)) in
      let weight = three_arcs (line model 0 0 new) (steady model even sound new some tour.visits tour.distinct tour.few) at_start
      crossing at_end back_over tested end_tested alone counted (length front) (length back) (omega (arith, n, arcs)) in
      ap₂ (λ s t. cond (s || t) 0 (walk_weight (line model 0 0 new) (shared_front old new) (length new + 1 - shared_back old new)))
      some (not_same front (b ∷ back) (a ∷ back) a b other)
      ∙ (ap₂ (λ m e. walk_weight (line model 0 0 new) m e) (shared_before front (b ∷ back) (a ∷ back) a b other) last ∙ weight)

  pub goes : FeasibleWhereLevelsMeet → ChosenWhereFeasible → SwapIsFeasible
  goes meet chosen model even front back a b tour =
      let new : List ℕ = front ++ b ∷ a ∷ back in
      let some : is_empty new ≡ false = not_empty front (a ∷ back) b in
      let arcs = arcs_of_line model 0 0 new in
      (chosen (line model 0 0 new)).1 (goes_through (line model 0 0 new) (steady model even sound new some tour.visits tour.distinct tour.few)
      at_start crossing at_end back_over alone meet (length new) (omega (arith, arcs)))
