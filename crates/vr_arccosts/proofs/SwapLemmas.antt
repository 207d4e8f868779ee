-- What an inactive visit adds that takes the place of a node.
use Rattle.std.proofs.Common.{◌≡◌, ◌∙◌, ℕ, ◌<◌, ◌≤◌, Bool, true, false, cond, not, List, [], ◌∷◌, length, refl, sym, ap, subst, arith, inl, inr}
use Rattle.std.specs.Prelude.{IsTrue, ℤ, ◌≤ℤ◌, ◌==◌, filter, slice_index, slice_set}
use Rattle.std.specs.List.Sorted.{IsStrictlyIncreasing}
use Rattle.std.proofs.lemmas.Bool.{cases_lt}
use Rattle.std.proofs.lemmas.List.Kept.{AllPairs-from_increasing}
use Rattle.vr_model.specs.deciding.Testing.{and_left, and_right, eq_of_test, or_cases, or_left, or_right}
use Rattle.vr_model.specs.moves.MoveTests.{is_inactive, is_move, is_place, is_vehicle}
use Rattle.vr_model.specs.tables.Tables.{is_visit, visits}
use Rattle.vr_model.specs.routes.Routes.{holds, is_active, route}
use Rattle.vr_model.specs.declared.records.Model.{Model}
use Rattle.vr_model.specs.declared.neighbours.Move.TheVariants.{SwapActive}
use Rattle.vr_model.proofs.tables.Tests.{clash}
use Rattle.vr_routes.specs.Tours.{inactive_of}
use Rattle.vr_routes.proofs.FactLemmas.{of_swap_active}
use Rattle.vr_routes.proofs.TourLemmas.{visit_held}
use Rattle.vr_arccosts.specs.Runs.{AddsNoLess, swap_added}
use Rattle.vr_arccosts.proofs.MoveLemmas.{one-list}
use Rattle.vr_arccosts.proofs.RunLemmas.{swap-adds}

-- of ascending numbers the lesser stands in front
pub earlier : (xs : List ℕ) (j k : ℕ) → IsStrictlyIncreasing xs → j < length xs → slice_index xs j < slice_index xs k → j < k
earlier xs j k ascend low less = elim (cases_lt j k) [
  | inl before ↦ before
  | inr past ↦ elim (cases_lt k j) [
    | inl behind ↦ absurd (let more = AllPairs-from_increasing xs ascend k j 0 behind low in omega (arith, more, less))
    | inr also ↦ absurd (let same : j ≡ k = omega (arith, past, also) in let e = ap (slice_index xs) same in omega (arith, e, less))
  ]
]

-- a number that is not below another one does not stand in front of the first such one
pub not-in-front : (xs : List ℕ) (j start from : ℕ) → ((k : ℕ) → k < start → slice_index xs k < from) → from ≤ slice_index xs j → start ≤ j
not-in-front xs j start from below high = elim (cases_lt j start) [
  | inl front ↦ absurd (let low = below j front in omega (arith, low, high))
  | inr past ↦ past
]

-- a number of a list that passes is one of those that are kept
held-kept : (p : ℕ → Bool) (xs : List ℕ) (x : ℕ) → IsTrue (holds xs x) → p x ≡ true → IsTrue (holds (filter p xs) x)
held-kept p [] x held passes = absurd (clash false held refl)
held-kept p (y ∷ ys) x held passes = elim (or_cases (x == y) (holds ys x) held) [
  | inl here ↦ (let there : p y ≡ true = subst (λ z. p z ≡ true) (eq_of_test x y here) passes in
      subst (λ b. IsTrue (holds (cond b (y ∷ filter p ys) (filter p ys)) x)) (sym there) (or_left (x == y) _ here))
  | inr behind ↦ by (p y) (held-kept p ys x behind passes)
]
  where
    by : (b : Bool) → IsTrue (holds (filter p ys) x) → IsTrue (holds (cond b (y ∷ filter p ys) (filter p ys)) x)
    by true held = or_right (x == y) _ held
    by false held = held

module _ (model : Model) (lists : List (List ℕ)) where
  -- the visit that takes the place is one of the inactive ones
  pub newcomer-held : (v a u : ℕ) → is_move model lists (SwapActive v a u) ≡ true → IsTrue (holds (inactive_of (visits model) lists) u)
  newcomer-held v a u one =
      let idle = and_right (is_place lists v a) (is_inactive model lists u) (and_right (is_vehicle lists v) _ one) in
      held-kept (λ node. not (is_active lists node)) (visits model) u
      (visit_held model u (and_left (is_visit model u) _ idle)) (and_right (is_visit model u) _ idle)

  -- it adds what the arcs beside the place cost more
  pub swap-in-no-less : (v a u : ℕ) (bound : ℤ) → bound ≤ℤ swap_added model v (route lists v) a u → AddsNoLess model lists (SwapActive v a u) bound
  swap-in-no-less v a u bound low one =
      let facts = of_swap_active model lists v a u one in
      subst (λ d. bound ≤ℤ d)
      (swap-adds model lists v a u facts.place ∙ one-list model lists (SwapActive v a u) v (slice_set (route lists v) a u) facts.vehicle refl) low
