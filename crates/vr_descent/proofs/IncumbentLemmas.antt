-- The best lists so far, and others beside them.
use Rattle.std.proofs.Common.{◌≡◌, ◌∙◌, ℕ, Bool, true, false, cond, List, refl, sym, ap, ap₂, subst, arith}
use Rattle.std.proofs.lemmas.Int.{ints}
use Rattle.std.specs.Prelude.{ℤ, int_lt, ◌≤ℤ◌, IsTrue}
use Rattle.vr_model.specs.routes.Costs.{cost}
use Rattle.vr_model.specs.routes.Rules.{is_valid}
use Rattle.vr_model.specs.search.Outcomes.{cheaper}
use Rattle.vr_model.specs.declared.records.Model.{Model}
use Rattle.vr_routes.specs.Tours.{Tours}
use Rattle.vr_descent.specs.declared.incumbent.Incumbent.{Incumbent}
use Rattle.vr_descent.specs.Incumbents.{IsBest, kept}

-- the better of two
pub better : (model : Model) (visits : List ℕ) (best new : Incumbent) (b : Bool)
    → IsBest model visits best → IsBest model visits new → IsBest model visits (cond b new best)
better model visits best new true h n = n
better model visits best new false h n = h

-- the lists of the better of two are the cheaper ones
pub kept_lists : (model : Model) (best : Incumbent) (routes : Tours) (now : ℤ) → best.cost ≡ cost model best.routes.lists
    → now ≡ cost model routes.lists → (kept best routes now).routes.lists ≡ cheaper model best.routes.lists routes.lists
kept_lists model best routes now e h = go (int_lt now best.cost) ∙ ap (λ b. cond b routes.lists best.routes.lists) (ap₂ (λ x y. int_lt x y) h e)
  where
    go : (b : Bool) → (cond b (record { routes = routes; cost = now }) best).routes.lists ≡ cond b routes.lists best.routes.lists
    go true = refl
    go false = refl

-- the best is no dearer than before
pub kept_no_dearer : (best : Incumbent) (routes : Tours) (now most : ℤ) → best.cost ≤ℤ most → (kept best routes now).cost ≤ℤ most
kept_no_dearer best routes now most h = go (int_lt now best.cost) refl
  where
    go : (b : Bool) → int_lt now best.cost ≡ b → (cond b (record { routes = routes; cost = now }) best).cost ≤ℤ most
    go true e = Prim.grind (arith, ints)
    go false e = h

-- what is kept of the best and of routes that are offered is the best
pub kept_is_best : (model : Model) (visits : List ℕ) (best offered : Incumbent) (routes : Tours) (now : ℤ) → IsBest model visits best
    → offered ≡ kept best routes now → visits ≡ routes.visits → now ≡ cost model routes.lists → IsTrue (is_valid model routes.lists)
    → IsBest model routes.visits offered
kept_is_best model visits best offered routes now is_best is same costs valid =
    subst (λ b. IsBest model routes.visits b) (sym is) (better model routes.visits best (record { routes = routes; cost = now }) (int_lt now best.cost)
    (record { costs = is_best.costs; valid = is_best.valid; same_visits = is_best.same_visits ∙ same })
    (record { costs = costs; valid = valid; same_visits = refl }))
