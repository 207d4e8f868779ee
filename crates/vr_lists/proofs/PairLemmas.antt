-- Which lists serve their pairs.
use Rattle.std.proofs.Common.{◌≡◌, ℕ, List, [], ◌∷◌, true, false, refl, ap, ap₂}
use Rattle.std.specs.Prelude.{filter, ◌&&◌, IsTrue}
use Rattle.std.specs.List.{list_all}
use Rattle.vr_model.specs.declared.records.Model.{Model}
use Rattle.vr_model.specs.declared.records.Pair.{Pair}
use Rattle.vr_model.specs.deciding.Testing.{and_left, and_right, and_both}
use Rattle.vr_model.specs.tables.Tables.{vehicle_at}
use Rattle.vr_model.specs.routes.Rules.{is_route_open, policy_allows, serves_pair}
use Rattle.vr_model.proofs.tables.Tests.{list_all-true}
use Rattle.vr_lists.specs.Pairs.{keeps_pairs}

nothing : {A : Type 0} (xs : List A) → filter (λ x. false) xs ≡ []
nothing [] = refl
nothing (x ∷ xs) = nothing xs

-- the empty list does
pub keeps-empty : (model : Model) (v : ℕ) → keeps_pairs model v [] ≡ true
keeps-empty model v =
    ap₂ (λ a b. a && b) (list_all-true (serves_pair []) (λ pair. refl) model.pairs)
    (ap (λ (pairs : List Pair). list_all (λ x. list_all (λ y. policy_allows (vehicle_at model v).policy [] x y) pairs) pairs) (nothing model.pairs))

-- an open list does
pub keeps-open : (model : Model) (v : ℕ) (list : List ℕ) → IsTrue (is_route_open model v list) → keeps_pairs model v list ≡ true
keeps-open model v [] stands = keeps-empty model v
keeps-open model v (x ∷ xs) stands =
    let rest = and_right _ _ stands in
    let policies = and_right _ _ rest in
    and_both (list_all (serves_pair (x ∷ xs)) model.pairs) _ (and_left _ _ rest) (and_left _ _ policies)
