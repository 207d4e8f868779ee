-- Nodes in no group take no group's room.
use Rattle.std.proofs.Common.{◌≡◌, ◌∙◌, ℕ, Bool, true, false, List, [], ◌∷◌, refl, sym, ap, get_or}
use Rattle.std.specs.Prelude.{◌||◌, ◌==◌, nat_le}
use Rattle.std.specs.List.{list_all, list_any}
use Rattle.std.proofs.lemmas.Bool.{eq-eqb, eqb-true}
use Rattle.std.proofs.lemmas.List.Folds.{list_any_at}
use Rattle.vr_model.specs.declared.records.Model.{Model}
use Rattle.vr_model.specs.deciding.Testing.{and_right}
use Rattle.vr_model.specs.routes.Routes.{holds, is_active, route, vehicles}
use Rattle.vr_model.specs.routes.Rules.{fits_group, is_grouped, is_open, is_route_open}
use Rattle.vr_model.proofs.tables.Tests.{clash, or-false_left, or-false_right}
use Rattle.vr_rules.specs.Placing.{fits_beside, AreBuilt}
use Rattle.vr_rules.proofs.PlacingLemmas.{count_by-within, list_all-within}

-- a node that is in some group is none of nodes that are in none
apart-from : (model : Model) (x : ℕ) (nodes : List ℕ) → is_grouped model x ≡ true → list_any (is_grouped model) nodes ≡ false → holds nodes x ≡ false
apart-from model x [] grouped none = refl
apart-from model x (y ∷ ys) grouped none =
    by (x == y) refl (apart-from model x ys grouped (or-false_right (is_grouped model y) (list_any (is_grouped model) ys) none))
  where
    by : (b : Bool) → (x == y) ≡ b → holds ys x ≡ false → ((x == y) || holds ys x) ≡ false
    by true e rest = absurd (clash (is_grouped model y) (ap (is_grouped model) (sym (eqb-true x y e)) ∙ grouped)
        (or-false_left (is_grouped model y) (list_any (is_grouped model) ys) none))
    by false e rest = ap (λ b. b || holds ys x) e ∙ rest

groups-fit : (model : Model) (lists : List (List ℕ)) → is_open model lists ≡ true → list_all (fits_group lists) model.groups ≡ true
unfolding is_open
groups-fit model lists opens =
    and_right (list_all (λ v. is_route_open model v (route lists v)) (vehicles lists)) (list_all (fits_group lists) model.groups) opens

pub ungrouped-fits : (model : Model) (lists : List (List ℕ)) (nodes : List ℕ) → AreBuilt model lists
    → list_any (is_grouped model) nodes ≡ false → true ≡ fits_beside model lists nodes
ungrouped-fits model lists nodes built none = sym (
    list_all-within (fits_group (nodes ∷ lists)) (fits_group lists) model.groups (λ g d low.
    let group = get_or model.groups g d in
    ap (λ n. nat_le n group.max) (count_by-within (is_active (nodes ∷ lists)) (is_active lists) group.nodes (λ k node node_low.
    let x = get_or group.nodes k node in
    ap (λ b. b || is_active lists x) (apart-from model x nodes
    (list_any_at (λ group. holds group.nodes x) model.groups g d low (list_any_at (λ y. x == y) group.nodes k node node_low (eq-eqb x x refl))) none))))
    ∙ groups-fit model lists built.are_open)
