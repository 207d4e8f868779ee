-- The penalties of groups.
use Rattle.std.proofs.Common.{◌≡◌, ◌∙◌, ◌<◌, ◌≤◌, ◌+◌, ℕ, suc, List, [], ◌∷◌, Bool, true, false, ℤ, pos, ◌+ℤ◌, refl, ap, ap₂, arith, length, get_or, take}
use Rattle.std.specs.Prelude.{nat_le, All}
use Rattle.std.specs.List.{list_all}
use Rattle.std.proofs.lemmas.Int.{ints}
use Rattle.std.proofs.lemmas.Bool.Decides.{nat_tests}
use Rattle.std.proofs.lemmas.List.{take_more, take_all}
use Rattle.vr_model.specs.declared.records.Model.{Model}
use Rattle.vr_model.specs.declared.records.Group.{Group}
use Rattle.vr_model.specs.tables.Numbers.{total_by}
use Rattle.vr_model.specs.routes.Routes.{is_active, are_lists}
use Rattle.vr_model.specs.routes.Rules.{is_open, is_valid, active_in, fits_group}
use Rattle.vr_model.specs.routes.Costs.{penalty_for, penalty_part}
use Rattle.vr_model.specs.deciding.Testing.{and_left, and_right}
use Rattle.vr_model.specs.tables.WellFormed.{IsWellFormed}
use Rattle.vr_rules.specs.Placing.{is_marked, AreMarks, fits_by, penalty_by}
use Rattle.vr_model.proofs.tables.Totals.{total_by-append}
use Rattle.vr_model.proofs.routes.Lists.{visit_below}
use Rattle.vr_rules.proofs.PlacingLemmas.{count_by-within}
use Rattle.vr_rules.proofs.CompleteLemmas.{fits-marks}

-- what the first groups cost
abbrev pub penalty_of_first : Model → List Bool → ℕ → ℤ
penalty_of_first model marks k = total_by (penalty_by marks) (take k model.groups)

pub penalty_of_first-more : (model : Model) (marks : List Bool) (k : ℕ) (group : Group) → k < length model.groups → get_or model.groups k group ≡ group
    → penalty_of_first model marks (k + 1) ≡ penalty_of_first model marks k +ℤ penalty_by marks group
penalty_of_first-more model marks k group low is =
    ap (total_by (penalty_by marks)) (take_more model.groups k group low)
    ∙ total_by-append (penalty_by marks) (take k model.groups) (get_or model.groups k group ∷ [])
    ∙ ap (λ g. penalty_of_first model marks k +ℤ (penalty_by marks g +ℤ pos 0)) is ∙ omega (arith, ints)

pub penalty_of_first-all : (model : Model) (marks : List Bool) (k : ℕ) → length model.groups ≤ k
    → penalty_of_first model marks k ≡ total_by (penalty_by marks) model.groups
penalty_of_first-all model marks k high = ap (total_by (penalty_by marks)) (take_all k model.groups high)

total_by-within : {A : Type 0} (f g : A → ℤ) (xs : List A) → All (λ x. f x ≡ g x) xs → total_by f xs ≡ total_by g xs
total_by-within f g [] h = refl
total_by-within f g (x ∷ xs) h = ap₂ (λ a b. a +ℤ b) (h 0 x (omega arith)) (total_by-within f g xs (λ k d low. h (suc k) d (omega (arith, low))))

-- by the marks of active nodes it is the part
pub penalty_part-marks : (model : Model) → IsWellFormed model → (lists : List (List ℕ)) (marks : List Bool)
    → AreMarks model.nodes lists marks → total_by (penalty_by marks) model.groups ≡ penalty_part model lists
penalty_part-marks model well_formed lists marks are =
    total_by-within (penalty_by marks) (λ group. penalty_for group.penalty group.max (active_in lists group)) model.groups (λ g d low.
    let group = get_or model.groups g d in
    ap (penalty_for group.penalty group.max) (count_by-within (is_marked marks) (is_active lists) group.nodes (λ k node node_low.
    are.each (get_or group.nodes k node) false
    (visit_below model (get_or group.nodes k node) ((well_formed.each_group g d low).each_node_is_visit k node node_low)))))

-- the groups of open lists have no more marked nodes than they may have
pub groups_fit-open : (model : Model) → IsWellFormed model → (lists : List (List ℕ)) (marks : List Bool)
    → AreMarks model.nodes lists marks → is_open model lists ≡ true → list_all (fits_by marks) model.groups ≡ true
unfolding is_open
groups_fit-open model well_formed lists marks are h = fits-marks model well_formed lists marks are ∙ and_right _ (list_all (fits_group lists) model.groups) h

pub le-of-test : (a b : ℕ) → nat_le a b ≡ true → a ≤ b
le-of-test a b h = grind (arith, nat_tests)

-- valid lists are open
pub valid-open : (model : Model) (lists : List (List ℕ)) → is_valid model lists ≡ true → is_open model lists ≡ true
unfolding is_valid
valid-open model lists h = and_left (is_open model lists) _ (and_right (are_lists model lists) _ h)
