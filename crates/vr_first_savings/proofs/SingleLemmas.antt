-- Items that become routes in turn.
use Rattle.std.proofs.Common.{◌≡◌, ◌∙◌, ◌<◌, ◌++◌, ℕ, List, [], ◌∷◌, Bool, true, false, cond, refl, ap, sym, subst, length, append_assoc, get_or}
use Rattle.std.specs.Prelude.{◌&&◌, ◌||◌, nat_le, fold, slice_index_or}
use Rattle.std.specs.List.{list_all}
use Rattle.std.proofs.lemmas.List.{append-nil}
use Rattle.std.proofs.lemmas.List.Folds.{list_any-append}
use Rattle.vr_model.specs.declared.records.Model.{Model}
use Rattle.vr_model.specs.routes.Routes.{holds, is_active}
use Rattle.vr_model.specs.routes.Rules.{is_route_open, fits_group}
use Rattle.vr_model.specs.first.SavingsJoins.{may_begin, single_routes}
use Rattle.vr_model.specs.tables.WellFormed.{IsWellFormed}
use Rattle.vr_rules.specs.declared.items.Item.{Item}
use Rattle.vr_rules.specs.Placing.{item_nodes, has_room, fits_beside, AreMarks}
use Rattle.vr_rules.proofs.PlacingLemmas.{list_all-within, count_by-within, fits_beside-marks}
use Rattle.vr_rules.proofs.CompleteLemmas.{and-false}
use Rattle.vr_first_savings.specs.Joins.{AreApart}
use Rattle.vr_first_savings.specs.Singles.{route_begun}
use Rattle.vr_first_savings.proofs.ApartLemmas.{AreApart-without}

-- ---- one more route

or-behind : (a b : Bool) → (a || (b || false)) ≡ (b || a)
or-behind true true = refl
or-behind true false = refl
or-behind false true = refl
or-behind false false = refl

active-behind : (routes : List (List ℕ)) (route : List ℕ) (node : ℕ) → is_active (routes ++ route ∷ []) node ≡ (holds route node || is_active routes node)
active-behind routes route node = list_any-append (λ list. holds list node) routes (route ∷ []) ∙ or-behind (is_active routes node) (holds route node)

fits-behind : (model : Model) (routes : List (List ℕ)) (route : List ℕ)
    → list_all (fits_group (routes ++ route ∷ [])) model.groups ≡ fits_beside model routes route
fits-behind model routes route = list_all-within (fits_group (routes ++ route ∷ [])) (fits_group (route ∷ routes)) model.groups (λ g d low.
    let group = get_or model.groups g d in
    ap (λ n. nat_le n group.max)
    (count_by-within (is_active (routes ++ route ∷ [])) (is_active (route ∷ routes))
    group.nodes (λ k node node_low. active-behind routes route (get_or group.nodes k node))))

pub AreMarks-behind : (nodes : ℕ) (routes : List (List ℕ)) (route : List ℕ) (marks marked : List Bool) → AreMarks nodes routes marks
    → length marked ≡ length marks
    → ((node : ℕ) (d : Bool) → node < length marks → slice_index_or marked node d ≡ (holds route node || slice_index_or marks node d))
    → AreMarks nodes (routes ++ route ∷ []) marked
AreMarks-behind nodes routes route marks marked are count each = record {
  one_of_each = count ∙ are.one_of_each;
  each = λ node d low. each node d (subst (λ n. node < n) (sym are.one_of_each) low)
      ∙ ap (λ b. holds route node || b) (are.each node d low) ∙ sym (active-behind routes route node);
}

module _ (model : Model) (well_formed : IsWellFormed model) (routes : List (List ℕ))
    (marks : List Bool) (item : Item) (are : AreMarks model.nodes routes marks) where
  room : list_all (has_room marks item) model.groups ≡ list_all (fits_group (routes ++ item_nodes item ∷ [])) model.groups
  room = fits_beside-marks model well_formed routes marks item are ∙ sym (fits-behind model routes (item_nodes item))

  kept : may_begin model routes (item_nodes item) ≡ false → routes ≡ route_begun model routes (item_nodes item)
  kept h = sym (ap (λ b. cond b (routes ++ item_nodes item ∷ []) routes) h)

  -- a group is full
  pub begun-full : list_all (has_room marks item) model.groups ≡ false → routes ≡ route_begun model routes (item_nodes item)
  begun-full h = kept (ap (λ b. is_route_open model 0 (item_nodes item) && b) (sym room ∙ h) ∙ and-false (is_route_open model 0 (item_nodes item)))

  -- the route is not open
  pub begun-closed : is_route_open model 0 (item_nodes item) ≡ false → routes ≡ route_begun model routes (item_nodes item)
  begun-closed h = kept (ap (λ b. b && list_all (fits_group (routes ++ item_nodes item ∷ [])) model.groups) h)

  -- it may
  pub begun-open : list_all (has_room marks item) model.groups ≡ true → is_route_open model 0 (item_nodes item) ≡ true
      → routes ++ item_nodes item ∷ [] ≡ route_begun model routes (item_nodes item)
  begun-open h passes = sym (ap (λ b. cond (is_route_open model 0 (item_nodes item) && b) (routes ++ item_nodes item ∷ []) routes) (sym room ∙ h)
      ∙ ap (λ b. cond (b && true) (routes ++ item_nodes item ∷ []) routes) passes)

-- ---- all in turn

pub singles-fold : (model : Model) (routes items : List (List ℕ)) → fold (route_begun model) routes items ≡ single_routes model routes items
singles-fold model routes [] = refl
singles-fold model routes (item ∷ rest) = singles-fold model (route_begun model routes item) rest

pub AreApart-begun : (model : Model) (items routes : List (List ℕ)) → AreApart model (routes ++ items) → AreApart model (fold (route_begun model) routes items)
AreApart-begun model [] routes are = subst (AreApart model) (append-nil routes) are
AreApart-begun model (item ∷ rest) routes are = AreApart-begun model rest (route_begun model routes item) (by (may_begin model routes item))
  where
    by : (b : Bool) → AreApart model (cond b (routes ++ item ∷ []) routes ++ rest)
    by true = subst (AreApart model) (sym (append_assoc routes (item ∷ []) rest)) are
    by false = AreApart-without model routes rest item are
