-- The list of a vehicle in valid routes of a model.
use Rattle.std.proofs.Common.{◌≡◌, ◌-◌, ◌<◌, ◌≤◌, ℕ, List, length, sym, ap, subst, arith}
use Rattle.std.specs.Prelude.{All, IsTrue}
use Rattle.vr_model.specs.tables.WellFormed.{IsWellFormed}
use Rattle.vr_model.specs.routes.Routes.{route}
use Rattle.vr_model.specs.routes.Rules.{is_valid}
use Rattle.vr_model.specs.declared.records.Model.{Model}
use Rattle.vr_guided.specs.Lists.{AreFewNodes}
use Rattle.vr_model.proofs.routes.Lists.{are-lists, are_lists-count, route-below, route-few}

module _ (model : Model) (lists : List (List ℕ)) (valid : IsTrue (is_valid model lists)) where
  -- there is one for each vehicle
  pub list_of_each : length lists ≡ length model.vehicles
  list_of_each = are_lists-count model lists (are-lists model lists valid)

  pub vehicles_left : length model.vehicles - 0 ≡ length lists
  vehicles_left = let n = list_of_each in omega (arith, n)

  pub has_list : {v n : ℕ} → v < n → n ≡ length model.vehicles → v < length lists
  has_list low is = let n = list_of_each in omega (arith, n, low, is)

  -- of nodes of the model
  pub list_below : (v : ℕ) {list : List ℕ} → list ≡ route lists v → All (λ node. node < model.nodes) list
  list_below v is = subst (λ xs. All (λ node. node < model.nodes) xs) (sym is) (route-below model lists v (are-lists model lists valid))

  -- and 1000 at most
  pub list_short : IsWellFormed model → (v : ℕ) {list : List ℕ} → list ≡ route lists v → length list ≤ 1000
  list_short well v is =
      let few = route-few model lists v (are-lists model lists valid) in
      let most = well.number_of_nodes.1 in
      let same = ap length is in
      omega (arith, few, most, same)

  pub few_nodes : IsWellFormed model → (v : ℕ) {list : List ℕ} → list ≡ route lists v → AreFewNodes model list
  few_nodes well v is = record { below = list_below v is; short = list_short well v is }
