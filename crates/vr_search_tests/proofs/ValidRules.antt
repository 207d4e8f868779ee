-- Valid lists are as many as the vehicles, and keep the rules of all filters.
use Rattle.std.proofs.Common.{◌≡◌, ℕ, ◌<◌, List, length, arith}
use Rattle.std.specs.Prelude.{◌&&◌, IsTrue}
use Rattle.vr_model.specs.deciding.Testing.{and_left, and_right, list_all_range}
use Rattle.vr_model.specs.routes.Rules.{is_valid}
use Rattle.vr_model.specs.declared.records.Model.{Model}
use Rattle.vr_model.proofs.routes.Lists.{are-lists, are_lists-count}
use Rattle.vr_lists.specs.Pairs.{keeps_pairs}
use Rattle.vr_reach.specs.Lists.{is_feasible_list}
use Rattle.vr_pathfilters.specs.Groups.{keeps_groups}
use Rattle.vr_pathfilters.specs.Vehicles.{is_allowed_list}
use Rattle.vr_pathfilters.specs.Lists.{holds_of_each}
use Rattle.vr_judge.specs.Rules.{are_feasible, keeps_rules}
use Rattle.vr_judge.proofs.RuleLemmas.{kept_where_valid}

module _ (model : Model) (lists : List (List ℕ)) (valid : IsTrue (is_valid model lists)) where
  pub valid_many : length lists ≡ length model.vehicles
  valid_many = are_lists-count model lists (are-lists model lists valid)

  kept : IsTrue (keeps_rules model lists)
  kept = kept_where_valid model lists valid

  behind_groups : IsTrue (holds_of_each (is_allowed_list model) lists && (holds_of_each (keeps_pairs model) lists && are_feasible model lists))
  behind_groups = and_right (keeps_groups model lists) _ kept

  behind_vehicles : IsTrue (holds_of_each (keeps_pairs model) lists && are_feasible model lists)
  behind_vehicles = and_right (holds_of_each (is_allowed_list model) lists) _ behind_groups

  pub valid_keeps : IsTrue (keeps_groups model lists)
  valid_keeps = and_left (keeps_groups model lists) _ kept

  pub valid_allows : IsTrue (holds_of_each (is_allowed_list model) lists)
  valid_allows = and_left (holds_of_each (is_allowed_list model) lists) _ behind_groups

  pub valid_serves : IsTrue (holds_of_each (keeps_pairs model) lists)
  valid_serves = and_left (holds_of_each (keeps_pairs model) lists) _ behind_vehicles

  pub valid_goes : (d : ℕ) → d < length model.dimensions → IsTrue (holds_of_each (is_feasible_list model d) lists)
  valid_goes d low =
      list_all_range (λ e. holds_of_each (is_feasible_list model e) lists) 0 (length model.dimensions)
      (and_right (holds_of_each (keeps_pairs model) lists) _ behind_vehicles) d (omega arith) (omega (arith, low))
