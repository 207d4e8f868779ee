use Rattle.std.proofs.Common.{◌≡◌, ℕ, List, Ok, length, ap, ap₂, arith}
use Rattle.std.specs.Prelude.{◌&&◌, IsTrue}
use Rattle.vr_model.specs.deciding.Testing.{and_left, and_right}
use Rattle.vr_model.specs.routes.Rules.{is_valid}
use Rattle.vr_model.specs.declared.records.Model.{Model}
use Rattle.vr_model.proofs.routes.Lists.{are-lists, are_lists-count}
use Rattle.vr_judge.proofs.BothLemmas.{of_value}
use Rattle.vr_lists.specs.Pairs.{keeps_pairs}
use Rattle.vr_pathfilters.specs.Groups.{keeps_groups}
use Rattle.vr_pathfilters.specs.Lists.{holds_of_each}
use Rattle.vr_pathfilters.specs.Vehicles.{is_allowed_list}
use Rattle.vr_judge.specs.Rules.{are_feasible}
use Rattle.vr_judge.proofs.RuleLemmas.{kept_where_valid}
use Rattle.vr_judge.proofs.filters.filters_of.Goals as goal

many : (model : Model) (lists : List (List ℕ)) → IsTrue (is_valid model lists) → length lists ≡ length model.vehicles
many model lists valid = are_lists-count model lists (are-lists model lists valid)

module _ (model : Model) (lists : List (List ℕ)) (valid : IsTrue (is_valid model lists)) where
  behind_groups : IsTrue (holds_of_each (is_allowed_list model) lists && (holds_of_each (keeps_pairs model) lists && are_feasible model lists))
  behind_groups = and_right (keeps_groups model lists) _ (kept_where_valid model lists valid)

  behind_vehicles : IsTrue (holds_of_each (keeps_pairs model) lists && are_feasible model lists)
  behind_vehicles = and_right (holds_of_each (is_allowed_list model) lists) _ behind_groups

pub open-groups-requires-clause-many : goal.open-groups-requires-clause-many
open-groups-requires-clause-many c = many c.args.lookups.now.closed.model.now c.args.routes.now.lists c.requires.valid

pub open-groups-requires-clause-rule : goal.open-groups-requires-clause-rule
open-groups-requires-clause-rule c = and_left (keeps_groups c.args.lookups.now.closed.model.now c.args.routes.now.lists)
    _ (kept_where_valid c.args.lookups.now.closed.model.now c.args.routes.now.lists c.requires.valid)

pub over-vehicles-requires : goal.over-vehicles-requires
over-vehicles-requires c = record {
  visits_are = c.requires.of_model;
  list_of_each = many c.args.lookups.now.closed.model.now c.args.routes.now.lists c.requires.valid;
  rule_holds = and_left (holds_of_each (is_allowed_list c.args.lookups.now.closed.model.now) c.args.routes.now.lists)
      _ (behind_groups c.args.lookups.now.closed.model.now c.args.routes.now.lists c.requires.valid);
}

pub over-pairs-requires : goal.over-pairs-requires
over-pairs-requires c = record {
  visits_are = c.requires.of_model;
  list_of_each = many c.args.lookups.now.closed.model.now c.args.routes.now.lists c.requires.valid;
  rule_holds = and_left (holds_of_each (keeps_pairs c.args.lookups.now.closed.model.now) c.args.routes.now.lists)
      _ (behind_vehicles c.args.lookups.now.closed.model.now c.args.routes.now.lists c.requires.valid);
}

pub filters_of_dimensions-dimensions-requires-clause-many : goal.filters_of_dimensions-dimensions-requires-clause-many
filters_of_dimensions-dimensions-requires-clause-many c = many c.args.lookups.now.closed.model.now c.args.routes.now.lists c.requires.valid

pub filters_of_dimensions-dimensions-requires-clause-feasible : goal.filters_of_dimensions-dimensions-requires-clause-feasible
filters_of_dimensions-dimensions-requires-clause-feasible c =
    and_right (holds_of_each (keeps_pairs c.args.lookups.now.closed.model.now) c.args.routes.now.lists)
    _ (behind_vehicles c.args.lookups.now.closed.model.now c.args.routes.now.lists c.requires.valid)

pub returns-clause-rules : goal.returns-clause-rules
returns-clause-rules c = λ lists.
    let all = c.in_ok-front.ensures in
    let groups = of_value (λ two. c.open-groups.result ≡ Ok two.0) _ _ all.first c.try_both-front.ensures.first in
    let vehicles = of_value (λ two. c.over-vehicles.result ≡ Ok two.1) _ _ all.first c.try_both-front.ensures.second in
    let pairs = of_value (λ two. c.over-pairs.result ≡ Ok two.0) _ _ all.second c.try_both-end.ensures.first in
    let dimensions = of_value (λ two. c.filters_of_dimensions-dimensions.result ≡ Ok two.1) _ _ all.second c.try_both-end.ensures.second in
    ap₂ (λ a b. a && b) (ap (λ h. h lists) (of_value _ _ _ groups c.open-groups.ensures.holds))
    (ap₂ (λ a b. a && b) (ap (λ h. h lists) (of_value _ _ _ vehicles c.over-vehicles.ensures.holds))
    (ap₂ (λ a b. a && b) (ap (λ h. h lists) (of_value _ _ _ pairs c.over-pairs.ensures.holds))
    (of_value _ _ _ dimensions c.filters_of_dimensions-dimensions.ensures.holds lists)))

pub returns-clause-weights : goal.returns-clause-weights
returns-clause-weights c = λ before later.
    let all = c.in_ok-front.ensures in
    let dimensions = of_value (λ two. c.filters_of_dimensions-dimensions.result ≡ Ok two.1) _ _ all.second c.try_both-end.ensures.second in
    let sum = of_value _ _ _ dimensions c.filters_of_dimensions-dimensions.ensures.weight before later in
    omega (arith, sum)

pub returns-clause-stands : goal.returns-clause-stands
returns-clause-stands c =
    let all = c.in_ok-front.ensures in
    let groups = of_value (λ two. c.open-groups.result ≡ Ok two.0) _ _ all.first c.try_both-front.ensures.first in
    let vehicles = of_value (λ two. c.over-vehicles.result ≡ Ok two.1) _ _ all.first c.try_both-front.ensures.second in
    let pairs = of_value (λ two. c.over-pairs.result ≡ Ok two.0) _ _ all.second c.try_both-end.ensures.first in
    let dimensions = of_value (λ two. c.filters_of_dimensions-dimensions.result ≡ Ok two.1) _ _ all.second c.try_both-end.ensures.second in (
      of_value _ _ _ groups c.open-groups.ensures.stands,
      (
        of_value _ _ _ vehicles c.over-vehicles.ensures.stands,
        (
          of_value _ _ _ pairs c.over-pairs.ensures.stands,
          of_value _ _ _ dimensions c.filters_of_dimensions-dimensions.ensures.stands,
        ),
      ),
    )
