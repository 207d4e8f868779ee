-- What the filters of a model ask of lists together, and how many steps they take.
use Rattle.std.specs.Prelude.{ℕ, Bool, ◌&&◌, List, length, sum_by}
use Rattle.std.specs.List.{list_all}
use Rattle.vr_model.specs.tables.Numbers.{below}
use Rattle.vr_model.specs.schedules.Weights.{weight}
use Rattle.vr_model.specs.declared.records.Model.{Model}
use Rattle.vr_reach.specs.Lists.{is_feasible_list}
use Rattle.vr_pathfilters.specs.Lists.{holds_of_each}
use Rattle.vr_pathfilters.specs.Vehicles.{is_allowed_list}
use Rattle.vr_pathfilters.specs.Groups.{keeps_groups}
use Rattle.vr_lists.specs.Pairs.{keeps_pairs}

-- in each dimension each list is empty, or its line is feasible
abbrev pub are_feasible : Model → List (List ℕ) → Bool
are_feasible model lists =
    list_all (λ d. holds_of_each (is_feasible_list model d) lists) (below (length model.dimensions))

-- the rules of groups, of allowed vehicles, of pairs and of all dimensions
abbrev pub keeps_rules : Model → List (List ℕ) → Bool
keeps_rules model lists = keeps_groups model lists
    && (holds_of_each (is_allowed_list model) lists
    && (holds_of_each (keeps_pairs model) lists
    && are_feasible model lists))

-- the weights of a change of lists in all dimensions together
abbrev pub total_weight : Model → List (List ℕ) → List (List ℕ) → ℕ
total_weight model before later = sum_by (λ d. weight model d before later) (below (length model.dimensions))
