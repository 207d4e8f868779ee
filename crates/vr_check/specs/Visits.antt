-- The rules on which visits are active.
use Rattle.std.specs.Prelude.{ℕ, Bool, not, ◌&&◌, List, length, slice_index_or, None, Option, []}
use Rattle.vr_model.specs.tables.Numbers.{below}
use Rattle.vr_model.specs.moves.MoveTests.{is_inactive}
use Rattle.vr_model.specs.routes.Routes.{is_same, inactive}
use Rattle.vr_model.specs.routes.Rules.{active_in, fits_group, is_grouped, has_enough}
use Rattle.vr_model.specs.declared.records.Model.{Model}
use Rattle.vr_model.specs.declared.records.Group.{Group}
use Rattle.vr_check.specs.Findings.{spot_of_none, nowhere, where_wrong, first_finding}
use Rattle.vr_check.specs.declared.finding.Spot.{Spot}

-- the rule that the inactive visits are dropped, ascending
abbrev pub dropped_broken : Model → List (List ℕ) → List ℕ → Option Spot
dropped_broken model lists dropped = where_wrong (not (is_same dropped (inactive model lists))) nowhere

-- the node is an inactive visit in no group
abbrev pub is_missing : Model → List (List ℕ) → ℕ → Bool
is_missing model lists node = is_inactive model lists node && not (is_grouped model node)

abbrev pub required_broken_at : Model → List (List ℕ) → ℕ → Option Spot
required_broken_at model lists node = where_wrong (is_missing model lists node) (spot_of_none node)

-- the rule that each visit in no group is active: the least node that is not
abbrev pub required_broken : Model → List (List ℕ) → Option Spot
required_broken model lists = first_finding (required_broken_at model lists) (below model.nodes)

-- a group has no more active nodes than it may have, and exactly as many if it has no penalty
abbrev pub has_right_number : List (List ℕ) → Group → Bool
has_right_number lists group = fits_group lists group && has_enough group.penalty group.max (active_in lists group)

abbrev pub no_group : Group
no_group = record { nodes = []; penalty = None; max = 0 }

-- the group of number g
abbrev pub group_at : Model → ℕ → Group
group_at model g = slice_index_or model.groups g no_group

abbrev pub group_broken_at : Model → List (List ℕ) → ℕ → Option Spot
group_broken_at model lists g = where_wrong (not (has_right_number lists (group_at model g))) (spot_of_none g)

-- the rule on groups
abbrev pub group_broken : Model → List (List ℕ) → Option Spot
group_broken model lists = first_finding (group_broken_at model lists) (below (length model.groups))
