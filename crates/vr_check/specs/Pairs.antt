-- The rules on pairs, policies and allowed vehicles.
use Rattle.std.specs.Prelude.{ℕ, ◌+◌, Bool, not, List, length, Option}
use Rattle.std.specs.List.{list_all}
use Rattle.vr_model.specs.tables.Numbers.{below}
use Rattle.vr_model.specs.tables.Tables.{pair_at}
use Rattle.vr_model.specs.routes.Routes.{route}
use Rattle.vr_model.specs.routes.Rules.{serves_pair, keeps_policy, allows_vehicle}
use Rattle.vr_model.specs.declared.records.Model.{Model}
use Rattle.vr_model.specs.declared.records.Pair.{Pair}
use Rattle.vr_check.specs.Findings.{spot, spot_of_vehicle, spot_of_none, where_wrong, first_finding}
use Rattle.vr_check.specs.Lists.{node_at}
use Rattle.vr_check.specs.declared.finding.Spot.{Spot}

-- in each list either no node of the pair is present or both are, the pickup first
abbrev pub is_served : List (List ℕ) → Pair → Bool
is_served lists pair = list_all (λ list. serves_pair list pair) lists

abbrev pub pair_broken_at : Model → List (List ℕ) → ℕ → Option Spot
pair_broken_at model lists p = where_wrong (not (is_served lists (pair_at model p))) (spot_of_none p)

-- the rule on pairs
abbrev pub pair_broken : Model → List (List ℕ) → Option Spot
pair_broken model lists = first_finding (pair_broken_at model lists) (below (length model.pairs))

abbrev pub policy_broken_in : Model → List (List ℕ) → ℕ → Option Spot
policy_broken_in model lists v = where_wrong (not (keeps_policy model v (route lists v))) (spot_of_vehicle v)

-- the rule on policies
abbrev pub policy_broken : Model → List (List ℕ) → Option Spot
policy_broken model lists = first_finding (policy_broken_in model lists) (below (length lists))

abbrev pub allowed_broken_at : Model → ℕ → List ℕ → ℕ → Option Spot
allowed_broken_at model v list k = where_wrong (not (allows_vehicle model v (node_at list k))) (spot v (k + 1))

-- the first visit of a list that does not allow the vehicle
abbrev pub allowed_broken_of : Model → ℕ → List ℕ → Option Spot
allowed_broken_of model v list = first_finding (allowed_broken_at model v list) (below (length list))

abbrev pub allowed_broken_in : Model → List (List ℕ) → ℕ → Option Spot
allowed_broken_in model lists v = allowed_broken_of model v (route lists v)

-- the rule on allowed vehicles
abbrev pub allowed_broken : Model → List (List ℕ) → Option Spot
allowed_broken model lists = first_finding (allowed_broken_in model lists) (below (length lists))
