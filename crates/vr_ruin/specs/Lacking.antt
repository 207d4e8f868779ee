-- What open lists still lack to be valid, and the heat with which a search begins.
use Rattle.std.specs.Prelude.{ℕ, ◌+◌, ◌-◌, ◌/◌, ◌^◌, min, Bool, ◌&&◌, ◌||◌, ◌==◌, nat_lt, nat_abs, List, length, filter}
use Rattle.std.specs.Prelude.{sum_by, Option, Some, None, ℤ, ◌-ℤ◌, int_lt}
use Rattle.vr_model.specs.routes.Rules.{active_in}
use Rattle.vr_model.specs.routes.Costs.{cost, fixed_part, penalty_part}
use Rattle.vr_model.specs.first.Items.{class, unplaced}
use Rattle.vr_model.specs.declared.records.Model.{Model}
use Rattle.vr_strings.specs.Strings.{active_count}

-- how many items of class 0 are in no list: each of them must be in one
abbrev pub missing_items : Model → List (List ℕ) → ℕ
missing_items model lists = length (filter (λ item. class model item == 0) (unplaced model lists))

-- how many more nodes of a group must be active: none with a penalty
abbrev pub needed_by : Option ℤ → ℕ → ℕ → ℕ
needed_by None max active = max - active
needed_by (Some penalty) max active = 0

-- how many more nodes must be active, over all groups
abbrev pub missing_nodes : Model → List (List ℕ) → ℕ
missing_nodes model lists =
    sum_by (λ group. needed_by group.penalty group.max (active_in lists group)) model.groups

-- the lack of lists: the items of class 0 in no list, and the nodes that groups without a penalty still need
unfoldable pub lack : Model → List (List ℕ) → ℕ
lack model lists = missing_items model lists + missing_nodes model lists

-- lists lack less than others; or they lack as much, and cost less than a bound
abbrev pub is_below : Model → List (List ℕ) → List (List ℕ) → ℤ → Bool
is_below model new old bound = nat_lt (lack model new) (lack model old)
    || ((lack model new == lack model old) && int_lt (cost model new) bound)

-- the moving cost of lists: their cost without fixed costs and penalties, which is never negative
abbrev pub moving_cost : Model → List (List ℕ) → ℕ
moving_cost model lists = nat_abs ((cost model lists -ℤ fixed_part model lists) -ℤ penalty_part model lists)

-- the heat of a search that begins at these lists. If none is given, it is what an active visit moves for, at most 2 ^
-- 40. That is the moving cost over one more than the number of active visits
abbrev pub heat_of : Model → List (List ℕ) → Option ℕ → ℕ
heat_of model lists None = min (moving_cost model lists / (1 + active_count lists)) (2 ^ 40)
heat_of model lists (Some heat) = heat
