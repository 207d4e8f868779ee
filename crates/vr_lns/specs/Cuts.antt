-- Cuts of paths: what a cut takes out of lists, what it leaves, and what that is rebuilt to.
use Rattle.std.specs.Prelude.{ℕ, ◌+◌, Bool, cond, not, ◌&&◌, ◌||◌, List, map, filter, length, min, slice_range, int_lt}
use Rattle.std.specs.Prelude.{Option, Some, None}
use Rattle.vr_model.specs.tables.Numbers.{below, each}
use Rattle.vr_model.specs.routes.Routes.{route, holds, vehicles}
use Rattle.vr_model.specs.routes.Rules.{is_open, is_valid}
use Rattle.vr_model.specs.routes.Costs.{cost}
use Rattle.vr_model.specs.first.Items.{items, pair_of}
use Rattle.vr_model.specs.first.CheapestInsertion.{rebuilt}
use Rattle.vr_model.specs.declared.records.Model.{Model}
use Rattle.vr_model.specs.declared.records.Pair.{Pair}
use Rattle.vr_lns.specs.declared.cutting.Cut.{Cut}

-- the cuts of the list of vehicle v: one at each of its places
abbrev pub cuts_of : ℕ → List ℕ → List Cut
cuts_of v list = map (λ a. record { vehicle = v; place = a }) (below (length list))

-- the cuts of lists, by vehicle and then by place
abbrev pub cuts : List (List ℕ) → List Cut
cuts lists = each (vehicles lists) λ v. cuts_of v (route lists v)

-- the chain that a cut takes out of its list: the visits from its place on, at most `most` of them
abbrev pub cut_chain : ℕ → List (List ℕ) → Cut → List ℕ
cut_chain most lists at =
    let list = route lists at.vehicle in slice_range list at.place (min (at.place + most) (length list))

-- a node goes with a chain if it or the other node of its pair is in it
abbrev pub goes_with : List ℕ → ℕ → Option Pair → Bool
goes_with chain node None = holds chain node
goes_with chain node (Some pair) = holds chain pair.pickup || holds chain pair.delivery

-- a list without the nodes that go with a chain
abbrev pub without_chain : Model → List ℕ → List ℕ → List ℕ
without_chain model chain list = filter (λ node. not (goes_with chain node (pair_of model node))) list

-- what a cut leaves of lists
abbrev pub left_by : Model → ℕ → List (List ℕ) → Cut → List (List ℕ)
left_by model most lists at = map (without_chain model (cut_chain most lists at)) lists

-- open lists after parallel cheapest insertion of items that are in none, as long as one may be inserted. Of other
-- lists nothing is made.
abbrev pub rebuilt_where_open : Model → List (List ℕ) → Option (List (List ℕ))
rebuilt_where_open model lists = cond (is_open model lists) (Some (rebuilt model (length (items model)) lists)) None

-- the result of a cut, if there is one: what it leaves, rebuilt
abbrev pub result_of : Model → ℕ → List (List ℕ) → Cut → Option (List (List ℕ))
result_of model most lists at = rebuilt_where_open model (left_by model most lists at)

-- lists that are valid and cost less than others
abbrev pub improves_on : Model → List (List ℕ) → List (List ℕ) → Bool
improves_on model lists after = is_valid model after && int_lt (cost model after) (cost model lists)

-- a result if it is accepted: it is valid and costs less
abbrev pub where_better : Model → List (List ℕ) → Option (List (List ℕ)) → Option (List (List ℕ))
where_better model lists None = None
where_better model lists (Some after) = cond (improves_on model lists after) (Some after) None

-- the result of a cut if the cut is acceptable
unfoldable pub accepted_by : Model → ℕ → List (List ℕ) → Cut → Option (List (List ℕ))
accepted_by model most lists at = where_better model lists (result_of model most lists at)
