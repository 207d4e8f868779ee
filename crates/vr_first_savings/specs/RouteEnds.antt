-- The ends of routes, as code keeps them.
use Rattle.std.specs.Prelude.{ℕ, ◌<◌, List, pos}
use Rattle.vr_model.specs.tables.Tables.{arc_cost, vehicle_at}
use Rattle.vr_model.specs.tables.Limits.{greatest_cost}
use Rattle.vr_model.specs.tables.WellFormed.{IsIn}
use Rattle.vr_model.specs.first.Items.{first_node, last_node}
use Rattle.vr_model.specs.declared.records.Model.{Model}
use Rattle.vr_first_savings.specs.declared.ends.EndsOfRoute.{EndsOfRoute}

-- the ends of a route with these last and first nodes
abbrev pub ends_between : Model → ℕ → ℕ → EndsOfRoute
ends_between model last first = record {
  last = last;
  first = first;
  to_end = arc_cost model 0 last (vehicle_at model 0).end;
  from_start = arc_cost model 0 (vehicle_at model 0).start first;
}

-- the ends of a route
abbrev pub ends_of : Model → List ℕ → EndsOfRoute
ends_of model route = ends_between model (last_node route) (first_node route)

-- ends at nodes of the model, whose arcs cost no less and no more than arcs may
pub record AreRouteEnds (model : Model) (ends : EndsOfRoute) : Type 0 where
  pub last_below : ends.last < model.nodes
  pub first_below : ends.first < model.nodes
  pub to_end_in_range : IsIn (pos 0) greatest_cost ends.to_end
  pub from_start_in_range : IsIn (pos 0) greatest_cost ends.from_start

-- the ends that are read if there are none
abbrev pub no_ends : EndsOfRoute
no_ends = record { last = 0; first = 0; to_end = pos 0; from_start = pos 0 }
