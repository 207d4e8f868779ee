-- Routes, and the stops of one dimension of their model.
use Rattle.std.specs.Prelude.{◌<◌, length}
use Rattle.vr_reach.specs.Stops.{AreStops}
use Rattle.vr_pathfilters.specs.TourLists.{AreTours}
use Rattle.vr_pathfilters.specs.declared.list_rows.RoutesIn.{RoutesIn}

-- the dimension is one of the model, the stops are its, and the routes are tours
pub record AreRoutesIn (at : RoutesIn) : Type 0 where
  pub dimension : at.d < length at.closed.model.now.dimensions
  pub stops : AreStops at.closed.model.now at.d at.stops.now
  pub tours : AreTours at.closed.model.now at.routes.now
