-- What a vehicle with one list is asked.
use Rattle.std.specs.Prelude.{◌≡◌, ℕ, List}
use Rattle.vr_reach.specs.declared.stops.ListStops.{ListStops}
use Rattle.vr_reach.specs.declared.stops.StopsFor.{StopsFor}
use Rattle.vr_reach.specs.Stops.{AreEndsOf}

-- what is looked up is what the vehicle is asked with the list
pub record IsAskedOf (stops : StopsFor) (list : List ℕ) (asked : ListStops) : Type 0 where
  pub model_is : asked.of.closed.model.now ≡ stops.closed.model.now
  pub d_is : asked.of.d ≡ stops.d
  pub v_is : asked.of.v ≡ stops.v
  pub list_is : asked.of.list.now ≡ list
  pub ends_are : AreEndsOf stops.closed.model.now stops.d stops.v asked.ends.now
