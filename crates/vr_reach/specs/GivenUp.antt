-- When walks that carry one run do not tell.
use Rattle.std.specs.Prelude.{IsTrue}
use Rattle.vr_reach.specs.Alone.{may_go_alone, IsUndecided}
use Rattle.vr_reach.specs.Legs.{line_of_leg}
use Rattle.vr_reach.specs.Singles.{is_one_run_each}
use Rattle.vr_reach.specs.declared.legs.Leg.{Leg}

-- there is not one run to walk with all along a leg. And if walks without a break are tried, none of them tells
pub record IsGivenUp (leg : Leg) : Type 0 where
  pub not_one : IsTrue (is_one_run_each leg.stops.of.closed.model.now leg.stops.of.d leg.stops.of.v leg.from.now
      leg.to.now) → ⊥
  pub untold : IsTrue (may_go_alone leg.stops.of.closed.model.now leg.stops.of.d leg.stops.of.v leg.from.now)
      → IsUndecided (line_of_leg leg) leg.from.now leg.to.now leg.begin leg.last
