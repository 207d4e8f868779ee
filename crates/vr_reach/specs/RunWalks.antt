-- A walk of one run.
use Rattle.std.specs.Prelude.{◌≡◌, []}
use Rattle.vr_model.specs.schedules.Lines.{Line}
use Rattle.vr_steps.specs.Levels.{level_at}
use Rattle.vr_reach.specs.declared.run_walks.RunWalk.{RunWalk}
use Rattle.vr_reach.specs.declared.single.Between.{Between}
use Rattle.vr_reach.specs.Singles.{IsOnlyRun}
use Rattle.vr_reach.specs.VehicleStops.{line_of}

-- the line along which a walk of one run goes
abbrev pub line_along : RunWalk → Line
line_along walk = line_of walk.line.of

-- there are no breaks, and the runs are the levels of the two ends
pub record AreRunsBetween (walk : RunWalk) (between : Between) : Type 0 where
  pub no_breaks : (line_along walk).breaks ≡ []
  pub from : IsOnlyRun (level_at walk.from.now 0) between.from
  pub to : IsOnlyRun (level_at walk.to.now 0) between.to
