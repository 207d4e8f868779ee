use Rattle.std.proofs.Common.{take, All}
use Rattle.std.specs.List.{AllZip}
use Rattle.vr_steps.specs.Levels.{HasNumbers, IsCumuls}
use Rattle.vr_reach.specs.VehicleStops.{line_of}
use Rattle.vr_reach.proofs.lines.write_sets.Given as goal

-- the sets so far are those of the first stops
abbrev pub invariant-loop-k : goal.invariant-loop-k
invariant-loop-k l = record {
  exact : AllZip HasNumbers (take l.k (line_of l.stops.of).allowed) l.sets;
  cumuls : All IsCumuls l.sets;
}
