use Rattle.std.proofs.Common.{◌≡◌, ◌<◌}
use Rattle.std.specs.Prelude.{pos}
use Rattle.vr_model.specs.tables.Numbers.{horizon, number_at}
use Rattle.vr_model.specs.tables.WellFormed.{IsIn}
use Rattle.vr_reach.specs.Early.{AreEarly, AreFoundInTurn}
use Rattle.vr_reach.specs.Lists.{node_at_stop}
use Rattle.vr_reach.specs.VehicleStops.{line_of}
use Rattle.vr_reach.proofs.early.drive.Given as goal

-- the cumuls of the stops up to k are there
abbrev pub invariant-loop-k : goal.invariant-loop-k
invariant-loop-k l = record {
  early : AreEarly (line_of l.line.of) l.k l.cumuls.items;
  found : AreFoundInTurn (line_of l.line.of) l.k l.cumuls.items;
  cumul : l.cumul ≡ number_at l.cumuls.items l.k;
  range : IsIn (pos 0) horizon l.cumul;
  origin : l.origin ≡ node_at_stop l.line.of.closed.model.now l.line.of.v l.line.of.list.now l.k;
  below : l.origin < l.line.of.closed.model.now.nodes;
}
