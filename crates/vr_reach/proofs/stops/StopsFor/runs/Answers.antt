use Rattle.vr_reach.proofs.RunLemmas.{runs_for}
use Rattle.vr_reach.proofs.Tables.{has_table}
use Rattle.vr_reach.proofs.stops.StopsFor.runs.Goals as goal

pub runs_of-requires-clause-vehicle : goal.runs_of-requires-clause-vehicle
runs_of-requires-clause-vehicle c = has_table c.requires

pub runs_of-requires-clause-table : goal.runs_of-requires-clause-table
runs_of-requires-clause-table c = runs_for c.requires

pub returns-clause-runs : goal.returns-clause-runs
returns-clause-runs c = let stops = c.args.self.now in c.runs_of.ensures.runs stops.closed.model.now stops.d c.requires.are

pub returns-clause-known : goal.returns-clause-known
returns-clause-known c = let stops = c.args.self.now in c.runs_of.ensures.known stops.closed.model.now stops.d c.requires.are
