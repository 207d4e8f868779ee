use Rattle.std.proofs.Common.{rules}
use Rattle.vr_json.proofs.Steps.{then, stops, gives}
use Rattle.vr_read.specs.Vehicles.{matrix}
use Rattle.vr_read.proofs.matrices.MatrixTableReader.read.Goals as goal

pub returns-in_err-rows : goal.returns-in_err-rows
unfolding matrix
returns-in_err-rows c = stops _ _ c.in_err-rows.ensures c.from_residual.ensures.1

pub returns : goal.returns
unfolding matrix
returns c = then _ c.in_ok-rows.ensures (gives (search rules))
