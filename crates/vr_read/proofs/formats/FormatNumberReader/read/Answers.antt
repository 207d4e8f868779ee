use Rattle.std.proofs.Common.{sym}
use Rattle.vr_json.proofs.Steps.{then, stops, gives}
use Rattle.vr_read.specs.Formats.{format}
use Rattle.vr_read.proofs.formats.FormatNumberReader.read.Goals as goal

pub returns-in_err-number : goal.returns-in_err-number
unfolding format
returns-in_err-number c = stops _ _ c.in_err-number.ensures c.from_residual.ensures.1

pub returns : goal.returns
unfolding format
returns c = then _ c.in_ok-number.ensures (gives c.format_of.ensures)
