use Rattle.std.proofs.Common.{rules}
use Rattle.vr_json.proofs.Steps.{then, gives}
use Rattle.vr_read.specs.Dimensions.{evaluator}
use Rattle.vr_read.proofs.dimensions.EvaluatorTableTable.read.Goals as goal

pub returns : goal.returns
unfolding evaluator
returns c = then _ c.in_ok-matrix.ensures (then _ c.in_ok-values.ensures (then _ c.in_ok-known.ensures (gives (search rules))))
