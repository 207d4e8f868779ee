use Rattle.std.proofs.Common.{rules, arith}
use Rattle.vr_json.proofs.Steps.{then, stops, gives}
use Rattle.vr_json.proofs.Readings.{field_length}
use Rattle.vr_read.specs.Models.{base}
use Rattle.vr_read.proofs.model.read_base.Goals as goal

pub returns-in_err-matrices : goal.returns-in_err-matrices
unfolding base
returns-in_err-matrices c =
    then _ c.in_ok-format.ensures (then _ c.in_ok-nodes.ensures (stops _ _ c.in_err-matrices.ensures c.from_residual-in_err-matrices.ensures.1))

pub returns-in_err-vehicles : goal.returns-in_err-vehicles
unfolding base
returns-in_err-vehicles c = then _ c.in_ok-format.ensures
    (then _ c.in_ok-nodes.ensures
    (then _ c.in_ok-matrices.ensures (stops _ _ (rw c.len-count.ensures at c.in_err-vehicles.ensures) c.from_residual-in_err-vehicles.ensures.1)))

pub returns : goal.returns
unfolding base
returns c = then _ c.in_ok-format.ensures
    (then _ c.in_ok-nodes.ensures (then _ c.in_ok-matrices.ensures (then _ (rw c.len-count.ensures at c.in_ok-vehicles.ensures) (gives (search rules)))))

pub overflow_cast-count : goal.overflow_cast-count
overflow_cast-count c = let within = field_length _ 1 16 _ _ _ _ c.in_ok-matrices.ensures in omega (arith, within.at_most, c.len-count.ensures)
