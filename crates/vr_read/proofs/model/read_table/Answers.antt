use Rattle.std.proofs.Common.{rules, arith}
use Rattle.vr_json.proofs.Steps.{then, stops, gives}
use Rattle.serde_json.specs.View.{view}
use Rattle.vr_read.proofs.WellFormedModels.{base_lengths}
use Rattle.vr_read.specs.Models.{model_table}
use Rattle.vr_read.proofs.model.read_table.Goals as goal

pub returns-in_err-base : goal.returns-in_err-base
unfolding model_table
returns-in_err-base c = stops _ _ c.in_err-base.ensures c.from_residual.ensures.1

pub returns-in_err-parts : goal.returns-in_err-parts
unfolding model_table
returns-in_err-parts c = then _ c.in_ok-base.ensures
    (stops _ _ (rw (c.len-matrices.ensures, c.len-fleet.ensures, c.as_slice-vehicles.ensures) at c.in_err-parts.ensures) c.from_residual-in_err-parts.ensures.1)

pub returns-in_err-known : goal.returns-in_err-known
unfolding model_table
returns-in_err-known c = then _ c.in_ok-base.ensures
    (then _ (rw (c.len-matrices.ensures, c.len-fleet.ensures, c.as_slice-vehicles.ensures) at c.in_ok-parts.ensures)
    (stops _ _ c.in_err-known.ensures c.from_residual-in_err-known.ensures.1))

pub returns : goal.returns
unfolding model_table
returns c = then _ c.in_ok-base.ensures
    (then _ (rw (c.len-matrices.ensures, c.len-fleet.ensures, c.as_slice-vehicles.ensures) at c.in_ok-parts.ensures)
    (then _ c.in_ok-known.ensures (gives (search rules))))

pub overflow_cast-matrices : goal.overflow_cast-matrices
overflow_cast-matrices c =
    let within = base_lengths c.args.fields.path.now (view c.args.fields.value.now) c.in_ok-base.ensures in
    omega (arith, within.0, c.len-matrices.ensures)

pub overflow_cast-fleet : goal.overflow_cast-fleet
overflow_cast-fleet c =
    let within = base_lengths c.args.fields.path.now (view c.args.fields.value.now) c.in_ok-base.ensures in
    omega (arith, within.1, c.len-fleet.ensures)
