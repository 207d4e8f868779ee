use Rattle.std.proofs.Common.{not, sym, ap, ◌∙◌}
use Rattle.vr_tsplib.specs.declared.flaws.Flaw.TheVariants.{FaultyLine}
use Rattle.vr_tsplib.specs.Flaws.{refuse_if}
use Rattle.vr_tsplib.specs.Rows.{row_behind}
use Rattle.vr_tsplib.proofs.Chains.{halts}
use Rattle.vr_tsplib.proofs.LineSteps.{fails_seen, known}
use Rattle.vr_tsplib.proofs.weights.push_row.Goals as goal

pub returns-in_err-refuse_if : goal.returns-in_err-refuse_if
unfolding row_behind
returns-in_err-refuse_if c =
    let shaped = ap (λ b. refuse_if (not b) FaultyLine) (sym c.are_numbers.ensures) in
    fails_seen _ c.from_residual.result (halts _ (shaped ∙ sym c.in_err-refuse_if.ensures)) c.from_residual.ensures.1

pub returns : goal.returns
unfolding row_behind
returns c =
    let shaped = ap (λ b. refuse_if (not b) FaultyLine) (sym c.are_numbers.ensures) in
    known _ (shaped ∙ sym c.in_ok-refuse_if.ensures) c.push_weights.ensures
