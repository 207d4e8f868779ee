use Rattle.std.proofs.Common.{◌-◌, length, ap, ap₂, ◌∙◌, arith}
use Rattle.vr_tsplib.specs.Files.{with_place, weights_line}
use Rattle.vr_tsplib.specs.Heads.{weights_left}
use Rattle.vr_tsplib.specs.Texts.{words}
use Rattle.vr_tsplib.proofs.RowLemmas.{row_longer}
use Rattle.vr_tsplib.proofs.LineSteps.{gives, stops_seen, then}
use Rattle.vr_tsplib.proofs.files.State.weights_line.Goals as goal

pub returns-in_err-push_row : goal.returns-in_err-push_row
unfolding weights_line
returns-in_err-push_row c = stops_seen _ c.from_residual.result _ c.in_err-push_row.ensures c.from_residual.ensures.1

pub overflow_sub-count : goal.overflow_sub-count
overflow_sub-count c =
    omega (
      arith,
      c.len.ensures,
      c.len-before.ensures,
      row_longer c.args.left c.args.self.now.weights (words c.args.line.now) c.push_row.new.weights c.in_ok-push_row.ensures.value,
    )

pub returns : goal.returns
unfolding weights_line
returns c =
    let place = c.weights_left-self.ensures
    ∙ ap weights_left (c.saturating_sub.ensures ∙ ap₂ (λ all before. c.args.left - (all - before)) c.len.ensures c.len-before.ensures) in
    then _ c.in_ok-push_row.ensures (gives (ap (λ next. record (with_place c.args.self.now next) { weights = c.push_row.new.weights }) place))
