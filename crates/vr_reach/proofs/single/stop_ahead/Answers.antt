use Rattle.std.proofs.Common.{◌∙◌, ◌<◌, ap, sym, arith, length, get_or, pos}
use Rattle.vr_spans.specs.declared.runs.Run.{Run}
use Rattle.vr_steps.proofs.LineLemmas.{visit_below}
use Rattle.vr_reach.proofs.LineParts.{visit_allows_run, end_allows_run, end_node}
use Rattle.vr_reach.proofs.single.stop_ahead.Goals as goal

pub returns-then-k-len-clause-below : goal.returns-then-k-len-clause-below
returns-then-k-len-clause-below c =
    let of = c.args.line.now.of in
    let h = visit_below of.closed.model.now of.list.now c.args.k 0 of.used.tour.visits (omega (arith, c.if-k-len.true, c.len.ensures.value)) in
    omega (arith, h, c.get-node.ensures)

pub returns-then-k-len-clause-allowed : goal.returns-then-k-len-clause-allowed
returns-then-k-len-clause-allowed c =
    let line = c.args.line.now in
    let of = line.of in
    let m = of.closed.model.now in
    let list = of.list.now in
    let runs = line.visits.now in
    let low : c.args.k < length list = omega (arith, c.if-k-len.true, c.len.ensures.value) in
    let known : get_or list c.args.k 0 < length runs =
    (let n = line.runs_are.long in let h = visit_below m list c.args.k 0 of.used.tour.visits low in omega (arith, n, h)) in
    let none : Run = record { lo = pos 0; hi = pos 0 } in
    visit_allows_run m of.d of.v list c.args.k runs (get_or runs c.get-node.result none) none
    line.runs_are of.used.tour low known (ap (λ i. get_or runs i none) c.get-node.ensures)

pub returns-clause-node : goal.returns-clause-node
returns-clause-node c =
    let of = c.args.line.now.of in
    c.args.line.now.finish_is.node
    ∙ sym (end_node of.closed.model.now of.v of.list.now c.args.k (omega (arith, c.requires, c.if-k-len.false, c.len.ensures.value)))

pub returns-clause-allowed : goal.returns-clause-allowed
returns-clause-allowed c =
    let of = c.args.line.now.of in
    end_allows_run of.closed.model.now of.d of.v of.list.now c.args.k c.args.line.now.finish.allowed
    c.args.line.now.finish_is.allowed (omega (arith, c.requires, c.if-k-len.false, c.len.ensures.value))
