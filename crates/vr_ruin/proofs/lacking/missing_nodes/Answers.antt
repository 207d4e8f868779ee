use Rattle.std.proofs.Common.{◌<◌, arith, ap, length}
use Rattle.std.proofs.lemmas.List.Sums.{sum_by_more}
use Rattle.vr_model.specs.declared.records.Group.{Group}
use Rattle.vr_model.specs.routes.Rules.{active_in}
use Rattle.vr_ruin.specs.Lacking.{needed_by}
use Rattle.vr_ruin.proofs.lacking.missing_nodes.Goals as goal

pub loop-k-preserved : goal.loop-k-preserved
loop-k-preserved c =
    let group : Group = c.get.result.now in
    let f = λ (group : Group). needed_by group.penalty group.max (active_in c.args.routes.now.lists group) in
    let low : c.loop-k.k < length c.args.closed.model.now.groups = omega (arith, c.loop-k-test.true, c.len-k-end.ensures) in
    let more = sum_by_more f c.args.closed.model.now.groups c.loop-k.k group low in
    let here = ap f (c.get.ensures.value group) in
    record {
      sum = omega (arith, more, here, c.loop-k.invariant.sum, c.needed_nodes-missing.ensures.value);
      few = omega (arith, c.loop-k.invariant.few, c.needed_nodes-missing.ensures.few);
    }
