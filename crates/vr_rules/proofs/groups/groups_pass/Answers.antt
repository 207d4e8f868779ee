use Rattle.std.proofs.Common.{◌∙◌, sym, arith}
use Rattle.vr_rules.specs.GroupRules.{passes_by}
use Rattle.vr_lists.proofs.ListTests.{all_more, all_stops, all_ends}
use Rattle.vr_rules.proofs.groups.groups_pass.Goals as goal

pub returns-then-not-passes : goal.returns-then-not-passes
returns-then-not-passes c = let group = c.get.result.now in
    sym (all_stops (passes_by c.args.rule c.args.marks.now) c.args.closed.model.now.groups c.loop-k.k
    group (omega arith) (c.get.ensures.value group) (sym c.passes.ensures ∙ c.if-not-passes.true))

pub loop-k-preserved : goal.loop-k-preserved
loop-k-preserved c = let group = c.get.result.now in
    all_more (passes_by c.args.rule c.args.marks.now) c.args.closed.model.now.groups c.loop-k.k group
    (omega arith) (c.get.ensures.value group) c.loop-k.invariant (sym c.passes.ensures ∙ c.if-not-passes.false)

pub returns : goal.returns
returns c = sym (all_ends (passes_by c.args.rule c.args.marks.now) c.args.closed.model.now.groups c.loop-k.k (omega arith) c.loop-k.invariant)
