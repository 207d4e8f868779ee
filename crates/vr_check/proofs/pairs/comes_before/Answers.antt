use Rattle.std.proofs.Common.{◌+◌, sym, ap, ◌∙◌}
use Rattle.vr_model.specs.deciding.Testing.{test_of_eq}
use Rattle.std.proofs.lemmas.Bool.{ne_eqb}
use Rattle.vr_model.specs.routes.Routes.{holds}
use Rattle.vr_check.proofs.Walks.{rest_of, before_here, before_later, before_end}
use Rattle.vr_check.proofs.pairs.comes_before.Goals as goal

pub returns-then-node-first : goal.returns-then-node-first
returns-then-node-first c = c.holds.ensures ∙ ap (λ xs. holds xs c.args.second) (rest_of c.args.list.now (c.loop-k.k + 1))
    ∙ sym (before_here c.args.list.now c.loop-k.k c.loop-k-test.true c.args.first c.args.second (test_of_eq _ _ c.if-node-first.true)) ∙ c.loop-k.invariant

pub loop-k-preserved : goal.loop-k-preserved
loop-k-preserved c = sym (before_later c.args.list.now c.loop-k.k c.loop-k-test.true c.args.first c.args.second (ne_eqb _ _ c.if-node-first.false))
    ∙ c.loop-k.invariant

pub returns : goal.returns
returns c = sym (before_end c.args.list.now c.loop-k.k c.args.first c.args.second c.loop-k-test.false) ∙ c.loop-k.invariant
