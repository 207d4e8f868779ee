use Rattle.std.proofs.Common.{◌∙◌, sym, arith}
use Rattle.vr_model.specs.routes.Rules.{serves_pair}
use Rattle.vr_lists.proofs.ListTests.{all_more, all_stops}
use Rattle.vr_lists.proofs.pairs.serves_all.Goals as goal

pub returns-then-not-serves : goal.returns-then-not-serves
returns-then-not-serves c = sym (all_stops (serves_pair c.args.list.now) c.args.closed.model.now.pairs c.loop-k.k
    c.get.result.now (omega arith) (c.get.ensures.value c.get.result.now) (sym c.serves.ensures ∙ c.if-not-serves.true))

pub loop-k-preserved : goal.loop-k-preserved
loop-k-preserved c = all_more (serves_pair c.args.list.now) c.args.closed.model.now.pairs c.loop-k.k c.get.result.now
    (omega arith) (c.get.ensures.value c.get.result.now) c.loop-k.invariant (sym c.serves.ensures ∙ c.if-not-serves.false)
