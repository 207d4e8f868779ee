use Rattle.std.proofs.Common.{◌∙◌, arith}
use Rattle.vr_guided.specs.Counts.{counted}
use Rattle.vr_guided.proofs.RouteSumLemmas.{written_more}
use Rattle.vr_guided.proofs.ListLemmas.{list_of_each}
use Rattle.vr_guided.proofs.route_sums.AllRouteSums.write.Goals as goal

pub loop-v-preserved : goal.loop-v-preserved
loop-v-preserved c = record {
  many = c.write_of.ensures.long ∙ c.loop-v.invariant.many;
  each =
      written_more c.args.weights.closed.model.now (counted c.args.weights.penalties.now) c.args.routes.now.lists c.loop-v.v c.loop-v.self c.write_of.new.self
      (omega (arith, c.loop-v.invariant.many, c.loop-v-test.true, c.len-v-end.ensures)) c.loop-v.invariant.each c.write_of.ensures;
}

pub returns : goal.returns
returns c = record {
  many = c.loop-v.invariant.many;
  known = list_of_each c.args.weights.closed.model.now c.args.routes.now.lists c.requires.valid;
  each = λ v low. c.loop-v.invariant.each v (omega (arith, low, c.loop-v-test.false, c.len-v-end.ensures));
}
