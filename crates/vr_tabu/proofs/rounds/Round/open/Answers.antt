use Rattle.std.proofs.Common.{arith}
use Rattle.std.proofs.lemmas.Int.{ints}
use Rattle.vr_tabu.specs.Tabus.{tabus_of}
use Rattle.vr_tabu.proofs.CandidateLemmas.{both_bounded, ceiling_where, no_ceiling}
use Rattle.vr_tabu.proofs.rounds.Round.open.Goals as goal

pub invariant_of-round : goal.invariant_of-round
invariant_of-round c = record {
  known = c.requires.known;
  bounded = no_ceiling c.args.model.now (tabus_of c.args.state.now.tabus) c.args.state.now.best.routes.lists c.args.routes.now.lists;
}

pub invariant_of-result : goal.invariant_of-result
invariant_of-result c =
    let fit = both_bounded c.args.model.now c.args.routes.now c.args.state.now c.requires.known in
    record {
      known = c.requires.known;
      bounded = ceiling_where c.args.model.now (tabus_of c.args.state.now.tabus) c.args.state.now.best.routes.lists
          c.args.routes.now.lists (c.are_all_tabu.ensures c.if-not-are_all_tabu.false) _
          (omega (arith, ints, fit.0.least, fit.0.greatest, fit.1.least, fit.1.greatest, c.aspiration.ensures));
    }
