use Rattle.std.proofs.Common.{◌<◌, length, sym, subst, arith}
use Rattle.vr_reach.specs.Lists.{IsTour}
use Rattle.vr_pathfilters.specs.Pairs.{IsListCounted}
use Rattle.vr_pathfilters.proofs.PartTours.{tour_of}
use Rattle.vr_pathfilters.proofs.TurnLemmas.{counted_list}
use Rattle.vr_pathfilters.proofs.pairs.count_all.Goals as goal

pub count_list-requires-clause-tour : goal.count_list-requires-clause-tour
count_list-requires-clause-tour c =
    let low : c.loop-v.v < length c.args.routes.now.lists = omega (arith, c.loop-v-test.true, c.vehicles-v-end.ensures.value) in
    subst (IsTour c.args.node_tables.now) (sym c.list.ensures.value)
    (tour_of c.args.node_tables.now c.args.routes.now c.requires.tours.tours_are c.loop-v.v low)

pub loop-v-preserved : goal.loop-v-preserved
loop-v-preserved c =
    let before = c.loop-v.turns.listed in
    let after = c.count_list.new.turns.listed in
    let low : c.loop-v.v < length c.args.routes.now.lists = omega (arith, c.loop-v-test.true, c.vehicles-v-end.ensures.value) in
    counted_list c.args.node_tables.now c.args.routes.now.lists c.requires.tours.tours_are.once c.loop-v.v low before after c.loop-v.invariant
    (subst (λ l. IsListCounted c.args.node_tables.now c.loop-v.v l before after) c.list.ensures.value c.count_list.ensures)
