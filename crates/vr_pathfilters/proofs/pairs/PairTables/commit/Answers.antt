use Rattle.std.proofs.Common.{◌<◌, ◌≤◌, length, arith}
use Rattle.vr_routes.proofs.CommitLemmas.{once_after}
use Rattle.vr_pathfilters.proofs.AfterChanges.{tours_after}
use Rattle.vr_pathfilters.proofs.TurnLemmas.{counted_at_first, counted_at_last, counted_part}
use Rattle.vr_pathfilters.proofs.pairs.PairTables.commit.Goals as goal

pub loop-k-init : goal.loop-k-init
loop-k-init c = counted_at_first c.args.node_tables.now c.args.routes.now.lists c.args.change.now
    c.requires.made.makes.parts_are c.args.self.now.turns.listed c.requires.knows.counted

pub loop-k-preserved : goal.loop-k-preserved
loop-k-preserved c =
    let parts = c.args.change.now in
    let low : c.loop-k.k < length parts = omega (arith, c.loop-k-test.true, c.parts-k-end.ensures.value) in
    counted_part c.args.node_tables.now c.args.routes.now.lists parts c.requires.made.makes.parts_are
    (once_after c.args.routes.now parts c.requires.made c.requires.knows.knows_tours.tours_are.once) c.loop-k.k
    low c.loop-k.self.turns.listed c.count_part.new.self.turns.listed c.loop-k.invariant c.count_part.ensures

pub returns : goal.returns
returns c =
    let tours = c.args.routes.now in
    let parts = c.args.change.now in
    let knows = c.requires.knows.knows_tours in
    let past : length parts ≤ c.loop-k.k = omega (arith, c.loop-k-test.false, c.parts-k-end.ensures.value) in
    record {
      knows_tours = record { well_formed = knows.well_formed; tours_are = tours_after c.args.node_tables.now tours knows.tours_are parts c.requires.made };
      counted = counted_at_last c.args.node_tables.now tours.lists parts
          c.requires.made.makes.parts_are c.loop-k.k past c.loop-k.self.turns.listed c.loop-k.invariant;
    }
