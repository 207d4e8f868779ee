use Rattle.std.proofs.Common.{◌<◌, sym, subst, arith}
use Rattle.std.specs.Prelude.{All}
use Rattle.vr_model.specs.declared.records.Model.{Model}
use Rattle.vr_model.specs.moves.Moves.{with_route}
use Rattle.vr_earliest.specs.Kept.{HaveWays, HasWays}
use Rattle.vr_earliest.proofs.KeptLemmas.{kept-set, kept-stays}
use Rattle.vr_earliest.proofs.WayLemmas.{by-guide}
use Rattle.vr_earliest.proofs.kept.KeptLists.write.Goals as goal

pub write_ways-requires : goal.write_ways-requires
write_ways-requires c =
    (omega arith, (c.requires.few, subst (λ (m : Model). All (λ node. node < m.nodes) c.args.list.now) (sym c.of-guide.ensures.model) c.requires.nodes))

pub returns-then-v-len : goal.returns-then-v-len
returns-then-v-len c lists h known =
    let m = c.args.closed.model.now in
    let e = c.of-guide.ensures in
    let list = c.args.list.now in
    let new = c.write_ways.new.kept in
    let is = by-guide c.of-guide.result e.model e.dimension e.vehicle (λ model d v. HasWays model d v list new) c.write_ways.ensures in
    let old = subst (HaveWays m c.args.d lists) (sym c.self.view_is) h in
    kept-set m c.args.d lists c.self.inside.lists.items c.args.v list new old known (omega (arith, c.len.ensures, c.if-v-len.true)) is

pub returns-else-v-len : goal.returns-else-v-len
returns-else-v-len c lists h known =
    subst (HaveWays c.args.closed.model.now c.args.d (with_route lists c.args.v c.args.list.now)) c.self.view_is
    (kept-stays c.args.closed.model.now c.args.d lists c.self.inside.lists.items c.args.v c.args.list.now
    (subst (HaveWays c.args.closed.model.now c.args.d lists) (sym c.self.view_is) h) (omega (arith, c.len.ensures, c.if-v-len.false)))
