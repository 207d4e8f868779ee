use Rattle.std.proofs.Common.{subst, sym}
use Rattle.vr_ruin.specs.Carrying.{AreSumsIfUsed}
use Rattle.vr_ruin.proofs.asking.Asker.carries.Goals as goal

pub carries-requires-clause-sums : goal.carries-requires-clause-sums
carries-requires-clause-sums c =
    let model = c.self.inside.lookups.closed.model.now in
    let v = c.args.list.vehicle in
    let list = c.args.list.nodes.now in
    let known = c.args.list.known.now in
    subst (AreSumsIfUsed model v list) (sym c.as_slice.ensures)
    (subst (λ nodes. AreSumsIfUsed model v nodes known.sums) c.requires.known.nodes_are
    (subst (λ m. AreSumsIfUsed m v known.nodes known.sums) (sym c.self.view_is) c.requires.known.known.sums_are))
