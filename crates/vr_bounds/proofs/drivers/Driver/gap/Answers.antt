use Rattle.std.proofs.Common.{arith}
use Rattle.std.proofs.lemmas.Int.{ints}
use Rattle.vr_bounds.proofs.GapLemmas.{gap-told}
use Rattle.vr_bounds.proofs.drivers.Driver.gap.Goals as goal

pub returns : goal.returns
returns c =
    let to = c.arc_cost-to.ensures in
    let on = c.arc_cost-on.ensures in
    let old = c.arc_cost-old.ensures in
    let is = gap-told c.args.self.closed.model.now c.args.self.vehicle c.args.list.now c.args.place c.args.node c.requires.place c.requires.some
    c.before-before.ensures.value c.at-at.ensures.value to.value on.value old.value in
    omega (arith, ints, is, to.not_negative, to.bound, on.not_negative, on.bound, old.not_negative, old.bound)
