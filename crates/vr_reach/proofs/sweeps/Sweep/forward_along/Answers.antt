use Rattle.std.proofs.Common.{◌∙◌, ◌+◌, take, ap, arith, subst, sym}
use Rattle.vr_reach.specs.KnownRows.{AreFirstRows}
use Rattle.vr_reach.proofs.AlongLemmas.{known_stays}
use Rattle.vr_reach.proofs.sweeps.Sweep.forward_along.Goals as goal

pub write_ahead-requires-clause-known : goal.write_ahead-requires-clause-known
write_ahead-requires-clause-known c =
    let asked = c.args.stops.now.of in
    let list = c.args.stops.now.of.list.now in
    let fitted = c.in_ok-fit.ensures in
    let kept = c.known_in_place-known.ensures in
    subst (AreFirstRows asked.closed.model.now asked.d asked.v list c.known_in_place-known.result)
    (sym (c.split_at_mut-rows.ensures.front ∙ ap (take (c.len-n.result + 2)) c.deref_mut.ensures.value))
    (known_stays asked.closed.model.now asked.d asked.v list c.self.inside.kept.items c.self.inside.first c.self.inside.stops c.self.invariant c.args.known
    (subst (AreFirstRows asked.closed.model.now asked.d asked.v list c.args.known) (sym c.self.view_is) c.requires)
    c.known_in_place-known.result kept.few kept.in_place c.fit.new.rows.items fitted.kept fitted.same _ (omega (arith, c.len-n.ensures.value)) fitted.long)
