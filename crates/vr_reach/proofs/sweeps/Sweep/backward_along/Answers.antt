use Rattle.std.proofs.Common.{◌≡◌, ◌+◌, ◌-◌, suc, length, take, drop, arith, subst, sym}
use Rattle.vr_reach.specs.KnownRows.{AreLastRows, AreReachingRows}
use Rattle.vr_reach.proofs.AlongLemmas.{moved_last, whole_place}
use Rattle.vr_reach.proofs.sweeps.Sweep.backward_along.Goals as goal

pub write_behind-requires-clause-known : goal.write_behind-requires-clause-known
write_behind-requires-clause-known c =
    let asked = c.args.stops.now.of in
    let list = c.args.stops.now.of.list.now in
    let first = c.self.inside.first in
    let stops = c.self.inside.stops in
    let fits = c.if-wanted-end.true in
    let begin = first + stops - (c.len-n.result + 2) in
    subst (λ kept. AreLastRows asked.closed.model.now asked.d asked.v list c.args.known (take (suc (suc (length list))) (drop begin kept)))
    (sym c.deref_mut.ensures.value)
    (moved_last asked.closed.model.now asked.d asked.v list c.self.inside.kept.items first stops c.self.invariant c.args.known
    (subst (AreLastRows asked.closed.model.now asked.d asked.v list c.args.known) (sym c.self.view_is) c.requires)
    begin (suc (suc (length list))) (omega (arith, fits, c.len-n.ensures.value)) (omega arith))

pub returns-then-wanted-end : goal.returns-then-wanted-end
returns-then-wanted-end c =
    let asked = c.args.stops.now.of in
    let list = c.args.stops.now.of.list.now in
    let same : suc (suc (length list)) ≡ c.len-n.result + 2 = omega (arith, c.len-n.ensures.value) in
    let begin = c.self.inside.first + c.self.inside.stops - (c.len-n.result + 2) in
    let new = c.write_behind.new.kept in
    let long : length new ≡ c.self.inside.kept.len = omega (arith, c.write_behind.auto.kept, c.deref_mut.ensures.len) in
    subst (λ kept. AreReachingRows asked.closed.model.now asked.d asked.v list (take (c.len-n.result + 2) (drop begin kept)))
    (sym (whole_place c.self.inside.kept.items new c.self.inside.kept.len long))
    (subst (λ n. AreReachingRows asked.closed.model.now asked.d asked.v list (take n (drop begin new))) same c.in_ok-write_behind.ensures.rows)

pub returns : goal.returns
returns c =
    let asked = c.args.stops.now.of in
    let list = c.args.stops.now.of.list.now in
    let same : suc (suc (length list)) ≡ c.len-n.result + 2 = omega (arith, c.len-n.ensures.value) in
    let begin = c.len.result - (c.len-n.result + 2) in
    let new = c.write_behind-2.new.kept in
    let long : length new ≡ c.fit.new.rows.len = omega (arith, c.write_behind-2.auto.kept, c.deref_mut-2.ensures.len) in
    subst (λ kept. AreReachingRows asked.closed.model.now asked.d asked.v list (take (c.len-n.result + 2) (drop begin kept)))
    (sym (whole_place c.fit.new.rows.items new c.fit.new.rows.len long))
    (subst (λ n. AreReachingRows asked.closed.model.now asked.d asked.v list (take n (drop begin new))) same c.in_ok-write_behind-2.ensures.rows)
