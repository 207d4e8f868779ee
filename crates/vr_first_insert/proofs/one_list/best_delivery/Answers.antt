use Rattle.std.proofs.Common.{◌≡◌, ◌∙◌, ap, sym, arith, pos, to_z, of_z, w64}
use Rattle.std.proofs.lemmas.Int.{ints}
use Rattle.vr_first_insert.specs.Placings.{may_improve}
use Rattle.vr_first_insert.proofs.BoundLemmas.{all-read, deliveries-passed_over}
use Rattle.vr_first_insert.proofs.ReadyLemmas.{few-held}
use Rattle.vr_first_insert.proofs.one_list.best_delivery.Goals as goal

pub overflow_cast-s : goal.overflow_cast-s
overflow_cast-s c = omega (arith, few-held c.args.pair.now.list c.args.pair.now.may_hold)

pub write_placed-requires-clause-few : goal.write_placed-requires-clause-few
write_placed-requires-clause-few c = few-held c.args.pair.now.list c.args.pair.now.may_hold

pub returns-then-not-may_improve-clause-best : goal.returns-then-not-may_improve-clause-best
returns-then-not-may_improve-clause-best c =
    let model = c.args.pair.now.list.lookups.now.closed.model.now in
    let list = c.args.pair.now.list.nodes.now in
    let fits : to_z w64 (of_z w64 c.least_behind.result) ≡ c.least_behind.result =
    omega (arith, ints, c.least_behind.ensures.low, c.least_behind.ensures.high) in
    deliveries-passed_over model c.args.pair.now.list.vehicle list c.args.pair.now.class c.args.pair.now.pickup
    c.args.pair.now.delivery c.args.s c.args.s c.args.best c.least_behind.result (λ t from high. c.least_behind.ensures.least t high)
    (ap (may_improve c.args.best c.args.pair.now.class) (sym fits) ∙ sym c.may_improve.ensures ∙ c.if-not-may_improve.true)

pub get-least-requires : goal.get-least-requires
get-least-requires c =
    let long = c.requires.ready.ahead.one_of_each in
    omega (arith, long)

pub least_behind-requires-clause-least : goal.least_behind-requires-clause-least
least_behind-requires-clause-least c = all-read c.args.pair.now.list c.args.pair.now.delivery
    c.args.scratch.now.ahead c.get-least.result.now c.requires.ready.ahead (c.get-least.ensures.value (pos 0))

pub best_behind-requires-clause-least : goal.best_behind-requires-clause-least
best_behind-requires-clause-least c = all-read c.args.pair.now.list c.args.pair.now.delivery
    c.args.scratch.now.ahead c.get-least.result.now c.requires.ready.ahead (c.get-least.ensures.value (pos 0))
