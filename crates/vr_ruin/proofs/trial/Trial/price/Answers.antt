use Rattle.std.proofs.Common.{arith, subst}
use Rattle.std.proofs.lemmas.Int.{ints}
use Rattle.vr_ruin.specs.Timeless.{IsPaid}
use Rattle.vr_ruin.proofs.trial.Trial.price.Goals as goal

pub price_by_arcs-requires-clause-timeless : goal.price_by_arcs-requires-clause-timeless
price_by_arcs-requires-clause-timeless c = subst (IsPaid c.args.self.now.model c.args.self.now.lists) c.in-None.is c.requires.paid

pub price_by_schedules-requires-clause-paid : goal.price_by_schedules-requires-clause-paid
price_by_schedules-requires-clause-paid c =
    let paid = subst (IsPaid c.args.self.now.model c.args.self.now.lists) c.in-Some.is c.requires.paid in
    omega (arith, ints, paid.0, paid.1.low, paid.1.high)

pub price_by_schedules-requires-clause-range : goal.price_by_schedules-requires-clause-range
price_by_schedules-requires-clause-range c =
    let paid = subst (IsPaid c.args.self.now.model c.args.self.now.lists) c.in-Some.is c.requires.paid in
    record { low = omega (arith, ints, paid.1.low, paid.1.high); high = omega (arith, ints, paid.1.low, paid.1.high) }
