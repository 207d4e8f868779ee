use Rattle.std.proofs.Common.{take}
use Rattle.vr_costfilter.specs.GlobalCosts.{AreAllOrders}
use Rattle.vr_costfilter.proofs.reaches.SpanRules.orders.Given as goal

-- the orders of the lists so far
abbrev pub invariant-loop-v : goal.invariant-loop-v
invariant-loop-v l = AreAllOrders l.self (take l.v l.routes.lists) l.orders.items
