use Rattle.std.proofs.Common.{◌≡◌, ℕ, [], length}
use Rattle.vr_costfilter.specs.GlobalCosts.{orders_at}
use Rattle.vr_costfilter.proofs.reaches.SpanRules.no_orders.Given as goal

-- the orders so far are of no vehicle
abbrev pub invariant-loop-d : goal.invariant-loop-d
invariant-loop-d l = record {
  many : length l.orders.items ≡ l._d;
  starts : (d : ℕ) → (orders_at l.orders.items d).starts ≡ [];
  ends : (d : ℕ) → (orders_at l.orders.items d).ends ≡ [];
}
