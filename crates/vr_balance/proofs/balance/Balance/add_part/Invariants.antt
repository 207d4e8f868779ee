use Rattle.std.proofs.Common.{◌≡◌, ◌+◌, ◌≤◌, ℕ, length, take, sum_by}
use Rattle.std.specs.Prelude.{slice_range}
use Rattle.vr_model.specs.routes.Routes.{route}
use Rattle.vr_balance.specs.Balances.{over_pieces, IsTurnover}
use Rattle.vr_balance.proofs.balance.Balance.add_part.Given as goal

-- the nodes before a place became those of the pieces so far
abbrev pub invariant-loop-k : goal.invariant-loop-k
invariant-loop-k l = record {
  low : l.place ≤ length (route l.routes.lists l.v);
  room : length l.self.come ≤ length l.fn.self.come + l.k;
  room_too : length l.self.gone ≤ length l.fn.self.gone + l.k;
  within : IsTurnover l.routes.lists l.self;
  became : (f : ℕ → ℕ)
      → over_pieces f l.routes.lists l.fn.self.come + (over_pieces f l.routes.lists l.self.gone + over_pieces f l.routes.lists (take l.k l.pieces))
      ≡ over_pieces f l.routes.lists l.self.come + (over_pieces f l.routes.lists l.fn.self.gone + sum_by f (slice_range (route l.routes.lists l.v) 0 l.place));
}
