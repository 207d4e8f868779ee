use Rattle.std.proofs.Common.{◌≡◌, ◌+◌, ◌*◌, ◌≤◌, ℕ, length, take}
use Rattle.vr_balance.specs.Balances.{over_pieces, IsTurnover}
use Rattle.vr_balance.proofs.BalanceLemmas.{over_new, over_old}
use Rattle.vr_balance.proofs.balance.Balance.write.Given as goal

-- the vehicles of the parts so far got their lists
abbrev pub invariant-loop-k : goal.invariant-loop-k
invariant-loop-k l = record {
  room : length l.self.come ≤ 9 * l.k;
  room_too : length l.self.gone ≤ 9 * l.k;
  within : IsTurnover l.routes.lists l.self;
  balanced : (f : ℕ → ℕ) → over_new f l.routes.lists (take l.k l.change) + over_pieces f l.routes.lists l.self.gone
      ≡ over_old f l.routes.lists (take l.k l.change) + over_pieces f l.routes.lists l.self.come;
}
