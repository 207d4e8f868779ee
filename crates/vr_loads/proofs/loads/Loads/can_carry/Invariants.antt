use Rattle.std.proofs.Common.{◌≡◌, ◌*◌, take}
use Rattle.vr_model.specs.tables.Numbers.{total_by}
use Rattle.vr_routes.specs.Pieces.{joined}
use Rattle.vr_loads.specs.Loads.{value_of}
use Rattle.vr_balance.specs.Sums.{IsUpTo}
use Rattle.vr_loads.proofs.loads.Loads.can_carry.Given as goal

abbrev pub invariant-loop-k : goal.invariant-loop-k
invariant-loop-k l = record {
  sum : l.sum ≡ total_by (value_of l.model l.d l.evaluator) (joined l.routes.lists (take l.k l.pieces));
  range : IsUpTo (1001 * l.k) l.sum;
}
