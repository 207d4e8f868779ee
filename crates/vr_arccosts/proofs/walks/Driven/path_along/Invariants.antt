use Rattle.std.proofs.Common.{◌≡◌, ◌*◌, take}
use Rattle.vr_model.specs.tables.Tables.{arc_cost}
use Rattle.vr_routes.specs.Pieces.{joined}
use Rattle.vr_balance.specs.Sums.{path_sum, last_of, IsUpTo}
use Rattle.vr_arccosts.proofs.walks.Driven.path_along.Given as goal

abbrev pub invariant-loop-k : goal.invariant-loop-k
invariant-loop-k l = record {
  at : l.path.at ≡ last_of l.at (joined l.self.routes.now.lists (take l.k l.pieces));
  cost : l.path.cost ≡ path_sum (arc_cost l.self.costs.now.model.now l.self.costs.now.vehicle) l.at (joined l.self.routes.now.lists (take l.k l.pieces));
  range : IsUpTo (1001 * l.k) l.path.cost;
}
