use Rattle.std.proofs.Common.{◌≡◌, ◌≤◌, drop, length}
use Rattle.std.specs.Prelude.{filter}
use Rattle.vr_model.specs.tables.Numbers.{from_to}
use Rattle.vr_model.specs.routes.Routes.{is_same, inactive}
use Rattle.vr_model.specs.moves.MoveTests.{is_inactive}
use Rattle.vr_check.proofs.visits.wrong_dropped.Given as goal

-- the inactive visits so far are the first of the list
abbrev pub invariant-loop-node : goal.invariant-loop-node
invariant-loop-node l = record {
  within : l.k ≤ length l.dropped;
  left : is_same (drop l.k l.dropped) (filter (is_inactive l.model l.lists) (from_to l.node l.model.nodes)) ≡ is_same l.dropped (inactive l.model l.lists);
}
