use Rattle.std.proofs.Common.{◌≡◌, ◌+◌, ◌<◌, ◌≤◌, ℕ, length, drop}
use Rattle.std.specs.Prelude.{◌==◌}
use Rattle.std.specs.List.{position_or_len}
use Rattle.vr_lists.specs.Nodes.{node_number}
use Rattle.vr_lists.proofs.nodes.write_rows.Given as goal

-- the nodes of the rows from here on have their numbers
abbrev pub invariant-loop-k : goal.invariant-loop-k
invariant-loop-k l = record {
  within : l.k ≤ length l.closed.model.now.allowed;
  long : length l.numbers ≡ l.closed.model.now.nodes;
  each : (node : ℕ) → node < l.closed.model.now.nodes
      → node_number l.numbers node ≡ l.k + position_or_len (λ row. row.node == node) (drop l.k l.closed.model.now.allowed);
}

abbrev pub decreases-loop-k : goal.decreases-loop-k
decreases-loop-k l = l.k
