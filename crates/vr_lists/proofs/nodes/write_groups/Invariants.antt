use Rattle.std.proofs.Common.{◌≡◌, ◌+◌, ◌<◌, ◌≤◌, ℕ, length, drop}
use Rattle.std.specs.List.{position_or_len}
use Rattle.vr_model.specs.routes.Routes.{holds}
use Rattle.vr_lists.specs.Nodes.{node_number}
use Rattle.vr_lists.proofs.nodes.write_groups.Given as goal

-- the nodes of the groups from here on have their numbers
abbrev pub invariant-loop-g : goal.invariant-loop-g
invariant-loop-g l = record {
  within : l.g ≤ length l.closed.model.now.groups;
  long : length l.numbers ≡ l.closed.model.now.nodes;
  each : (node : ℕ) → node < l.closed.model.now.nodes
      → node_number l.numbers node ≡ l.g + position_or_len (λ group. holds group.nodes node) (drop l.g l.closed.model.now.groups);
}

abbrev pub decreases-loop-g : goal.decreases-loop-g
decreases-loop-g l = l.g
