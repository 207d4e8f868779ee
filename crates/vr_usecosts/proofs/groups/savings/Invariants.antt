use Rattle.std.proofs.Common.{◌≡◌, ◌<◌, ℕ, length}
use Rattle.std.specs.Prelude.{pos}
use Rattle.vr_model.specs.tables.Numbers.{number_at}
use Rattle.vr_usecosts.specs.Groups.{saved_by}
use Rattle.vr_usecosts.proofs.groups.savings.Given as goal

-- what the nodes so far save
abbrev pub invariant-loop-node : goal.invariant-loop-node
invariant-loop-node l = record {
  long : length l.saved ≡ l.node;
  each : (k : ℕ) → k < l.node → number_at l.saved k ≡ pos (saved_by l.closed.model.now.groups k);
}
