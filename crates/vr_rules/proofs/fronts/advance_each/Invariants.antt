use Rattle.std.proofs.Common.{◌≡◌, ℕ, ◌<◌, ◌≤◌, ◌++◌, length}
use Rattle.std.specs.Prelude.{slice_index_or}
use Rattle.vr_rules.specs.declared.fronts.Front.{Front}
use Rattle.vr_rules.specs.Fronts.{IsFrontOf}
use Rattle.vr_rules.specs.Placing.{item_nodes}
use Rattle.vr_rules.proofs.fronts.advance_each.Given as goal

-- the fronts of the dimensions so far stand behind the item, the others do not yet
abbrev pub invariant-loop-d : goal.invariant-loop-d
invariant-loop-d l = record {
  long : length l.fronts.items ≡ length l.initial.fronts.items;
  moved : (d : ℕ) (other : Front) → d < l.d → d < length l.fronts.items
      → IsFrontOf l.longer.closed.model.now d l.longer.v (l.longer.list.now ++ item_nodes l.longer.item) (slice_index_or l.fronts.items d other);
  left : (d : ℕ) (other : Front) → l.d ≤ d → d < length l.fronts.items
      → IsFrontOf l.longer.closed.model.now d l.longer.v l.longer.list.now (slice_index_or l.fronts.items d other);
}
