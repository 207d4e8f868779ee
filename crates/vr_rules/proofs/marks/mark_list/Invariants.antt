use Rattle.std.proofs.Common.{◌≡◌, ◌<◌, ℕ, Bool, ◌||◌, take, length}
use Rattle.std.specs.Prelude.{slice_index_or}
use Rattle.vr_model.specs.routes.Routes.{holds}
use Rattle.vr_rules.proofs.marks.mark_list.Given as goal

abbrev pub invariant-loop-node : goal.invariant-loop-node
invariant-loop-node l = record {
  count : length l.marks ≡ length l.initial.marks;
  each : (node : ℕ) (d : Bool) → node < length l.initial.marks
      → slice_index_or l.marks node d ≡ (holds (take l.node-index l.list) node || slice_index_or l.initial.marks node d);
}
