use Rattle.std.proofs.Common.{◌≡◌, ◌-◌, length}
use Rattle.vr_model.specs.first.PathCheapestArc.{filled}
use Rattle.vr_model.specs.routes.Routes.{route}
use Rattle.vr_rules.specs.Fronts.{AreFrontsOf}
use Rattle.vr_rules.specs.Placing.{AreBuilt, AreMarks}
use Rattle.vr_first_arc.proofs.fill.fill.Given as goal

-- what is filled from here with the steps that are left is what is filled from the start with all of them
abbrev pub invariant-loop-step : goal.invariant-loop-step
invariant-loop-step l = record {
  fills : filled l.filling.lookups.now.closed.model.now l.v (length l.filling.candidates.now - l._step) l.lists
      ≡ filled l.filling.lookups.now.closed.model.now l.v (length l.filling.candidates.now) l.initial.lists;
  count : length l.lists ≡ length l.initial.lists;
  fronts : AreFrontsOf l.filling.lookups.now.closed.model.now l.v (route l.lists l.v) l.fronts;
  built : AreBuilt l.filling.lookups.now.closed.model.now l.lists;
  marked : AreMarks l.filling.lookups.now.closed.model.now.nodes l.lists l.marks;
}
