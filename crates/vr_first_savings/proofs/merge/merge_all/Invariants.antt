use Rattle.std.proofs.Common.{◌≡◌, ◌-◌, length}
use Rattle.vr_model.specs.first.SavingsJoins.{merged}
use Rattle.vr_first_savings.specs.Joins.{AreApart}
use Rattle.vr_first_savings.specs.Bounds.{AreBounds}
use Rattle.vr_first_savings.proofs.merge.merge_all.Given as goal

-- what is merged from here with the steps that are left is what is merged from the start with all of them
abbrev pub invariant-loop-step : goal.invariant-loop-step
invariant-loop-step l = record {
  merges : merged l.lookups.closed.model.now (length l.initial.routes.items - l._step) l.routes.items
      ≡ merged l.lookups.closed.model.now (length l.initial.routes.items) l.initial.routes.items;
  apart : AreApart l.lookups.closed.model.now l.routes.items;
  number : length l.bounds ≡ l.lookups.closed.model.now.nodes;
  bounds : AreBounds l.lookups.closed.model.now l.routes.items l.bounds;
}
