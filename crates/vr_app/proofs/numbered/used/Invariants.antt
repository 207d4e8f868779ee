use Rattle.std.proofs.Common.{◌≡◌, ◌≤◌, ◌+◌, drop}
use Rattle.vr_app.specs.Texts.{used}
use Rattle.vr_app.proofs.numbered.used.Given as goal

-- those that were counted and those that are left are all
abbrev pub invariant-loop-vehicle : goal.invariant-loop-vehicle
invariant-loop-vehicle l = record {
  whole : l.count + used (drop l.vehicle l.routes.lists) ≡ used l.routes.lists;
  few : l.count ≤ l.vehicle;
}
