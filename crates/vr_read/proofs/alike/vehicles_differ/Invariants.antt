use Rattle.std.proofs.Common.{◌≡◌, length}
use Rattle.std.specs.List.{list_any}
use Rattle.vr_model.specs.tables.Numbers.{from_to}
use Rattle.vr_model.specs.tables.ModelRules.{vehicles_differ}
use Rattle.vr_read.specs.Alike.{differs_from_some}
use Rattle.vr_read.proofs.alike.vehicles_differ.Given as goal

abbrev pub invariant-loop-v : goal.invariant-loop-v
invariant-loop-v l = list_any (differs_from_some l.of.model.now) (from_to l.v (length l.of.model.now.vehicles)) ≡ vehicles_differ l.of.model.now
