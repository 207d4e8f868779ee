use Rattle.std.proofs.Common.{◌≡◌, length, not}
use Rattle.std.specs.List.{list_any}
use Rattle.vr_model.specs.tables.Numbers.{from_to}
use Rattle.vr_model.specs.tables.ModelRules.{are_alike}
use Rattle.vr_read.specs.Alike.{differs_from_some}
use Rattle.vr_read.proofs.alike.differs_from_some.Given as goal

abbrev pub invariant-loop-w : goal.invariant-loop-w
invariant-loop-w l = list_any (λ w. not (are_alike l.of.model.now l.v w)) (from_to l.w (length l.of.model.now.vehicles)) ≡ differs_from_some l.of.model.now l.v
