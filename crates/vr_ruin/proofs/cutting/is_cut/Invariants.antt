use Rattle.std.proofs.Common.{◌≡◌, drop}
use Rattle.vr_model.specs.routes.Routes.{holds}
use Rattle.vr_ruin.proofs.cutting.is_cut.Given as goal

abbrev pub invariant-loop-w : goal.invariant-loop-w
invariant-loop-w l = holds (drop l.w-index l.cut) l.v ≡ holds l.cut l.v
