use Rattle.std.proofs.Common.{refl, ap}
use Rattle.serde_json.specs.View.{view}
use Rattle.vr_json.specs.Causes.{fault_at}
use Rattle.vr_json.specs.declared.fault.Cause.TheVariants.{Absent}
use Rattle.vr_json.specs.Reading.{at_path, if_present, required}
use Rattle.vr_json.proofs.Steps.{gives, stops, then}
use Rattle.vr_app.proofs.MetLemmas.{seen_fails, seen_fault}
use Rattle.vr_app.proofs.checked.solution_in.Goals as goal

pub returns-in_err-solution : goal.returns-in_err-solution
unfolding required
returns-in_err-solution c = stops _ _ c.in_err-solution.ensures (seen_fails _ (λ v. view v.now) c.from_residual.result c.from_residual.ensures.1)

pub returns-in-Some : goal.returns-in-Some
unfolding required if_present
returns-in-Some c = then _ c.in_ok-solution.ensures (rw c.in-Some.is (gives refl))

pub returns-in-None : goal.returns-in-None
unfolding required if_present at_path
returns-in-None c = then _ c.in_ok-solution.ensures (rw c.in-None.is (seen_fault _ _ _ _ (ap (fault_at Absent) c.field-in-None.ensures) c.settle.ensures))
