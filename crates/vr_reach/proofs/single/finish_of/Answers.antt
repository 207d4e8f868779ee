use Rattle.std.proofs.Common.{◌∙◌, ap}
use Rattle.std.specs.Prelude.{is_some}
use Rattle.vr_steps.specs.declared.stops.StopName.TheVariants.{End}
use Rattle.vr_steps.specs.Stops.{allowed_by}
use Rattle.vr_steps.proofs.LawLemmas.{runs_are_counted}
use Rattle.vr_reach.proofs.RunLemmas.{one_counted}
use Rattle.vr_reach.proofs.single.finish_of.Goals as goal

pub returns-clause-known : goal.returns-clause-known
returns-clause-known c = λ d are.
    c.in_ok-allowed.ensures.known ∙ one_counted runs_are_counted (allowed_by c.args.model.now d c.args.v End) c.args.ends.now.end_set are.end_set_is

pub returns-in_err-allowed-clause-known : goal.returns-in_err-allowed-clause-known
returns-in_err-allowed-clause-known c = λ d are.
    ap is_some c.from_residual.ensures ∙ c.in_err-allowed.ensures.known
    ∙ one_counted runs_are_counted (allowed_by c.args.model.now d c.args.v End) c.args.ends.now.end_set are.end_set_is
