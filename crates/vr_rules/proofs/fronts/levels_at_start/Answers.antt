use Rattle.std.proofs.Common.{subst}
use Rattle.std.proofs.lemmas.Result.{IfOk-weaker}
use Rattle.vr_steps.specs.Levels.{AreStartLevels}
use Rattle.vr_rules.proofs.FrontLemmas.{behind_start}
use Rattle.vr_rules.proofs.fronts.levels_at_start.Goals as goal

pub returns-clause-reached : goal.returns-clause-reached
returns-clause-reached c =
    IfOk-weaker _ _ _
    (λ levels exact. behind_start c.args.of.now.closed.model.now c.args.of.now.closed.well_formed
    c.args.of.now.d c.args.of.now.v c.args.of.now.dimension c.args.of.now.vehicle c.in_ok-start.start levels
    (record { exact = c.in_ok-start.ensures.exact; cumuls = c.in_ok-start.ensures.cumuls })
    (subst (λ rows. AreStartLevels c.in_ok-start.start rows levels) c.requires.breaks exact)) c.start_levels.ensures.exact
