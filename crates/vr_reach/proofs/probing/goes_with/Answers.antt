use Rattle.std.proofs.Common.{◌∙◌, ◌∷◌, [], ap, sym, subst}
use Rattle.std.specs.Prelude.{is_some}
use Rattle.std.proofs.lemmas.Bool.{false≢true}
use Rattle.vr_spans.specs.Runs.{ShareANumber}
use Rattle.vr_steps.proofs.LevelLemmas.{level_is}
use Rattle.vr_model.proofs.schedules.Joining.{feasible_where_levels_meet}
use Rattle.vr_reach.proofs.AloneLemmas.{alone_where}
use Rattle.vr_reach.proofs.ProbeLemmas.{accepted}
use Rattle.vr_reach.specs.RunWalks.{line_along}
use Rattle.vr_reach.proofs.DrivenLemmas.{sound_of, walk_to, walk_within}
use Rattle.vr_reach.proofs.probing.goes_with.Goals as goal

pub carry_run-run-requires : goal.carry_run-run-requires
carry_run-run-requires g c = c.in-Some.ensures.run.cumuls

pub returns-clause-goes : goal.returns-clause-goes
returns-clause-goes g c = λ goes.
    let L = line_along c.args.walk.now in
    let run = c.carry_run-run.result in
    let shared = subst (ShareANumber (run ∷ []))
    (sym (level_is c.args.walk.now.to.now c.args.taken c.level.result.now c.level.ensures)) (c.shares_with.ensures.0 goes) in
    accepted feasible_where_levels_meet L (sound_of c.args.walk.now.line.of)
    c.args.walk.now.last (walk_within c.args.walk.now) c.args.walk.now.to.now (walk_to c.args.walk.now) c.args.taken
    c.requires run (c.carry_run-run.ensures.reached c.args.taken c.requires c.in-Some.ensures.run) shared

pub returns-in_default-clause-exact : goal.returns-in_default-clause-exact
returns-in_default-clause-exact g c =
    (λ t. absurd (false≢true t), λ goes. absurd (false≢true (sym (ap is_some c.in_default.is) ∙ c.run_at.ensures.known ∙ goes.one)))

pub returns-clause-exact : goal.returns-clause-exact
returns-clause-exact g c =
    let L = line_along c.args.walk.now in
    let run = c.carry_run-run.result in
    let there = level_is c.args.walk.now.to.now c.args.taken c.level.result.now c.level.ensures in
    let all = alone_where L c.args.walk.now.from.now c.args.walk.now.to.now c.args.walk.now.begin c.args.walk.now.last
    c.args.taken c.in-Some.begun run (sym c.in-Some.ensures.known) c.in-Some.ensures.run c.carry_run-run.ensures.led in (
      λ t. all.0 (subst (ShareANumber (run ∷ [])) (sym there) (c.shares_with.ensures.0 t)),
      λ goes. c.shares_with.ensures.1 (subst (ShareANumber (run ∷ [])) there (all.1 goes)),
    )
