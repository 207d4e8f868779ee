use Rattle.std.proofs.Common.{◌≡◌, ◌∙◌, List, ap, sym, subst, arith}
use Rattle.std.specs.Prelude.{pos, slice_index_or}
use Rattle.std.proofs.lemmas.Int.{ints}
use Rattle.vr_costfilter.specs.Floors.{end_step, first_step_or}
use Rattle.vr_costfilter.specs.GuideRuns.{runs_of}
use Rattle.vr_costfilter.specs.Steps.{steps_of}
use Rattle.vr_costfilter.specs.Stages.{stage_at_start}
use Rattle.vr_costfilter.specs.declared.guides.Stage.{Stage}
use Rattle.vr_costfilter.specs.declared.trails.Step.{Step}
use Rattle.vr_costfilter.proofs.KeptCumulLemmas.{kept-out, out-standing, stage-known}
use Rattle.vr_costfilter.proofs.steps.KnownSteps.start_stage.Goals as goal

abbrev no_stage : Stage
no_stage = record { at = 0; cumul = pos 0; soft = pos 0 }

pub returns-then-kept-cumul-clause-range : goal.returns-then-kept-cumul-clause-range
returns-then-kept-cumul-clause-range c = stage-known c.args.self.now.sound c.deref.ensures.0 0 no_stage (omega arith)

pub returns-then-kept-cumul-clause-value : goal.returns-then-kept-cumul-clause-value
returns-then-kept-cumul-clause-value c =
    let g = c.args.self.now.guide.now in
    let stages : List Stage = c.args.self.now.kept.now.stages.items in
    let told = c.args.self.now.sound.stages in
    let first : Step = first_step_or (steps_of c.args.self.now.kept.now) (end_step g.model.now g.v (runs_of g)) in
    let out = kept-out g.model.now g.d g.v (runs_of g) c.args.self.now.list.now (steps_of c.args.self.now.kept.now) stages told no_stage in
    let read = ap (λ (l : List Stage). slice_index_or l 0 no_stage) c.deref.ensures.0 in
    let old : Stage = slice_index_or c.deref.result.now 0 no_stage in
    let stands : old ≡ stage_at_start g.model.now g.d g.v old.cumul =
    subst (λ (s : Stage). s ≡ stage_at_start g.model.now g.d g.v s.cumul) (sym read)
    (out-standing g.model.now g.d g.v (runs_of g) first (slice_index_or stages 0 no_stage) out) in
    let range = (stage-known c.args.self.now.sound c.deref.ensures.0 0 no_stage (omega arith)).cumul in
    let x = c.requires.cumul in
    let same : old.cumul ≡ c.args.cumul = omega (arith, ints, c.if-kept-cumul.true, range.at_least, range.at_most, x.at_least, x.at_most) in
    stands ∙ ap (stage_at_start g.model.now g.d g.v) same
