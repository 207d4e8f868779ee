use Rattle.std.proofs.Common.{◌≡◌, ◌∙◌, ℕ, List, Some, None, Option, refl, take, ap, sym, arith}
use Rattle.std.specs.Prelude.{IfSome, pos, slice_index_or}
use Rattle.vr_plan.proofs.BoundLemmas.{read-cumul}
use Rattle.vr_costfilter.specs.GuideRuns.{runs_of}
use Rattle.vr_costfilter.specs.Steps.{steps_of, IsOutsetOf}
use Rattle.vr_costfilter.specs.Stages.{along, setting_out, IsStageOf}
use Rattle.vr_costfilter.specs.declared.guides.Stage.{Stage}
use Rattle.vr_costfilter.specs.declared.steps.Outset.{Outset}
use Rattle.vr_costfilter.specs.declared.trails.Step.{Step}
use Rattle.vr_costfilter.proofs.KeptCumulLemmas.{stage-known}
use Rattle.vr_costfilter.proofs.MetLemmas.{met-kept, met-start}
use Rattle.vr_costfilter.proofs.steps.KnownSteps.meet.Goals as goal

abbrev no_stage : Stage
no_stage = record { at = 0; cumul = pos 0; soft = pos 0 }

pub returns-then-lead-eq0-clause-met : goal.returns-then-lead-eq0-clause-met
returns-then-lead-eq0-clause-met c =
    let g = c.args.self.now.guide.now in
    let lead = c.args.lead in
    let none : lead.place ≡ 0 = omega (arith, c.if-lead-eq0.true) in
    out-met c.at_floor.result (λ met. setting_out g.model.now g.d g.v (runs_of g) lead.first ≡ Some met.stage)
    (λ met. met.start ≡ met.stage.cumul) (λ met. met.more ≡ pos 0) (λ met. IsStageOf g.model.now 1002 met.stage)
    (IsOutsetOf g.model.now g.d g.v (runs_of g) g.start (steps_of c.args.self.now.kept.now) lead)
    (λ met out start more range. met-start g.model.now g.d g.v (runs_of g) (steps_of c.args.self.now.kept.now) lead met none out start more range)
    c.at_floor.ensures.out c.at_floor.ensures.start c.at_floor.ensures.more c.at_floor.ensures.range
  where
    out-met : (o : Option Outset) (A B C D P : Outset → Type 0) → ((m : Outset) → A m → B m → C m → D m → P m)
        → IfSome o A → IfSome o B → IfSome o C → IfSome o D → IfSome o P
    out-met None A B C D P f a b c d = a
    out-met (Some m) A B C D P f a b c d = f m a b c d

pub returns-then-lead-eq0-clause-value : goal.returns-then-lead-eq0-clause-value
returns-then-lead-eq0-clause-value c =
    let g = c.args.self.now.guide.now in
    let lead = c.args.lead in
    let none : lead.place ≡ 0 = omega (arith, c.if-lead-eq0.true) in
    c.at_floor.ensures.value
    ∙ ap (λ n. along g.model.now g.d g.v (runs_of g) (setting_out g.model.now g.d g.v (runs_of g) lead.first) (take n (steps_of c.args.self.now.kept.now)))
    (sym none)

pub returns-clause-met : goal.returns-clause-met
returns-clause-met c =
    let g = c.args.self.now.guide.now in
    let lead = c.args.lead in
    let steps : List Step = steps_of c.args.self.now.kept.now in
    let list : List ℕ = c.args.self.now.list.now in
    let stages : List Stage = c.args.self.now.kept.now.stages.items in
    let told = c.args.self.now.sound.stages in
    let place = c.requires.lead.place in
    let stage = ap (λ (l : List Stage). slice_index_or l lead.place no_stage) c.deref.ensures.0 in
    let first = ap (λ (l : List Stage). slice_index_or l 0 no_stage) c.deref-2.ensures.0 in
    let start = stage-known c.args.self.now.sound c.deref-2.ensures.0 0 no_stage (omega arith) in
    let range = stage-known c.args.self.now.sound c.deref.ensures.0 lead.place no_stage place in
    met-kept g.model.now g.d g.v (runs_of g) list steps stages told lead _ no_stage (omega (arith, c.if-lead-eq0.false)) place c.requires.lead.kept stage
    (read-cumul (slice_index_or c.deref-2.result.now 0 no_stage).cumul start.cumul ∙ ap (λ (s : Stage). s.cumul) first) refl range

pub returns-clause-value : goal.returns-clause-value
returns-clause-value c =
    let g = c.args.self.now.guide.now in
    let set = returns-clause-met c in
    sym (ap (λ o. along g.model.now g.d g.v (runs_of g) o (take c.args.lead.place (steps_of c.args.self.now.kept.now))) set.out ∙ set.paced.gone)
