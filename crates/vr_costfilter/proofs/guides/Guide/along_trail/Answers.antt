use Rattle.std.proofs.Common.{◌≡◌, ◌∙◌, ◌+◌, ◌-◌, ◌<◌, ℕ, List, Some, length, reverse, ap, ap₂, sym, subst, arith}
use Rattle.std.specs.Prelude.{pos, slice_index_or}
use Rattle.std.proofs.lemmas.List.{length-reverse, take_all}
use Rattle.std.proofs.lemmas.List.Sums.{fold_more}
use Rattle.vr_costfilter.specs.Floors.{IsVisitStep}
use Rattle.vr_costfilter.specs.GuideRuns.{runs_of}
use Rattle.vr_costfilter.specs.Stages.{along, to_visit, visit_more}
use Rattle.vr_costfilter.specs.declared.trails.Step.{Step}
use Rattle.vr_costfilter.proofs.FloorLemmas.{step-read}
use Rattle.vr_costfilter.proofs.StageLemmas.{stage-more}
use Rattle.vr_costfilter.proofs.StuckLemmas.{along-stuck}
use Rattle.vr_costfilter.proofs.guides.Guide.along_trail.Goals as goal

abbrev no_step : Step
no_step = record { node = 0; floor = pos 0 }

-- the step that is read
trail-step : {items read : List Step} {n : ℕ} (k : ℕ) → read ≡ items → n ≡ length items
    → k < n → slice_index_or read (n - 1 - k) no_step ≡ slice_index_or (reverse items) k no_step
trail-step {items} {read} {n} k same many low = step-read items read n k no_step no_step same (sym many) low

pub to_visit-requires-clause-stage : goal.to_visit-requires-clause-stage
to_visit-requires-clause-stage c =
    stage-more c.args.self.now.model.now (1002 + c.loop-k.k) 4000 c.loop-k.gone
    (omega (arith, c.len-many.ensures.fits, c.loop-k-test.true)) c.loop-k.invariant.range

pub to_visit-requires-clause-step : goal.to_visit-requires-clause-step
to_visit-requires-clause-step c =
    let long = length-reverse c.args.trail.now.steps.items in
    subst (IsVisitStep c.args.self.now.model.now) (sym (trail-step c.loop-k.k c.deref.ensures.0 c.len-many.ensures.value c.loop-k-test.true))
    (c.requires.steps c.loop-k.k no_step (omega (arith, c.loop-k-test.true, c.len-many.ensures.value, long)))

pub loop-k-preserved : goal.loop-k-preserved
loop-k-preserved c =
    let g = c.args.self.now in
    let k = c.loop-k.k in
    let i = c.loop-k.invariant in
    let items : List Step = c.args.trail.now.steps.items in
    let long = length-reverse items in
    let read = trail-step c.loop-k.k c.deref.ensures.0 c.len-many.ensures.value c.loop-k-test.true in
    record {
      value = fold_more (visit_more g.model.now g.d g.v (runs_of g)) (Some c.args.stage)
          (reverse items) k no_step (omega (arith, c.loop-k-test.true, c.len-many.ensures.value, long))
          ∙ ap₂ (λ o step. visit_more g.model.now g.d g.v (runs_of g) o step) i.value (sym read) ∙ sym c.in-Some.ensures.value;
      range = stage-more g.model.now (1002 + k + 1) (1002 + (k + 1)) c.in-Some.next (omega arith) (c.in-Some.ensures.range (1002 + k) i.range);
    }

pub returns-clause-value : goal.returns-clause-value
returns-clause-value c =
    let g = c.args.self.now in
    let items : List Step = c.args.trail.now.steps.items in
    let long = length-reverse items in
    sym (ap (along g.model.now g.d g.v (runs_of g) (Some c.args.stage))
    (sym (take_all c.loop-k.k (reverse items) (omega (arith, long, c.len-many.ensures.value, c.loop-k-test.false)))) ∙ c.loop-k.invariant.value)

pub returns-in-None-clause-value : goal.returns-in-None-clause-value
returns-in-None-clause-value c =
    let g = c.args.self.now in
    let k = c.loop-k.k in
    let items : List Step = c.args.trail.now.steps.items in
    let low = c.loop-k-test.true in
    let long = length-reverse items in
    let read = trail-step c.loop-k.k c.deref.ensures.0 c.len-many.ensures.value c.loop-k-test.true in
    let none = ap (λ step. to_visit g.model.now g.d g.v (runs_of g) step c.loop-k.gone) (sym read) ∙ sym c.in-None.ensures.value in
    sym (ap (along g.model.now g.d g.v (runs_of g) (Some c.args.stage)) (sym (take_all (length items) (reverse items) (omega (arith, long))))
    ∙ along-stuck g.model.now g.d g.v (runs_of g) (Some c.args.stage) (reverse items) k (length items) no_step c.loop-k.gone
    (omega (arith, low, c.len-many.ensures.value)) (omega (arith, low, c.len-many.ensures.value, long)) c.loop-k.invariant.value none)

pub returns-clause-range : goal.returns-clause-range
returns-clause-range c =
    stage-more c.args.self.now.model.now (1002 + c.loop-k.k) 2002 c.loop-k.gone
    (omega (arith, c.len-many.ensures.fits, c.loop-k.auto.k-end)) c.loop-k.invariant.range
