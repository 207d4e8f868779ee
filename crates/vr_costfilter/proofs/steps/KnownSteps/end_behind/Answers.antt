use Rattle.std.proofs.Common.{◌≡◌, ◌∙◌, ◌+◌, ◌-◌, ◌<◌, suc, List, [], ℕ, Some, drop, length, add-one, ap, ap₂, sym, arith}
use Rattle.std.specs.Prelude.{ℤ, ◌+ℤ◌, ◌-ℤ◌, pos, slice_index_or}
use Rattle.std.proofs.lemmas.Int.{ints}
use Rattle.std.proofs.lemmas.List.{drop_all}
use Rattle.vr_model.specs.declared.records.Model.{Model}
use Rattle.vr_costfilter.specs.Floors.{end_step}
use Rattle.vr_costfilter.specs.GuideRuns.{runs_of}
use Rattle.vr_costfilter.specs.Runs.{Runs}
use Rattle.vr_costfilter.specs.Steps.{steps_of, AreKnownSteps}
use Rattle.vr_costfilter.specs.Stages.{paid_more, to_visit, along_to_end}
use Rattle.vr_costfilter.specs.declared.guides.Stage.{Stage}
use Rattle.vr_costfilter.specs.declared.steps.KeptSteps.{KeptSteps}
use Rattle.vr_costfilter.specs.declared.trails.Step.{Step}
use Rattle.vr_costfilter.proofs.KeptCumulLemmas.{end-small, kept-rest, stage-known, step-inside, step-known, step-there, steps-long}
use Rattle.vr_costfilter.proofs.StageLemmas.{resumed, stage-more, whole-next}
use Rattle.vr_costfilter.proofs.StuckLemmas.{whole-stuck}
use Rattle.vr_costfilter.proofs.steps.KnownSteps.end_behind.Goals as goal

abbrev no_stage : Stage
no_stage = record { at = 0; cumul = pos 0; soft = pos 0 }

abbrev no_step : Step
no_step = record { node = 0; floor = pos 0 }

difference : (a b : ℤ) → a ≡ b +ℤ (a -ℤ b)
difference a b = omega (arith, ints)

pub to_visit-requires-clause-stage : goal.to_visit-requires-clause-stage
to_visit-requires-clause-stage c =
    stage-more c.args.self.now.guide.now.model.now (2002 + c.loop-k.k) 4000 c.loop-k.gone
    (omega (arith, c.args.self.now.sound.few, c.loop-k-test.true)) c.loop-k.invariant.range

pub to_end-requires : goal.to_end-requires
to_end-requires c =
    record {
      stage = stage-more c.args.self.now.guide.now.model.now (2002 + c.loop-k.k) 4000 c.loop-k.gone
          (omega (arith, c.args.self.now.sound.few, c.loop-k.auto.k-end)) c.loop-k.invariant.range;
    }

pub resumed-requires : goal.resumed-requires
resumed-requires c =
    let g = c.args.self.now.guide.now in
    let h = c.args.self.now.sound in
    let steps : List Step = steps_of c.args.self.now.kept.now in
    let stages : List Stage = c.args.self.now.kept.now.stages.items in
    let few = h.few in
    let end = end-small g.model.now g.d g.v (runs_of g) c.args.self.now.list.now steps stages
    c.deref-then-gone-kept.result.now h.stages c.deref-then-gone-kept.ensures.0 few no_stage in
    let kept = stage-known h c.deref-in-loop-k.ensures.0 (c.loop-k.k + 1) no_stage (omega (arith, c.loop-k-test.true)) in
    let gone = c.in-Some.ensures.range (2002 + c.loop-k.k) c.loop-k.invariant.range in
    record {
      end_paid = record { at_least = end.not_negative; at_most = omega (arith, ints, end.bound) };
      end_cumul = end.cumul;
      kept_paid = record { at_least = kept.not_negative; at_most = omega (arith, ints, kept.bound) };
      gone_paid = record { at_least = gone.not_negative; at_most = omega (arith, ints, gone.bound, few, c.loop-k-test.true) };
    }

pub bounds-deref-list : goal.bounds-deref-list
bounds-deref-list c = step-inside c.args.self.now.sound c.deref.ensures.0 c.loop-k.k c.loop-k-test.true

pub to_visit-requires-clause-step : goal.to_visit-requires-clause-step
to_visit-requires-clause-step c = step-known c.args.self.now.sound c.deref.ensures.0 c.loop-k.k c.loop-k-test.true no_step

-- the stage at one visit more
gone-next : {model : Model} {d v : ℕ} {runs : Runs} {list : List ℕ} {kept : KeptSteps} {read : List Step}
    → AreKnownSteps model d v runs list kept → read ≡ kept.trail.steps.items → (k : ℕ) → k < length list → (gone next : Stage)
    → to_visit model d v runs (slice_index_or read (length list - 1 - k) no_step) gone ≡ Some next
    → along_to_end model d v runs (Some next) (drop (k + 1) (steps_of kept)) ≡ along_to_end model d v runs (Some gone) (drop k (steps_of kept))
gone-next {model} {d} {v} {runs} {list} {kept} {read} sound is k low gone next e =
    let long = steps-long sound in
    whole-next model d v runs (steps_of kept) k no_step (omega (arith, low, long)) gone next
    (ap (λ s. to_visit model d v runs s gone) (sym (step-there sound is k low no_step no_step)) ∙ e)

pub returns-then-gone-kept : goal.returns-then-gone-kept
returns-then-gone-kept c =
    let g = c.args.self.now.guide.now in
    let k = c.loop-k.k in
    let list : List ℕ = c.args.self.now.list.now in
    let low = c.loop-k-test.true in
    let stages : List Stage = c.args.self.now.kept.now.stages.items in
    let told = c.args.self.now.sound.stages in
    let old : Stage = slice_index_or stages (k + 1) no_stage in
    let end : Stage = slice_index_or stages (suc (length list)) no_stage in
    let read : Stage = slice_index_or c.deref-in-loop-k.result.now (k + 1) no_stage in
    let read_old : read ≡ old = ap (λ (l : List Stage). slice_index_or l (k + 1) no_stage) c.deref-in-loop-k.ensures.0 in
    let read_end : slice_index_or c.deref-then-gone-kept.result.now (length list + 1) no_stage ≡ end =
    ap (λ (l : List Stage). slice_index_or l (length list + 1) no_stage) c.deref-then-gone-kept.ensures.0
    ∙ ap (λ n. slice_index_or stages n no_stage) (add-one (length list)) in
    let next = c.in-Some.next in
    let rest = kept-rest g.model.now g.d g.v (runs_of g) list (steps_of c.args.self.now.kept.now) stages told (k + 1) no_stage (omega (arith, low)) in
    let there = step-there c.args.self.now.sound c.deref.ensures.0 k low no_step (end_step g.model.now g.v (runs_of g)) in
    let at : next.at ≡ old.at = c.in-Some.ensures.at ∙ ap (λ (s : Step). s.node) there
    ∙ sym (ap (λ n. (slice_index_or stages n no_stage).at) (add-one k) ∙ told.stages_are.at k no_stage low) in
    let mine = (c.in-Some.ensures.range (2002 + k) c.loop-k.invariant.range).cumul in
    let yours = (stage-known c.args.self.now.sound c.deref-in-loop-k.ensures.0 (k + 1) no_stage (omega (arith, low))).cumul in
    let same : next.cumul ≡ read.cumul = omega (arith, ints, c.if-gone-kept.true, mine.at_least, mine.at_most, yours.at_least, yours.at_most) in
    sym (sym (gone-next c.args.self.now.sound c.deref.ensures.0 k low c.loop-k.gone next (sym c.in-Some.ensures.value) ∙ c.loop-k.invariant.value)
    ∙ resumed g.model.now g.d g.v (runs_of g) (drop (k + 1) (steps_of c.args.self.now.kept.now)) old end next
    rest at (same ∙ ap (λ (s : Stage). s.cumul) read_old) (next.soft -ℤ old.soft) (difference next.soft old.soft)
    ∙ ap (λ (s : Stage). Some s) (sym (c.resumed.ensures ∙ ap₂ (λ (e s : Stage). paid_more (next.soft -ℤ s.soft) e) read_end read_old)))

pub returns-in-None : goal.returns-in-None
returns-in-None c =
    let g = c.args.self.now.guide.now in
    let k = c.loop-k.k in
    let low = c.loop-k-test.true in
    let long = steps-long c.args.self.now.sound in
    let there = step-there c.args.self.now.sound c.deref.ensures.0 k low no_step no_step in
    let none = ap (λ (s : Step). to_visit g.model.now g.d g.v (runs_of g) s c.loop-k.gone) (sym there) ∙ sym c.in-None.ensures.value in
    sym (sym c.loop-k.invariant.value
    ∙ whole-stuck g.model.now g.d g.v (runs_of g) (steps_of c.args.self.now.kept.now) k no_step c.loop-k.gone (omega (arith, low, long)) none)

pub loop-k-preserved : goal.loop-k-preserved
loop-k-preserved c =
    let k = c.loop-k.k in
    record {
      value = gone-next c.args.self.now.sound c.deref.ensures.0 k c.loop-k-test.true c.loop-k.gone c.in-Some.next (sym c.in-Some.ensures.value)
          ∙ c.loop-k.invariant.value;
      range = stage-more c.args.self.now.guide.now.model.now (2002 + k + 1) (2002 + (k + 1))
          c.in-Some.next (omega arith) (c.in-Some.ensures.range (2002 + k) c.loop-k.invariant.range);
    }

pub returns : goal.returns
returns c =
    let g = c.args.self.now.guide.now in
    let steps : List Step = steps_of c.args.self.now.kept.now in
    let long = steps-long c.args.self.now.sound in
    let none : drop c.loop-k.k steps ≡ [] = drop_all c.loop-k.k steps (omega (arith, long, c.loop-k-test.false)) in
    let value = sym (ap (along_to_end g.model.now g.d g.v (runs_of g) (Some c.loop-k.gone)) none) ∙ c.loop-k.invariant.value in
    c.to_end.ensures.value ∙ value
