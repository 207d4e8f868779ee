use Rattle.std.proofs.Common.{◌≡◌, ◌∙◌, ◌+◌, ℕ, List, Some, take, add-one, refl, ap, sym, arith, to_z, of_z, w64}
use Rattle.std.specs.Prelude.{ℤ, pos, ◌+ℤ◌, ◌-ℤ◌, slice_index_or}
use Rattle.std.proofs.lemmas.Int.{ints}
use Rattle.std.proofs.lemmas.List.Sums.{fold_more}
use Rattle.vr_plan.proofs.BoundLemmas.{read-cumul}
use Rattle.vr_costfilter.specs.Floors.{end_step, first_step_or}
use Rattle.vr_costfilter.specs.GuideRuns.{runs_of}
use Rattle.vr_costfilter.specs.Steps.{steps_of}
use Rattle.vr_costfilter.specs.Stages.{along, paid_more, to_visit, visit_more}
use Rattle.vr_costfilter.specs.declared.guides.Stage.{Stage}
use Rattle.vr_costfilter.specs.declared.trails.Step.{Step}
use Rattle.vr_costfilter.proofs.KeptCumulLemmas.{kept-out, out-standing, stage-known, step-inside, step-known, step-there, steps-long}
use Rattle.vr_costfilter.proofs.MetLemmas.{paced-kept}
use Rattle.vr_costfilter.proofs.StageLemmas.{paid-no-more, stage-more}
use Rattle.vr_costfilter.proofs.StuckLemmas.{along-stuck}
use Rattle.vr_costfilter.proofs.steps.KnownSteps.pace.Goals as goal

abbrev no_stage : Stage
no_stage = record { at = 0; cumul = pos 0; soft = pos 0 }

abbrev no_step : Step
no_step = record { node = 0; floor = pos 0 }

pub loop-k-init : goal.loop-k-init
loop-k-init c =
    let g = c.args.self.now.guide.now in
    let told = c.args.self.now.sound.stages in
    let steps : List Step = steps_of c.args.self.now.kept.now in
    let stages : List Stage = c.args.self.now.kept.now.stages.items in
    let first : Step = first_step_or steps (end_step g.model.now g.v (runs_of g)) in
    record {
      value = refl;
      at = λ other. ap (λ (s : Stage). s.at) c.requires.out.stands ∙ sym (ap (λ (s : Stage). s.at) (out-standing g.model.now g.d g.v (runs_of g)
          first (slice_index_or stages 0 other) (kept-out g.model.now g.d g.v (runs_of g) c.args.self.now.list.now steps stages told other)));
      range = c.requires.out.range;
    }

pub bounds-deref-list : goal.bounds-deref-list
bounds-deref-list c = step-inside c.args.self.now.sound c.deref-in-loop-k.ensures.0 c.loop-k.k (omega (arith, c.requires.place, c.loop-k-test.true))

pub to_visit-requires-clause-stage : goal.to_visit-requires-clause-stage
to_visit-requires-clause-stage c =
    stage-more c.args.self.now.guide.now.model.now (1 + c.loop-k.k) 4000 c.loop-k.gone
    (omega (arith, c.args.self.now.sound.few, c.requires.place, c.loop-k-test.true)) c.loop-k.invariant.range

pub to_visit-requires-clause-step : goal.to_visit-requires-clause-step
to_visit-requires-clause-step c =
    step-known c.args.self.now.sound c.deref-in-loop-k.ensures.0 c.loop-k.k (omega (arith, c.requires.place, c.loop-k-test.true)) no_step

difference : (a b : ℤ) → a ≡ b +ℤ (a -ℤ b)
difference a b = omega (arith, ints)

pub overflow_sub-result : goal.overflow_sub-result
overflow_sub-result c =
    let few = c.args.self.now.sound.few in
    let mine = c.loop-k.invariant.range in
    let yours = stage-known c.args.self.now.sound c.deref.ensures.0 c.loop-k.k no_stage (omega (arith, c.requires.place, c.loop-k-test.true)) in
    omega (arith, ints, mine.not_negative, mine.bound, yours.not_negative, yours.bound, few, c.requires.place, c.loop-k-test.true)

pub returns-then-gone-kept-clause-paced : goal.returns-then-gone-kept-clause-paced
returns-then-gone-kept-clause-paced c =
    let g = c.args.self.now.guide.now in
    let k = c.loop-k.k in
    let i = c.loop-k.invariant in
    let list : List ℕ = c.args.self.now.list.now in
    let place = c.args.place in
    let le = c.requires.place in
    let low = c.loop-k-test.true in
    let few = c.args.self.now.sound.few in
    let told = c.args.self.now.sound.stages in
    let steps : List Step = steps_of c.args.self.now.kept.now in
    let stages : List Stage = c.args.self.now.kept.now.stages.items in
    let old : Stage = slice_index_or stages k no_stage in
    let read : Stage = slice_index_or c.deref.result.now k no_stage in
    let read_old : read ≡ old = ap (λ (l : List Stage). slice_index_or l k no_stage) c.deref.ensures.0 in
    let there : slice_index_or c.deref-then-gone-kept.result.now place no_stage ≡ slice_index_or stages place no_stage =
    ap (λ (l : List Stage). slice_index_or l place no_stage) c.deref-then-gone-kept.ensures.0 in
    let gone = c.loop-k.gone in
    let mine = i.range in
    let yours = stage-known c.args.self.now.sound c.deref.ensures.0 k no_stage (omega (arith, le, low)) in
    let same : gone.cumul ≡ read.cumul =
    omega (arith, ints, c.if-gone-kept.true, mine.cumul.at_least, mine.cumul.at_most, yours.cumul.at_least, yours.cumul.at_most) in
    let a = mine.not_negative in
    let x = yours.not_negative in
    let more : to_z w64 (of_z w64 (to_z w64 (of_z w64 gone.soft) -ℤ to_z w64 (of_z w64 read.soft))) ≡ gone.soft -ℤ read.soft =
    omega (arith, ints, a, mine.bound, x, yours.bound, few, le, low) in
    let z : ℤ = to_z w64 (of_z w64 (to_z w64 (of_z w64 gone.soft) -ℤ to_z w64 (of_z w64 read.soft))) in
    let soft : gone.soft ≡ old.soft +ℤ z = difference gone.soft old.soft
    ∙ ap (λ (w : ℤ). old.soft +ℤ w) (ap (λ (s : Stage). gone.soft -ℤ s.soft) (sym read_old) ∙ sym more) in
    record {
      start = read-cumul c.args.out.cumul c.requires.out.range.cumul;
      gone = paced-kept g.model.now g.d g.v (runs_of g) list steps stages told c.args.out gone k place no_stage
          (omega (arith, low)) le i.value (i.at no_stage) (same ∙ ap (λ (s : Stage). s.cumul) read_old) z soft
          ∙ ap (λ (s : Stage). Some (paid_more z s)) (sym there);
      range = stage-known c.args.self.now.sound c.deref-then-gone-kept.ensures.0 place no_stage le;
      more = record {
        at_least = omega (arith, ints, more, a, mine.bound, x, yours.bound, few, le, low);
        at_most = omega (arith, ints, more, a, mine.bound, x, yours.bound, few, le, low);
      };
    }

pub loop-k-preserved : goal.loop-k-preserved
loop-k-preserved c =
    let g = c.args.self.now.guide.now in
    let k = c.loop-k.k in
    let i = c.loop-k.invariant in
    let low = c.loop-k-test.true in
    let told = c.args.self.now.sound.stages in
    let steps : List Step = steps_of c.args.self.now.kept.now in
    let end : Step = end_step g.model.now g.v (runs_of g) in
    let there = step-there c.args.self.now.sound c.deref-in-loop-k.ensures.0 k (omega (arith, c.requires.place, low)) no_step end in
    let long = steps-long c.args.self.now.sound in
    let next = c.in-Some.next in
    let e = c.in-Some.ensures in
    record {
      value = fold_more (visit_more g.model.now g.d g.v (runs_of g)) (Some c.args.out) steps k end (omega (arith, c.requires.place, low, long))
          ∙ ap (λ o. visit_more g.model.now g.d g.v (runs_of g) o (slice_index_or steps k end)) i.value
          ∙ ap (λ (s : Step). to_visit g.model.now g.d g.v (runs_of g) s c.loop-k.gone) (sym there) ∙ sym e.value;
      at = λ other. e.at ∙ ap (λ (s : Step). s.node) there ∙ sym (ap (λ n. (slice_index_or c.args.self.now.kept.now.stages.items n other).at) (add-one k)
          ∙ told.stages_are.at k other (omega (arith, c.requires.place, low)));
      range = stage-more g.model.now (1 + k + 1) (1 + (k + 1)) next (omega arith) (e.range (1 + k) i.range);
    }

pub returns-clause-paced : goal.returns-clause-paced
returns-clause-paced c =
    let g = c.args.self.now.guide.now in
    let i = c.loop-k.invariant in
    let all : c.loop-k.k ≡ c.args.place = omega (arith, c.loop-k.auto.k-end, c.loop-k-test.false) in
    record {
      start = read-cumul c.args.out.cumul c.requires.out.range.cumul;
      gone = ap (λ n. along g.model.now g.d g.v (runs_of g) (Some c.args.out) (take n (steps_of c.args.self.now.kept.now))) (sym all)
          ∙ i.value ∙ ap (λ (s : Stage). Some s) (paid-no-more g.model.now g.d g.v (runs_of g) c.loop-k.gone (pos 0) refl);
      range = stage-more g.model.now (1 + c.loop-k.k) 1002 c.loop-k.gone (omega (arith, c.args.self.now.sound.few, c.requires.place, all)) i.range;
      more = record { at_least = omega (arith, ints); at_most = omega (arith, ints) };
    }

pub returns-clause-value : goal.returns-clause-value
returns-clause-value c = sym (returns-clause-paced c).gone

pub returns-then-gone-kept-clause-value : goal.returns-then-gone-kept-clause-value
returns-then-gone-kept-clause-value c = sym (returns-then-gone-kept-clause-paced c).gone

pub returns-in-None-clause-value : goal.returns-in-None-clause-value
returns-in-None-clause-value c =
    let g = c.args.self.now.guide.now in
    let k = c.loop-k.k in
    let low = c.loop-k-test.true in
    let long = steps-long c.args.self.now.sound in
    let there = step-there c.args.self.now.sound c.deref-in-loop-k.ensures.0 k (omega (arith, c.requires.place, low)) no_step no_step in
    let none = ap (λ (s : Step). to_visit g.model.now g.d g.v (runs_of g) s c.loop-k.gone) (sym there) ∙ sym c.in-None.ensures.value in
    sym (along-stuck g.model.now g.d g.v (runs_of g) (Some c.args.out) (steps_of c.args.self.now.kept.now) k c.args.place
    no_step c.loop-k.gone (omega (arith, low)) (omega (arith, c.requires.place, low, long)) c.loop-k.invariant.value none)
