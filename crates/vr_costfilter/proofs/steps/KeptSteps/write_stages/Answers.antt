use Rattle.std.proofs.Common.{◌≡◌, ◌∙◌, ◌+◌, ◌-◌, ◌<◌, ◌++◌, suc, List, [], ◌∷◌, ℕ, Some, Option, length, length-append, reverse, refl, ap, sym, subst, arith}
use Rattle.std.specs.Prelude.{option_map, pos, slice_index_or}
use Rattle.std.specs.Option.{option_and_then}
use Rattle.std.proofs.lemmas.List.{get_or_push, length-reverse, take_all}
use Rattle.vr_plan.proofs.BoundLemmas.{read-cumul}
use Rattle.vr_costfilter.specs.Floors.{end_step, first_step_or, IsVisitStep}
use Rattle.vr_costfilter.specs.GuideRuns.{runs_of}
use Rattle.vr_costfilter.specs.Steps.{steps_of, AreAllStages, AreStages}
use Rattle.vr_costfilter.specs.Stages.{along, setting_out, stage_at_start, to_end, to_visit, along_to_end}
use Rattle.vr_costfilter.specs.declared.guides.Stage.{Stage}
use Rattle.vr_costfilter.specs.declared.trails.Step.{Step}
use Rattle.vr_costfilter.specs.declared.trails.Trail.{Trail}
use Rattle.vr_costfilter.proofs.FeasibleLemmas.{whole-had}
use Rattle.vr_costfilter.proofs.FloorLemmas.{many-steps, step-read}
use Rattle.vr_costfilter.proofs.KeptCumulLemmas.{first-stage, items-many, stages-more, stages-whole}
use Rattle.vr_costfilter.proofs.StageLemmas.{stage-more}
use Rattle.vr_costfilter.proofs.StuckLemmas.{along-stuck, whole-none}
use Rattle.vr_costfilter.proofs.steps.KeptSteps.write_stages.Goals as goal

abbrev no_step : Step
no_step = record { node = 0; floor = pos 0 }

-- a step that is read is one of the list's
read-is : (trail old : Trail) (read : List Step) (n k : ℕ) (other : Step) → trail ≡ old → read ≡ trail.steps.items
    → length old.steps.items ≡ n → k < n → slice_index_or read (n - 1 - k) no_step ≡ slice_index_or (reverse old.steps.items) k other
read-is trail old read n k other same is many low = step-read old.steps.items read n k no_step other (is ∙ ap (λ (t : Trail). t.steps.items) same) many low

pub to_visit-requires-clause-step : goal.to_visit-requires-clause-step
to_visit-requires-clause-step c =
    let g = c.args.on.now.guide.now in
    let list : List ℕ = c.args.on.now.list.now in
    let low = c.loop-k-test.true in
    let items : List Step = c.args.self.now.trail.steps.items in
    let many = items-many g.model.now g.d g.v (runs_of g) list items c.requires.steps.steps_are in
    let long = length-reverse items in
    subst (IsVisitStep g.model.now) (sym (read-is c.loop-k.self.trail c.args.self.now.trail
    c.deref.result.now (length list) c.loop-k.k no_step c.loop-k.invariant.trail c.deref.ensures.0 many low))
    (c.requires.steps.known c.loop-k.k no_step (omega (arith, low, many, long)))

pub to_visit-requires-clause-stage : goal.to_visit-requires-clause-stage
to_visit-requires-clause-stage c =
    stage-more c.args.on.now.guide.now.model.now (suc c.loop-k.k) 4000 c.loop-k.stage
    (omega (arith, c.args.on.now.sound.few, c.loop-k-test.true)) c.loop-k.invariant.range

pub to_end-requires : goal.to_end-requires
to_end-requires c =
    record {
      stage = stage-more c.args.on.now.guide.now.model.now (suc c.loop-k.k) 4000 c.loop-k.stage
          (omega (arith, c.args.on.now.sound.few, c.loop-k.auto.k-end)) c.loop-k.invariant.range;
    }

pub loop-k-init : goal.loop-k-init
loop-k-init c =
    let g = c.args.on.now.guide.now in
    let old : List Stage = c.args.self.now.stages.items in
    let stage : Stage = c.standing-stage.result in
    let items : c.push.new.self.items ≡ stage ∷ [] = c.push.ensures.items ∙ ap (λ l. l ++ stage ∷ []) (nothing old c.requires.none) in
    let first : Step = first_step_or (steps_of c.args.self.now) (end_step g.model.now g.v (runs_of g)) in
    let out : setting_out g.model.now g.d g.v (runs_of g) first ≡ Some stage =
    ap (λ s. setting_out g.model.now g.d g.v (runs_of g) s) (sym c.requires.steps.first_is)
    ∙ ap (option_map (stage_at_start g.model.now g.d g.v)) (sym c.in-Some.ensures.value) ∙ ap (λ (s : Stage). Some s)
    (sym (c.standing-stage.ensures.value ∙ ap (stage_at_start g.model.now g.d g.v) (read-cumul c.in-Some.floor c.in-Some.ensures.range))) in
    record {
      many = ap length items;
      stages = first-stage g.model.now g.d g.v (runs_of g) c.args.on.now.list.now
          (steps_of c.args.self.now) c.push.new.self.items stage items out c.standing-stage.ensures.range;
      last = λ other. ap (λ (l : List Stage). slice_index_or l 0 other) items;
      range = c.standing-stage.ensures.range;
      trail = refl;
    }
  where
    nothing : (l : List Stage) → length l ≡ 0 → l ≡ []
    nothing [] e = refl
    nothing (x ∷ xs) e = absurd (omega (arith, e))

pub loop-k-preserved : goal.loop-k-preserved
loop-k-preserved c =
    let g = c.args.on.now.guide.now in
    let k = c.loop-k.k in
    let i = c.loop-k.invariant in
    let list : List ℕ = c.args.on.now.list.now in
    let low = c.loop-k-test.true in
    let end : Step = end_step g.model.now g.v (runs_of g) in
    let steps : List Step = steps_of c.args.self.now in
    let known = items-many g.model.now g.d g.v (runs_of g) list c.args.self.now.trail.steps.items c.requires.steps.steps_are in
    let long = many-steps g.model.now g.d g.v (runs_of g) list steps c.requires.steps.steps_are in
    let read = read-is c.loop-k.self.trail c.args.self.now.trail c.deref.result.now (length list) k end i.trail c.deref.ensures.0 known low in
    let old : List Stage = c.loop-k.self.stages.items in
    let next = c.in-Some-to_visit.next in
    let e = c.in-Some-to_visit.ensures in
    let items = c.push-in-loop-k.ensures.items in
    let many = i.many in
    let range = stage-more g.model.now (suc k + 1) (suc (k + 1)) next (omega arith) (e.range (suc k) i.range) in
    record {
      many = ap length items ∙ length-append old _ ∙ ap (λ n. n + 1) many ∙ (let e : suc k + 1 ≡ suc (k + 1) = omega arith in e);
      stages = stages-more g.model.now g.d g.v (runs_of g) list steps k old c.push-in-loop-k.new.self.items next (omega (arith, low, long)) many i.stages items
          (λ other. ap (to_visit g.model.now g.d g.v (runs_of g) (slice_index_or steps k end)) (i.last other)
          ∙ ap (λ s. to_visit g.model.now g.d g.v (runs_of g) s c.loop-k.stage) (sym read) ∙ sym e.value)
          (e.at ∙ ap (λ (s : Step). s.node) read) range;
      last = λ other. ap (λ (l : List Stage). slice_index_or l (k + 1) other) items ∙ get_or_push old next other (k + 1) (omega (arith, many));
      range = range;
      trail = i.trail;
    }

pub returns-in-Some-to_end-clause-all : goal.returns-in-Some-to_end-clause-all
returns-in-Some-to_end-clause-all c L by feasible =
    let two = length-append c.loop-k.self.stages.items (c.in-Some-to_end.end ∷ []) in
    ap length c.push-in-Some-to_end.ensures.items ∙ omega (arith, c.loop-k.invariant.many, two, c.loop-k.auto.k-end, c.loop-k-test.false)

pub returns-in-None-clause-all : goal.returns-in-None-clause-all
returns-in-None-clause-all c L by feasible =
    let g = c.args.on.now.guide.now in
    let k = c.loop-k.k in
    let i = c.loop-k.invariant in
    let list : List ℕ = c.args.on.now.list.now in
    let steps : List Step = steps_of c.args.self.now in
    let low = c.loop-k-test.true in
    let end : Step = end_step g.model.now g.v (runs_of g) in
    let out : Option Stage = setting_out g.model.now g.d g.v (runs_of g) (first_step_or steps end) in
    let known = items-many g.model.now g.d g.v (runs_of g) list c.args.self.now.trail.steps.items c.requires.steps.steps_are in
    let long = many-steps g.model.now g.d g.v (runs_of g) list steps c.requires.steps.steps_are in
    let read = read-is c.loop-k.self.trail c.args.self.now.trail c.deref.result.now (length list) k end i.trail c.deref.ensures.0 known low in
    let there = i.stages.each k c.loop-k.stage (omega arith) ∙ ap (λ (s : Stage). Some s) (i.last c.loop-k.stage) in
    let none = ap (λ (s : Step). to_visit g.model.now g.d g.v (runs_of g) s c.loop-k.stage) (sym read) ∙ sym c.in-None.ensures.value in
    let stuck = along-stuck g.model.now g.d g.v (runs_of g) out steps k (length steps) end
    c.loop-k.stage (omega (arith, low, long)) (omega (arith, low, long)) there none in
    absurd (whole-had g.model.now g.d g.v (runs_of g) list L by feasible.0 feasible.1 steps c.requires.steps.steps_are
    (ap (option_and_then (to_end g.model.now g.d g.v (runs_of g)))
    (ap (along g.model.now g.d g.v (runs_of g) out) (sym (take_all (length steps) steps (omega arith))) ∙ stuck)))

pub returns-in_default-clause-all : goal.returns-in_default-clause-all
returns-in_default-clause-all c L by feasible =
    let g = c.args.on.now.guide.now in
    let steps : List Step = steps_of c.args.self.now in
    let none = ap (λ s. setting_out g.model.now g.d g.v (runs_of g) s) (sym c.requires.steps.first_is)
    ∙ ap (option_map (stage_at_start g.model.now g.d g.v)) (sym c.in_default.ensures.value) in
    absurd (whole-had g.model.now g.d g.v (runs_of g) c.args.on.now.list.now L by feasible.0 feasible.1 steps c.requires.steps.steps_are
    (ap (λ o. along_to_end g.model.now g.d g.v (runs_of g) o steps) none ∙ whole-none g.model.now g.d g.v (runs_of g) steps))

pub returns-in_default-to_end-clause-all : goal.returns-in_default-to_end-clause-all
returns-in_default-to_end-clause-all c L by feasible =
    let g = c.args.on.now.guide.now in
    let i = c.loop-k.invariant in
    let list : List ℕ = c.args.on.now.list.now in
    let steps : List Step = steps_of c.args.self.now in
    let all : c.loop-k.k ≡ length list = omega (arith, c.loop-k.auto.k-end, c.loop-k-test.false) in
    let long = many-steps g.model.now g.d g.v (runs_of g) list steps c.requires.steps.steps_are in
    let out : Option Stage = setting_out g.model.now g.d g.v (runs_of g) (first_step_or steps (end_step g.model.now g.v (runs_of g))) in
    let there = i.stages.each c.loop-k.k c.loop-k.stage (omega arith) ∙ ap (λ (s : Stage). Some s) (i.last c.loop-k.stage) in
    absurd (whole-had g.model.now g.d g.v (runs_of g) list L by feasible.0 feasible.1 steps c.requires.steps.steps_are
    (ap (option_and_then (to_end g.model.now g.d g.v (runs_of g)))
    (ap (along g.model.now g.d g.v (runs_of g) out) (sym (take_all c.loop-k.k steps (omega (arith, all, long)))) ∙ there)
    ∙ sym c.in_default-to_end.ensures.value))

pub returns-in-Some-to_end-clause-stages : goal.returns-in-Some-to_end-clause-stages
returns-in-Some-to_end-clause-stages c =
    let g = c.args.on.now.guide.now in
    let i = c.loop-k.invariant in
    let list : List ℕ = c.args.on.now.list.now in
    let steps : List Step = steps_of c.args.self.now in
    let long = many-steps g.model.now g.d g.v (runs_of g) list steps c.requires.steps.steps_are in
    let old : List Stage = c.loop-k.self.stages.items in
    let new : List Stage = c.push-in-Some-to_end.new.self.items in
    let e = c.in-Some-to_end.ensures in
    let all : c.loop-k.k ≡ length list = omega (arith, c.loop-k.auto.k-end, c.loop-k-test.false) in
    let many : length old ≡ suc (length list) = i.many ∙ ap suc all in
    let whole = stages-whole g.model.now g.d g.v (runs_of g) list steps c.requires.steps.steps_are c.requires.steps.known old new c.in-Some-to_end.end
    long many (subst (λ k. AreStages g.model.now g.d g.v (runs_of g) steps k old) all i.stages) c.push-in-Some-to_end.ensures.items
    (λ other. ap (to_end g.model.now g.d g.v (runs_of g)) (ap (λ k. slice_index_or old k other) (sym all) ∙ i.last other) ∙ sym e.value)
    (stage-more g.model.now (suc c.loop-k.k + 1) (suc (suc (length list))) c.in-Some-to_end.end (omega (arith, all)) (e.range (suc c.loop-k.k) i.range)) in
    record { told = λ _. subst (λ (t : Trail). AreAllStages g.model.now g.d g.v (runs_of g) list (reverse t.steps.items) new) (sym i.trail) whole }
