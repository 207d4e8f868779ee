use Rattle.std.proofs.Common.{◌≡◌, ◌∙◌, ◌+◌, ◌-◌, ◌<◌, ◌≤◌, ◌++◌, List, [], ◌∷◌, ℕ, Some, drop, length, take, ap, sym, subst, arith}
use Rattle.std.specs.Prelude.{pos, slice_index_or}
use Rattle.std.specs.Option.{option_and_then}
use Rattle.std.proofs.lemmas.Int.{ints}
use Rattle.std.proofs.lemmas.List.{drop_all, get_or-take, length-drop, length-take-le, take-append-drop}
use Rattle.vr_model.specs.declared.records.Model.{Model}
use Rattle.vr_costfilter.specs.Floors.{before, end_step, WentBack}
use Rattle.vr_costfilter.specs.GuideRuns.{runs_of}
use Rattle.vr_costfilter.specs.Runs.{Runs}
use Rattle.vr_costfilter.specs.Steps.{steps_of, AreKnownSteps}
use Rattle.vr_costfilter.specs.declared.guides.Stage.{Stage}
use Rattle.vr_costfilter.specs.declared.steps.KeptSteps.{KeptSteps}
use Rattle.vr_costfilter.specs.declared.trails.Step.{Step}
use Rattle.vr_costfilter.proofs.FirstLemmas.{begin-none, led-begin, went-begin}
use Rattle.vr_costfilter.proofs.FloorLemmas.{back-many, back-more, back-none, back-one, drop-one, node-of, visit-step}
use Rattle.vr_costfilter.proofs.KeptCumulLemmas.{step-inside, step-known, step-there}
use Rattle.vr_costfilter.proofs.MetLemmas.{led-kept, led-none}
use Rattle.vr_costfilter.proofs.steps.KnownSteps.lead.Goals as goal

abbrev no_step : Step
no_step = record { node = 0; floor = pos 0 }

pub loop-k-init : goal.loop-k-init
loop-k-init c =
    let g = c.args.self.now.guide.now in
    let nodes : List ℕ = take c.args.front c.args.self.now.list.now in
    let long = length-take-le c.args.front c.args.self.now.list.now c.requires.place in
    record {
      back = subst (λ l. WentBack g.model.now g.d g.v (runs_of g) l c.args.next c.args.trail.now.steps.items c.args.trail.now.steps.items c.args.next)
          (sym (drop_all (c.args.front - 0) nodes (omega (arith, long))))
          (back-none g.model.now g.d g.v (runs_of g) c.args.next c.args.trail.now.steps.items);
      range = c.requires.next;
    }

pub bounds-deref-list : goal.bounds-deref-list
bounds-deref-list c = step-inside c.args.self.now.sound c.deref.ensures.0 (c.args.front - 1 - c.loop-k.k) (omega (arith, c.requires.place, c.loop-k-test.true))

pub before-requires-clause-node : goal.before-requires-clause-node
before-requires-clause-node c =
    (step-known c.args.self.now.sound c.deref.ensures.0 (c.args.front - 1 - c.loop-k.k) (omega (arith, c.requires.place, c.loop-k-test.true)) no_step).visit

-- the visit that is read of n steps
abbrev node-at : List Step → (n front k : ℕ) → ℕ
node-at read n front k = (slice_index_or read (n - 1 - (front - 1 - k)) no_step).node

-- it comes before those that were walked along
next-node : {model : Model} {d v : ℕ} {runs : Runs} {list : List ℕ} {kept : KeptSteps} {read : List Step}
    → AreKnownSteps model d v runs list kept → read ≡ kept.trail.steps.items → (front k : ℕ) → k < front → front ≤ length list
    → drop (front - (k + 1)) (take front list) ≡ node-at read (length list) front k ∷ drop (front - k) (take front list)
next-node {model} {d} {v} {runs} {list} {kept} {read} sound is front k low le =
    let place : ℕ = front - 1 - k in
    let there : (slice_index_or read (length list - 1 - place) no_step).node ≡ slice_index_or (take front list) place 0 =
    ap (λ (s : Step). s.node) (step-there sound is place (omega (arith, le, low)) no_step no_step)
    ∙ node-of model d v runs list (steps_of kept) sound.stages.steps_are place no_step (omega (arith, le, low))
    ∙ sym (get_or-take front list place 0 (omega (arith, low))) in
    drop-one (take front list) front k 0 (length-take-le front list le) low ∙ ap (λ x. x ∷ drop (front - k) (take front list)) (sym there)

pub returns-then-step-kept-clause-led : goal.returns-then-step-kept-clause-led
returns-then-step-kept-clause-led c =
    let g = c.args.self.now.guide.now in
    let list : List ℕ = c.args.self.now.list.now in
    let front = c.args.front in
    let k = c.loop-k.k in
    let place : ℕ = front - 1 - k in
    let stages : List Stage = c.args.self.now.kept.now.stages.items in
    let steps : List Step = steps_of c.args.self.now.kept.now in
    let end : Step = end_step g.model.now g.v (runs_of g) in
    let told = c.args.self.now.sound.stages in
    let le = c.requires.place in
    let low = c.loop-k-test.true in
    let inside : place < length list = omega (arith, le, low) in
    let read = step-there c.args.self.now.sound c.deref.ensures.0 place inside no_step end in
    let step = c.in-Some.step in
    let value = subst (λ (s : Step). before g.model.now g.d g.v (runs_of g) s.node c.loop-k.first ≡ Some step) read (sym c.in-Some.ensures.value) in
    let mine = c.in-Some.ensures.range.floor in
    let yours = (step-known c.args.self.now.sound c.deref.ensures.0 place inside no_step).floor in
    let same : step.floor ≡ (slice_index_or c.deref.result.now (length list - 1 - place) no_step).floor =
    omega (arith, ints, c.if-step-kept.true, mine.at_least, mine.at_most, yours.at_least, yours.at_most) in
    let first = step-there c.args.self.now.sound c.deref-then-step-kept.ensures.0 0 (omega (arith, le, low)) no_step end in
    let here : length list - 1 - 0 ≡ length list - 1 = omega arith in
    let at : front - k ≡ place + 1 = omega (arith, low) in
    let back = subst (λ i. WentBack g.model.now g.d g.v (runs_of g) (drop i (take front list)) c.args.next
    c.args.trail.now.steps.items c.loop-k.trail.steps.items c.loop-k.first) at c.loop-k.invariant.back in
    led-kept g.model.now g.d g.v (runs_of g) list steps stages told front place c.args.next
    c.loop-k.first step (slice_index_or c.deref-then-step-kept.result.now (length list - 1) no_step)
    c.args.trail.now.steps.items c.loop-k.trail.steps.items (omega (arith, low)) le back value
    (same ∙ ap (λ (s : Step). s.floor) read) (ap (λ n. slice_index_or c.deref-then-step-kept.result.now n no_step) (sym here) ∙ first)

pub returns-then-step-kept-clause-first : goal.returns-then-step-kept-clause-first
returns-then-step-kept-clause-first c =
    let g = c.args.self.now.guide.now in
    sym (led-begin g.model.now g.d g.v (runs_of g) (steps_of c.args.self.now.kept.now) (take c.args.front c.args.self.now.list.now)
    c.args.next c.args.trail.now.steps.items c.loop-k.trail.steps.items _ (returns-then-step-kept-clause-led c))

pub returns-in-None-clause-first : goal.returns-in-None-clause-first
returns-in-None-clause-first c =
    let g = c.args.self.now.guide.now in
    let nodes : List ℕ = take c.args.front c.args.self.now.list.now in
    let node : ℕ = node-at c.deref.result.now (length c.args.self.now.list.now) c.args.front c.loop-k.k in
    let rest : List ℕ = drop (c.args.front - c.loop-k.k) nodes in
    let ahead : List ℕ = take (c.args.front - (c.loop-k.k + 1)) nodes in
    let split : nodes ≡ ahead ++ (node ∷ rest) = sym (take-append-drop (c.args.front - (c.loop-k.k + 1)) nodes)
    ∙ ap (λ l. ahead ++ l) (next-node c.args.self.now.sound c.deref.ensures.0 c.args.front c.loop-k.k c.loop-k-test.true c.requires.place) in
    let gone = went-begin g.model.now g.d g.v (runs_of g) rest c.args.next c.loop-k.first
    c.args.trail.now.steps.items c.loop-k.trail.steps.items c.loop-k.invariant.back in
    sym (begin-none g.model.now g.d g.v (runs_of g) nodes ahead (node ∷ rest) c.args.next split
    (ap (option_and_then (before g.model.now g.d g.v (runs_of g) node)) gone ∙ sym c.in-None.ensures.value))

pub push-requires : goal.push-requires
push-requires c =
    let g = c.args.self.now.guide.now in
    let nodes : List ℕ = take c.args.front c.args.self.now.list.now in
    let long = length-take-le c.args.front c.args.self.now.list.now c.requires.place in
    let left = length-drop (c.args.front - c.loop-k.k) nodes in
    let many = back-many g.model.now g.d g.v (runs_of g) (drop (c.args.front - c.loop-k.k) nodes) c.args.next
    c.loop-k.first c.args.trail.now.steps.items c.loop-k.trail.steps.items c.loop-k.invariant.back in
    (omega arith, omega (arith, long, left, many, c.requires.room, c.loop-k-test.true))

pub loop-k-preserved : goal.loop-k-preserved
loop-k-preserved c =
    let g = c.args.self.now.guide.now in
    let front = c.args.front in
    let k = c.loop-k.k in
    let nodes : List ℕ = take front c.args.self.now.list.now in
    let node : ℕ = node-at c.deref.result.now (length c.args.self.now.list.now) front k in
    let e = c.in-Some.ensures in
    let step = c.in-Some.step in
    let one = back-one g.model.now g.d g.v (runs_of g) node c.loop-k.first step
    c.loop-k.trail.steps.items c.push.new.self.items (sym e.value) e.range c.push.ensures.items in
    record {
      back = back-more g.model.now g.d g.v (runs_of g) (node ∷ []) (drop (front - k) nodes) (drop (front - (k + 1)) nodes)
          c.args.next c.loop-k.first step c.args.trail.now.steps.items c.loop-k.trail.steps.items c.push.new.self.items
          (next-node c.args.self.now.sound c.deref.ensures.0 c.args.front c.loop-k.k c.loop-k-test.true c.requires.place) c.loop-k.invariant.back one;
      range = visit-step g.model.now step e.range;
    }

pub returns-clause-led : goal.returns-clause-led
returns-clause-led c =
    let g = c.args.self.now.guide.now in
    let nodes : List ℕ = take c.args.front c.args.self.now.list.now in
    let all : c.args.front - c.loop-k.k ≡ 0 = omega (arith, c.loop-k-test.false) in
    let back =
    subst (λ i. WentBack g.model.now g.d g.v (runs_of g) (drop i nodes) c.args.next c.args.trail.now.steps.items c.loop-k.trail.steps.items c.loop-k.first)
    all c.loop-k.invariant.back in
    led-none g.model.now g.d g.v (runs_of g) (steps_of c.args.self.now.kept.now) nodes c.args.next
    c.loop-k.first c.args.trail.now.steps.items c.loop-k.trail.steps.items back c.loop-k.invariant.range

pub returns-clause-first : goal.returns-clause-first
returns-clause-first c =
    let g = c.args.self.now.guide.now in
    sym (led-begin g.model.now g.d g.v (runs_of g) (steps_of c.args.self.now.kept.now) (take c.args.front c.args.self.now.list.now)
    c.args.next c.args.trail.now.steps.items c.loop-k.trail.steps.items _ (returns-clause-led c))
