use Rattle.std.proofs.Common.{◌≡◌, ◌+◌, ◌-◌, ◌<◌, ◌≤◌, ◌≤ℤ◌, ◌<ℤ◌, ℤ, arith, subst}
use Rattle.std.specs.Prelude.{IsTrue, ◌↔◌}
use Rattle.std.proofs.lemmas.Int.{ints}
use Rattle.vr_model.proofs.schedules.ChoiceLaws.{reached_as_tested}
use Rattle.vr_model.proofs.schedules.Crossing.{reached_by_crossing}
use Rattle.vr_model.proofs.schedules.LinesSound.{lines_are_sound}
use Rattle.vr_steps.proofs.LawLemmas.{arc_alone, runs_are_counted}
use Rattle.vr_reach.specs.Counts.{steps_between}
use Rattle.vr_reach.specs.RunWalks.{line_along}
use Rattle.vr_reach.specs.Singles.{IsReachedRun}
use Rattle.vr_spans.specs.Runs.{in_run}
use Rattle.vr_reach.specs.Alone.{IsLedToWithoutBreaks}
use Rattle.vr_reach.proofs.AloneLemmas.{led_begun, led_more, none_led}
use Rattle.vr_reach.proofs.DrivenLemmas.{walk_from}
use Rattle.vr_reach.proofs.SingleLemmas.{arc_counted, none_at, run_reached}
use Rattle.vr_reach.proofs.single.carry_run.Goals as goal

empty : (lo hi : ℤ) → hi <ℤ lo → lo ≤ℤ hi → ⊥
empty lo hi less le = omega (arith, ints, less, le)

pub loop-k-init : goal.loop-k-init
loop-k-init g c =
    let walk = c.args.walk.now in record {
      begun = omega arith;
      within = omega (arith, walk.order);
      node = c.node_at.ensures.node;
      below = c.node_at.ensures.below;
      cumuls = c.requires;
      reached = λ b few is. run_reached (line_along walk) walk.begin b walk.from.now c.args.from few (walk_from walk) is;
      led = led_begun (line_along walk) (in_run c.args.from) walk.begin;
      count = λ is. omega arith;
      arcs = omega arith;
    }

pub returns-then-here-clause-reached : goal.returns-then-here-clause-reached
returns-then-here-clause-reached g c = λ taken few is.
    let walk = c.args.walk.now in
    let of = walk.line.of in
    let run = c.cross_by_run-here.result.run in
    none_at lines_are_sound reached_by_crossing arc_alone of.closed.model.now of.closed.well_formed of.d of.v of.dimension of.vehicle of.list.now of.used
    (c.loop-k.k + 1) walk.last taken (let low = c.loop-k-test.true in omega (arith, low))
    walk.within run (empty run.lo run.hi (let less = c.if-here.true in omega (arith, ints, less)))
    (c.cross_by_run-here.ensures.reached taken few (c.loop-k.invariant.reached taken few is))

pub returns-then-here-clause-count : goal.returns-then-here-clause-count
returns-then-here-clause-count g c = λ is.
    let walk = c.args.walk.now in
    let L = line_along walk in
    let n = arc_counted runs_are_counted reached_as_tested L c.loop-k.k walk.last c.loop-k.here.run
    c.loop-k-test.true c.loop-k.invariant.cumuls (c.loop-k.invariant.reached 0 (omega arith) is)
    c.args.steps.now (steps_between L walk.begin walk.last) c.loop-k.steps c.tick.new.self (c.loop-k.invariant.count is) c.tick.ensures in
    omega (arith, n)

pub returns-then-here-clause-arcs : goal.returns-then-here-clause-arcs
returns-then-here-clause-arcs g c =
    let arcs = c.loop-k.invariant.arcs in
    let begun = c.loop-k.invariant.begun in
    let low = c.loop-k-test.true in
    let one = c.tick.ensures in
    omega (arith, arcs, begun, low, one)

pub returns-then-here-clause-led : goal.returns-then-here-clause-led
returns-then-here-clause-led g c =
    let walk = c.args.walk.now in
    let L = line_along walk in
    let k = c.loop-k.k in
    let run = c.cross_by_run-here.result.run in
    let begun = c.loop-k.invariant.begun in
    let low = c.loop-k-test.true in
    none_led L (in_run c.args.from) walk.begin (k + 1) walk.last (omega (arith, begun))
    (omega (arith, low)) run (empty run.lo run.hi (let less = c.if-here.true in omega (arith, ints, less)))
    (led_more L (in_run c.args.from) walk.begin k begun c.loop-k.here.run run c.loop-k.invariant.led c.cross_by_run-here.ensures.led)

pub loop-k-preserved : goal.loop-k-preserved
loop-k-preserved g c =
    let walk = c.args.walk.now in
    let L = line_along walk in record {
      begun = let begun = c.loop-k.invariant.begun in omega (arith, begun);
      within = omega arith;
      node = c.cross_by_run-here.ensures.node;
      below = c.cross_by_run-here.ensures.below;
      cumuls = c.cross_by_run-here.ensures.cumuls (let less = c.if-here.false in omega (arith, ints, less));
      reached = λ b few is. c.cross_by_run-here.ensures.reached b few (c.loop-k.invariant.reached b few is);
      led = led_more L (in_run c.args.from) walk.begin c.loop-k.k c.loop-k.invariant.begun c.loop-k.here.run
          c.cross_by_run-here.result.run c.loop-k.invariant.led c.cross_by_run-here.ensures.led;
      count = λ is. arc_counted runs_are_counted reached_as_tested L c.loop-k.k walk.last c.loop-k.here.run
          c.loop-k-test.true c.loop-k.invariant.cumuls (c.loop-k.invariant.reached 0 (omega arith) is)
          c.args.steps.now (steps_between L walk.begin walk.last) c.loop-k.steps c.tick.new.self (c.loop-k.invariant.count is) c.tick.ensures;
      arcs = let arcs = c.loop-k.invariant.arcs in let one = c.tick.ensures in omega (arith, arcs, one);
    }

pub returns-clause-arcs : goal.returns-clause-arcs
returns-clause-arcs g c =
    let arcs = c.loop-k.invariant.arcs in
    let begun = c.loop-k.invariant.begun in
    let within = c.loop-k.invariant.within in
    omega (arith, arcs, begun, within)

pub returns-clause-reached : goal.returns-clause-reached
returns-clause-reached g c = λ taken few is.
    let at : c.loop-k.k ≡ c.args.walk.now.last = (let within = c.loop-k.invariant.within in let done = c.loop-k-test.false in omega (arith, within, done)) in
    subst (λ k. IsReachedRun (line_along c.args.walk.now) k taken c.loop-k.here.run) at (c.loop-k.invariant.reached taken few is)

pub returns-clause-led : goal.returns-clause-led
returns-clause-led g c =
    let walk = c.args.walk.now in
    let at : c.loop-k.k ≡ walk.last = (let within = c.loop-k.invariant.within in let done = c.loop-k-test.false in omega (arith, within, done)) in
    subst (λ k. (y : ℤ) → IsTrue (in_run c.loop-k.here.run y) ↔ IsLedToWithoutBreaks (line_along walk) (in_run c.args.from) walk.begin (k - walk.begin) y)
    at c.loop-k.invariant.led

pub returns-then-here-clause-cumuls : goal.returns-then-here-clause-cumuls
returns-then-here-clause-cumuls g c = c.cross_by_run-here.ensures.cumuls

pub returns-clause-cumuls : goal.returns-clause-cumuls
returns-clause-cumuls g c = λ some. c.loop-k.invariant.cumuls
