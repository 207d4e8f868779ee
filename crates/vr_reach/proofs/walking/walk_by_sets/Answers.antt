use Rattle.std.proofs.Common.{◌≡◌, ◌+◌, ◌≤◌, subst, arith}
use Rattle.vr_steps.specs.Reached.{AreReached}
use Rattle.vr_model.proofs.schedules.ChoiceLaws.{chosen_where_feasible, end_reached_as_tested, reached_as_tested}
use Rattle.vr_steps.proofs.LawLemmas.{runs_are_counted}
use Rattle.vr_reach.specs.Counts.{arc_steps, steps_between, join_steps}
use Rattle.vr_reach.specs.Legs.{line_of_leg}
use Rattle.vr_reach.proofs.AlongLemmas.{crossing_by}
use Rattle.vr_reach.proofs.Counting.{first_arc, arc_counts, join_counts, one_further, within_whole, with_join}
use Rattle.vr_reach.proofs.DrivenLemmas.{leg_from, leg_to, meets_on, next_on}
use Rattle.vr_reach.proofs.LineParts.{form_of, feasible_as_tested}
use Rattle.vr_reach.proofs.walking.walk_by_sets.Goals as goal

pub overflow_add-leg : goal.overflow_add-leg
overflow_add-leg g c =
    let order = c.args.leg.now.order in
    let within = c.args.leg.now.within in
    omega (arith, order, within, c.len-few.ensures.fits)

pub overflow_step-k : goal.overflow_step-k
overflow_step-k g c =
    let order = c.args.leg.now.order in
    let within = c.args.leg.now.within in
    omega (arith, order, within, c.len-few.ensures.fits)

pub leave-requires : goal.leave-requires
leave-requires g c =
    let leg = c.args.leg.now in
    let of = leg.stops.of in
    crossing_by of.closed.model.now of.d of.v leg.stops.ends.now leg.stops.ends_are.breaks_are leg.from.now leg.begun.form
    c.hop_from-hop.result c.hop_from-hop.ensures.sound c.set_at-next.result.now c.set_at-next.ensures.cumuls

pub step-requires : goal.step-requires
step-requires g c =
    let breaks = c.args.leg.now.stops.ends_are.breaks_are in record {
      each_break = breaks.valid;
      few_breaks = breaks.few;
      form = c.loop-k.invariant.form;
      arc = c.hop_from-hop-in-loop-k.ensures.sound;
      cumuls = c.set_at-next-in-loop-k.ensures.cumuls;
    }

pub loop-k-init : goal.loop-k-init
loop-k-init g c =
    let L = line_of_leg c.args.leg.now in record {
      within = omega (arith, c.args.leg.now.order);
      form = c.in_ok-leave.ensures.levels;
      reached = next_on c.args.leg.now.stops.of c.args.leg.now.stops.ends.now.breaks c.args.leg.now.stops.ends_are.breaks_are.same
          c.args.leg.now.begin (omega (arith, c.args.leg.now.order, c.args.leg.now.within)) c.hop_from-hop.result c.hop_from-hop.ensures.exact
          c.set_at-next.result.now c.set_at-next.ensures c.args.leg.now.from.now c.leave.new.self (leg_from c.args.leg.now) c.in_ok-leave.ensures.exact;
      count = one_further c.args.steps.now (steps_between L c.args.leg.now.begin c.args.leg.now.last)
          (arc_steps L c.args.leg.now.begin) (steps_between L (c.args.leg.now.begin + 1) c.args.leg.now.last)
          c.args.steps.now (let same : c.args.steps.now + steps_between L c.args.leg.now.begin c.args.leg.now.last
          ≤ c.args.steps.now + steps_between L c.args.leg.now.begin c.args.leg.now.last = omega arith in same)
          (first_arc L c.args.leg.now.begin c.args.leg.now.last c.args.leg.now.order)
          (arc_counts runs_are_counted reached_as_tested L c.args.leg.now.begin c.args.leg.now.from.now
          c.args.leg.now.stops.ends.now.breaks c.args.leg.now.stops.ends_are.breaks_are.same
          (form_of c.args.leg.now.from.now c.args.leg.now.stops.ends_are.breaks_are.same c.args.leg.now.begun.form)
          c.leave.ensures.normal (leg_from c.args.leg.now)) c.leave.ensures.at_most;
    }

pub loop-k-preserved : goal.loop-k-preserved
loop-k-preserved g c =
    let L = line_of_leg c.args.leg.now in record {
      within = omega arith;
      form = c.in_ok-step.ensures.levels;
      reached = next_on c.args.leg.now.stops.of c.args.leg.now.stops.ends.now.breaks c.args.leg.now.stops.ends_are.breaks_are.same
          c.loop-k.k (omega (arith, c.args.leg.now.within)) c.hop_from-hop-in-loop-k.result
          c.hop_from-hop-in-loop-k.ensures.exact c.set_at-next-in-loop-k.result.now c.set_at-next-in-loop-k.ensures
          c.loop-k.walk c.step.new.self c.loop-k.invariant.reached c.in_ok-step.ensures.exact;
      count = one_further c.args.steps.now (steps_between L c.args.leg.now.begin c.args.leg.now.last)
          (arc_steps L c.loop-k.k) (steps_between L (c.loop-k.k + 1) c.args.leg.now.last) c.loop-k.steps c.loop-k.invariant.count
          (first_arc L c.loop-k.k c.args.leg.now.last (omega arith))
          (arc_counts runs_are_counted reached_as_tested L c.loop-k.k c.loop-k.walk c.args.leg.now.stops.ends.now.breaks
          c.args.leg.now.stops.ends_are.breaks_are.same c.loop-k.invariant.form c.step.ensures.normal c.loop-k.invariant.reached) c.step.ensures.at_most;
    }

pub returns-clause-exact : goal.returns-clause-exact
returns-clause-exact g c = feasible_as_tested chosen_where_feasible (line_of_leg c.args.leg.now) c.meets.result
    (c.meets.ensures.exact (line_of_leg c.args.leg.now) c.args.leg.now.last
    (meets_on c.args.leg.now.stops.of c.args.leg.now.stops.ends.now.breaks c.args.leg.now.stops.ends_are.breaks_are.same
    c.loop-k.k c.args.leg.now.last c.args.leg.now.within (omega (arith, c.loop-k.invariant.within)) c.loop-k.walk c.args.leg.now.to.now
    c.loop-k.invariant.form (form_of c.args.leg.now.to.now c.args.leg.now.stops.ends_are.breaks_are.same c.args.leg.now.met.form)
    c.loop-k.invariant.reached (leg_to c.args.leg.now)))

pub returns-in_err-leave-clause-count : goal.returns-in_err-leave-clause-count
returns-in_err-leave-clause-count g c =
    let L = line_of_leg c.args.leg.now in
    within_whole c.args.steps.now (steps_between L c.args.leg.now.begin c.args.leg.now.last)
    (steps_between L (c.args.leg.now.begin + 1) c.args.leg.now.last) (join_steps L c.args.leg.now.last)
    (one_further c.args.steps.now (steps_between L c.args.leg.now.begin c.args.leg.now.last)
    (arc_steps L c.args.leg.now.begin) (steps_between L (c.args.leg.now.begin + 1) c.args.leg.now.last)
    c.args.steps.now (let same : c.args.steps.now + steps_between L c.args.leg.now.begin c.args.leg.now.last
    ≤ c.args.steps.now + steps_between L c.args.leg.now.begin c.args.leg.now.last = omega arith in same)
    (first_arc L c.args.leg.now.begin c.args.leg.now.last c.args.leg.now.order)
    (arc_counts runs_are_counted reached_as_tested L c.args.leg.now.begin c.args.leg.now.from.now c.args.leg.now.stops.ends.now.breaks
    c.args.leg.now.stops.ends_are.breaks_are.same (form_of c.args.leg.now.from.now c.args.leg.now.stops.ends_are.breaks_are.same c.args.leg.now.begun.form)
    c.leave.ensures.normal (leg_from c.args.leg.now)) c.leave.ensures.at_most)

pub returns-in_err-step-clause-count : goal.returns-in_err-step-clause-count
returns-in_err-step-clause-count g c =
    let L = line_of_leg c.args.leg.now in
    within_whole c.args.steps.now (steps_between L c.args.leg.now.begin c.args.leg.now.last)
    (steps_between L (c.loop-k.k + 1) c.args.leg.now.last) (join_steps L c.args.leg.now.last)
    (one_further c.args.steps.now (steps_between L c.args.leg.now.begin c.args.leg.now.last) (arc_steps L c.loop-k.k)
    (steps_between L (c.loop-k.k + 1) c.args.leg.now.last) c.loop-k.steps c.loop-k.invariant.count
    (first_arc L c.loop-k.k c.args.leg.now.last (omega arith))
    (arc_counts runs_are_counted reached_as_tested L c.loop-k.k c.loop-k.walk c.args.leg.now.stops.ends.now.breaks
    c.args.leg.now.stops.ends_are.breaks_are.same c.loop-k.invariant.form c.step.ensures.normal c.loop-k.invariant.reached) c.step.ensures.at_most)

pub returns-clause-count : goal.returns-clause-count
returns-clause-count g c =
    let L = line_of_leg c.args.leg.now in
    let at : c.loop-k.k ≡ c.args.leg.now.last = omega (arith, c.loop-k.invariant.within) in
    with_join c.args.steps.now (steps_between L c.args.leg.now.begin c.args.leg.now.last) (steps_between L c.loop-k.k c.args.leg.now.last)
    (join_steps L c.args.leg.now.last) c.loop-k.steps c.loop-k.invariant.count c.meets.ensures.count
    (join_counts runs_are_counted reached_as_tested end_reached_as_tested L c.args.leg.now.last c.loop-k.walk
    c.args.leg.now.to.now c.args.leg.now.stops.ends.now.breaks c.args.leg.now.stops.ends_are.breaks_are.same
    c.loop-k.invariant.form (form_of c.args.leg.now.to.now c.args.leg.now.stops.ends_are.breaks_are.same c.args.leg.now.met.form)
    c.meets.ensures.normal c.meets.ensures.normal_behind
    (subst (λ i. AreReached L i c.loop-k.walk) at c.loop-k.invariant.reached) (leg_to c.args.leg.now))
