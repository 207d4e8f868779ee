use Rattle.std.proofs.Common.{◌<◌, length, sym, ◌∙◌, arith}
use Rattle.vr_model.specs.schedules.Weights.{list_weight}
use Rattle.vr_reach.specs.Lists.{is_feasible_list}
use Rattle.vr_reach.specs.Tries.{list_tries}
use Rattle.vr_pathfilters.proofs.PartTours.{holds_after, holds_more, fails_after}
use Rattle.vr_pathfilters.proofs.PartWeights.{count_more, count_with, count_within}
use Rattle.vr_pathfilters.proofs.dimensions.all_pass.Goals as goal

pub returns-in_err-passed-clause-count : goal.returns-in_err-passed-clause-count
returns-in_err-passed-clause-count g c = count_with (list_weight c.args.at.now.closed.model.now c.args.at.now.d) c.args.at.now.routes.now.lists
    c.args.change.now c.requires.made.makes.parts_are c.loop-k.k (omega arith) c.args.steps.now c.loop-k.invariant.count c.part_passes.ensures.count

pub returns-in_err-passed-clause-tries : goal.returns-in_err-passed-clause-tries
returns-in_err-passed-clause-tries g c = count_with (list_tries c.args.at.now.closed.model.now c.args.at.now.d) c.args.at.now.routes.now.lists
    c.args.change.now c.requires.made.makes.parts_are c.loop-k.k (omega arith) c.args.tries.now c.loop-k.invariant.tries c.part_passes.ensures.tries

pub returns-then-not-passed-clause-answer : goal.returns-then-not-passed-clause-answer
returns-then-not-passed-clause-answer g c =
    sym (fails_after (is_feasible_list c.args.at.now.closed.model.now c.args.at.now.d) c.args.at.now.routes.now.lists c.args.change.now
    c.requires.made.makes.parts_are c.loop-k.k (omega arith) (sym c.in_ok-passed.ensures.answer ∙ c.if-not-passed.true))

pub returns-then-not-passed-clause-count : goal.returns-then-not-passed-clause-count
returns-then-not-passed-clause-count g c = count_with (list_weight c.args.at.now.closed.model.now c.args.at.now.d) c.args.at.now.routes.now.lists
    c.args.change.now c.requires.made.makes.parts_are c.loop-k.k (omega arith) c.args.steps.now c.loop-k.invariant.count c.part_passes.ensures.count

pub returns-then-not-passed-clause-tries : goal.returns-then-not-passed-clause-tries
returns-then-not-passed-clause-tries g c = count_with (list_tries c.args.at.now.closed.model.now c.args.at.now.d) c.args.at.now.routes.now.lists
    c.args.change.now c.requires.made.makes.parts_are c.loop-k.k (omega arith) c.args.tries.now c.loop-k.invariant.tries c.part_passes.ensures.tries

pub loop-k-preserved : goal.loop-k-preserved
loop-k-preserved g c =
    let m = c.args.at.now.closed.model.now in
    let lists = c.args.at.now.routes.now.lists in
    let parts = c.args.change.now in
    let are = c.requires.made.makes.parts_are in
    let k = c.loop-k.k in
    let low : k < length parts = omega arith in
    record {
      passed =
          holds_more (is_feasible_list m c.args.at.now.d) lists parts k c.loop-k.invariant.passed (sym c.in_ok-passed.ensures.answer ∙ c.if-not-passed.false);
      count = count_more (list_weight m c.args.at.now.d) lists parts are k low c.args.steps.now c.loop-k.invariant.count c.part_passes.ensures.count;
      tries = count_more (list_tries m c.args.at.now.d) lists parts are k low c.args.tries.now c.loop-k.invariant.tries c.part_passes.ensures.tries;
    }

pub returns-clause-answer : goal.returns-clause-answer
returns-clause-answer g c = sym (holds_after (is_feasible_list c.args.at.now.closed.model.now c.args.at.now.d) c.args.at.now.routes.now.lists
    c.args.change.now c.requires.made.makes.parts_are c.requires.stands.rule (λ j low. c.loop-k.invariant.passed j (omega (arith, low))))

pub returns-clause-count : goal.returns-clause-count
returns-clause-count g c = count_within (list_weight c.args.at.now.closed.model.now c.args.at.now.d) c.args.at.now.routes.now.lists
    c.args.change.now c.requires.made.makes.parts_are c.loop-k.k c.args.steps.now c.loop-k.invariant.count

pub returns-clause-tries : goal.returns-clause-tries
returns-clause-tries g c = count_within (list_tries c.args.at.now.closed.model.now c.args.at.now.d) c.args.at.now.routes.now.lists
    c.args.change.now c.requires.made.makes.parts_are c.loop-k.k c.args.tries.now c.loop-k.invariant.tries
