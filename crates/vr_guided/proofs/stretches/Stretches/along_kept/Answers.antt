use Rattle.std.proofs.Common.{◌∙◌, ◌-◌, ◌*◌, ◌^◌, length, reverse, ap, ap₂, sym, subst, arith}
use Rattle.std.specs.Prelude.{cond, pos, slice_range}
use Rattle.vr_model.specs.tables.WellFormed.{IsIn}
use Rattle.vr_guided.specs.Counts.{counted}
use Rattle.vr_guided.specs.Walks.{walked}
use Rattle.vr_guided.proofs.KeptLemmas.{back_long, kept_back, kept_forward, forward_long}
use Rattle.vr_guided.proofs.stretches.Stretches.along_kept.Goals as goal

pub between-total-requires-clause-place : goal.between-total-requires-clause-place
between-total-requires-clause-place c = omega (arith, back_long c.args.self.now.sums c.args.v c.requires.owner c.of-sums.ensures, c.requires.place)

pub between-total-requires-else-reversed-clause-place : goal.between-total-requires-else-reversed-clause-place
between-total-requires-else-reversed-clause-place c =
    omega (arith, forward_long c.args.self.now.sums c.args.v c.requires.owner c.of-sums.ensures, c.requires.place)

pub between-total-requires-clause-few : goal.between-total-requires-clause-few
between-total-requires-clause-few c = omega (arith, c.list-list.ensures.few, ap length c.list-list.ensures.value, c.requires.place)

pub between-total-requires-else-reversed-clause-few : goal.between-total-requires-else-reversed-clause-few
between-total-requires-else-reversed-clause-few c = omega (arith, c.list-list.ensures.few, ap length c.list-list.ensures.value, c.requires.place)

pub jump-requires-clause-first : goal.jump-requires-clause-first
jump-requires-clause-first c =
    (kept_back c.args.self.now.sums c.args.v c.requires.owner c.of-sums.ensures c.args.self.now.arcs.weights.closed.well_formed
    c.args.self.now.arcs.weights.few c.args.self.now.valid c.args.self.now.arcs.vehicle c.args.self.now.arcs.there c.requires.same
    c.list-list.ensures.value c.args.from c.args.to c.requires.order c.requires.place (c.between-total.ensures _ _ _ _)).first_known

pub jump-requires-clause-last : goal.jump-requires-clause-last
jump-requires-clause-last c =
    (kept_back c.args.self.now.sums c.args.v c.requires.owner c.of-sums.ensures c.args.self.now.arcs.weights.closed.well_formed
    c.args.self.now.arcs.weights.few c.args.self.now.valid c.args.self.now.arcs.vehicle c.args.self.now.arcs.there c.requires.same
    c.list-list.ensures.value c.args.from c.args.to c.requires.order c.requires.place (c.between-total.ensures _ _ _ _)).last_known

pub jump-requires-clause-total : goal.jump-requires-clause-total
jump-requires-clause-total c =
    let kept = kept_back c.args.self.now.sums c.args.v c.requires.owner c.of-sums.ensures c.args.self.now.arcs.weights.closed.well_formed
    c.args.self.now.arcs.weights.few c.args.self.now.valid c.args.self.now.arcs.vehicle c.args.self.now.arcs.there c.requires.same
    c.list-list.ensures.value c.args.from c.args.to c.requires.order c.requires.place (c.between-total.ensures _ _ _ _) in
    subst (IsIn (pos 0) (pos ((c.args.to - c.args.from - 1) * 2 ^ 70))) (sym kept.read) kept.range

pub returns-then-reversed-clause-value : goal.returns-then-reversed-clause-value
returns-then-reversed-clause-value c =
    let m = c.args.self.now.arcs.weights.closed.model.now in
    let p = counted c.args.self.now.arcs.weights.penalties.now in
    let kept = kept_back c.args.self.now.sums c.args.v c.requires.owner c.of-sums.ensures c.args.self.now.arcs.weights.closed.well_formed
    c.args.self.now.arcs.weights.few c.args.self.now.valid c.args.self.now.arcs.vehicle c.args.self.now.arcs.there c.requires.same
    c.list-list.ensures.value c.args.from c.args.to c.requires.order c.requires.place (c.between-total.ensures _ _ _ _) in
    let jump = kept.jump in
    c.jump.ensures.value jump.others jump.many jump.ends (kept.read ∙ jump.sum)
    ∙ (ap (walked m p c.args.self.now.arcs.vehicle c.args.walk.now) (sym jump.is) ∙ ap₂ (λ l b. walked m p c.args.self.now.arcs.vehicle c.args.walk.now
    (cond b (reverse (slice_range l c.args.from c.args.to)) (slice_range l c.args.from c.args.to))) c.list-list.ensures.value (sym c.if-reversed.true))

pub jump-requires-else-reversed-clause-first : goal.jump-requires-else-reversed-clause-first
jump-requires-else-reversed-clause-first c =
    (kept_forward c.args.self.now.sums c.args.v c.requires.owner c.of-sums.ensures c.args.self.now.arcs.weights.closed.well_formed
    c.args.self.now.arcs.weights.few c.args.self.now.valid c.args.self.now.arcs.vehicle c.args.self.now.arcs.there c.requires.same
    c.list-list.ensures.value c.args.from c.args.to c.requires.order c.requires.place (c.between-total-else-reversed.ensures _ _ _ _)).first_known

pub jump-requires-else-reversed-clause-last : goal.jump-requires-else-reversed-clause-last
jump-requires-else-reversed-clause-last c =
    (kept_forward c.args.self.now.sums c.args.v c.requires.owner c.of-sums.ensures c.args.self.now.arcs.weights.closed.well_formed
    c.args.self.now.arcs.weights.few c.args.self.now.valid c.args.self.now.arcs.vehicle c.args.self.now.arcs.there c.requires.same
    c.list-list.ensures.value c.args.from c.args.to c.requires.order c.requires.place (c.between-total-else-reversed.ensures _ _ _ _)).last_known

pub jump-requires-else-reversed-clause-total : goal.jump-requires-else-reversed-clause-total
jump-requires-else-reversed-clause-total c =
    let kept = kept_forward c.args.self.now.sums c.args.v c.requires.owner c.of-sums.ensures c.args.self.now.arcs.weights.closed.well_formed
    c.args.self.now.arcs.weights.few c.args.self.now.valid c.args.self.now.arcs.vehicle c.args.self.now.arcs.there c.requires.same
    c.list-list.ensures.value c.args.from c.args.to c.requires.order c.requires.place (c.between-total-else-reversed.ensures _ _ _ _) in
    subst (IsIn (pos 0) (pos ((c.args.to - c.args.from - 1) * 2 ^ 70))) (sym kept.read) kept.range

pub returns-else-reversed-clause-value : goal.returns-else-reversed-clause-value
returns-else-reversed-clause-value c =
    let m = c.args.self.now.arcs.weights.closed.model.now in
    let p = counted c.args.self.now.arcs.weights.penalties.now in
    let kept = kept_forward c.args.self.now.sums c.args.v c.requires.owner c.of-sums.ensures c.args.self.now.arcs.weights.closed.well_formed
    c.args.self.now.arcs.weights.few c.args.self.now.valid c.args.self.now.arcs.vehicle c.args.self.now.arcs.there c.requires.same
    c.list-list.ensures.value c.args.from c.args.to c.requires.order c.requires.place (c.between-total-else-reversed.ensures _ _ _ _) in
    let jump = kept.jump in
    c.jump-else-reversed.ensures.value jump.others jump.many jump.ends (kept.read ∙ jump.sum)
    ∙ (ap (walked m p c.args.self.now.arcs.vehicle c.args.walk.now) (sym jump.is) ∙ ap₂ (λ l b. walked m p c.args.self.now.arcs.vehicle c.args.walk.now
    (cond b (reverse (slice_range l c.args.from c.args.to)) (slice_range l c.args.from c.args.to))) c.list-list.ensures.value (sym c.if-reversed.false))
