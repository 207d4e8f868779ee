use Rattle.std.proofs.Common.{◌≡◌, ◌∙◌, ◌+◌, ◌<◌, ap, sym, subst, arith, length}
use Rattle.std.proofs.lemmas.Int.{ints}
use Rattle.std.specs.List.{list_all}
use Rattle.std.specs.Prelude.{◌*ℤ◌, ◌-ℤ◌, ◌+ℤ◌}
use Rattle.vr_model.specs.tables.Numbers.{number_at}
use Rattle.vr_model.specs.tables.Tables.{dimension_at, is_visit, no_dimension}
use Rattle.vr_model.specs.routes.Routes.{route, is_distinct}
use Rattle.vr_model.proofs.tables.Tests.{none_from_test, some_from_test}
use Rattle.vr_model.proofs.routes.Lists.{empty_where, not_empty, route-visits, route-distinct, are_lists-count}
use Rattle.vr_plan.specs.Bounds.{cumul_cost, IsAround}
use Rattle.vr_rules.specs.Sums.{PaysNothingToo}
use Rattle.vr_plan.specs.Timings.{IsTiming, IsTimingOf}
use Rattle.vr_rules.proofs.SumLemmas.{AreSums-unused, AreSums-unpaid, AreSums-taken, pays_nothing_too, visits-bound}
use Rattle.vr_rules.proofs.sums.with_vehicle.Goals as goal

pub timing_of-requires-clause-visits : goal.timing_of-requires-clause-visits
timing_of-requires-clause-visits c = ap (list_all (is_visit c.args.of.now.lookups.now.closed.model.now)) c.list-list.ensures.value
    ∙ route-visits c.args.of.now.lookups.now.closed.model.now c.args.of.now.routes.now.lists c.args.v c.args.of.now.lists

pub timing_of-requires-clause-distinct : goal.timing_of-requires-clause-distinct
timing_of-requires-clause-distinct c = ap is_distinct c.list-list.ensures.value
    ∙ route-distinct c.args.of.now.lookups.now.closed.model.now c.args.of.now.routes.now.lists c.args.v c.args.of.now.lists

pub may_pay-requires-clause-visits : goal.may_pay-requires-clause-visits
may_pay-requires-clause-visits c = ap (list_all (is_visit c.args.of.now.lookups.now.closed.model.now)) c.list-list.ensures.value
    ∙ route-visits c.args.of.now.lookups.now.closed.model.now c.args.of.now.routes.now.lists c.args.v c.args.of.now.lists

pub returns-then-is_empty : goal.returns-then-is_empty
returns-then-is_empty c =
    let lists = c.args.of.now.routes.now.lists in
    AreSums-unused c.args.of.now.lookups.now.closed.model.now lists c.args.of.now.d c.args.v c.requires.vehicle c.args.sums c.requires.sums
    (empty_where (route lists c.args.v) (ap length (sym c.list-list.ensures.value) ∙ none_from_test _ _ c.if-is_empty.true c.is_empty.ensures))

pub returns-then-not-may_pay : goal.returns-then-not-may_pay
returns-then-not-may_pay c =
    let lists = c.args.of.now.routes.now.lists in
    let v = c.args.v in
    AreSums-unpaid c.args.of.now.lookups.now.closed.model.now lists c.args.of.now.d v c.requires.vehicle c.args.sums c.requires.sums
    (not_empty (route lists v) (subst (λ list. 0 < length list) c.list-list.ensures.value (some_from_test _ _ c.if-is_empty.false c.is_empty.ensures)))
    (subst (PaysNothingToo (dimension_at c.args.of.now.lookups.now.closed.model.now c.args.of.now.d) v)
    c.list-list.ensures.value (pays_nothing_too (dimension_at c.args.of.now.lookups.now.closed.model.now c.args.of.now.d)
    v c.list-list.result.now (sym c.may_pay.ensures ∙ c.if-not-may_pay.true)))

pub with_timing-requires-clause-bound : goal.with_timing-requires-clause-bound
with_timing-requires-clause-bound c =
    let model = c.args.of.now.lookups.now.closed.model.now in
    let lists = c.args.of.now.routes.now.lists in
    let few = are_lists-count model lists c.args.of.now.lists in
    let visits = visits-bound model lists c.args.v c.args.of.now.lists in
    let b = c.requires.sums.soft_bound in
    let low = c.requires.vehicle in
    omega (
      arith,
      ints,
      b,
      few,
      visits,
      low,
      c.args.of.now.lookups.now.closed.well_formed.number_of_nodes.1,
      c.args.of.now.lookups.now.closed.well_formed.number_of_vehicles.at_most,
    )

pub with_timing-requires-clause-span : goal.with_timing-requires-clause-span
with_timing-requires-clause-span c =
    let few = are_lists-count c.args.of.now.lookups.now.closed.model.now c.args.of.now.routes.now.lists c.args.of.now.lists in
    let many = c.args.of.now.lookups.now.closed.well_formed.number_of_vehicles.at_most in
    let low = c.requires.vehicle in
    let s = c.requires.sums.span_in_range in
    record { low = (let l = s.low in omega (arith, ints, l, few, many, low)); high = (let h = s.high in omega (arith, ints, h, few, many, low)) }

pub returns : goal.returns
returns c =
    let model = c.args.of.now.lookups.now.closed.model.now in
    let lists = c.args.of.now.routes.now.lists in
    let d = c.args.of.now.d in
    let v = c.args.v in
    let timing = c.in_ok-timing.timing in
    let list : c.list-list.result.now ≡ route lists v = c.list-list.ensures.value in
    let dimension : dimension_at model d ≡ c.get-dimension.result.now = c.get-dimension.ensures.value no_dimension in
    let made = c.with_timing.ensures in
    AreSums-taken model lists d v c.requires.vehicle c.args.sums c.requires.sums timing c.with_timing.result
    (not_empty (route lists v) (subst (λ l. 0 < length l) list (some_from_test _ _ c.if-is_empty.false c.is_empty.ensures)))
    (subst (λ l. IsTiming model d v l timing) list c.in_ok-timing.ensures.timing)
    (subst (λ l. IsTimingOf (length l + 2) timing) list c.in_ok-timing.ensures.range)
    made.soft
    (made.span ∙ ap (λ x. c.args.sums.span +ℤ number_at x.span_costs v *ℤ (timing.last -ℤ timing.start)) (sym dimension))
    (subst (λ x. IsAround cumul_cost (number_at x.span_costs v *ℤ (timing.last -ℤ timing.start))) (sym dimension) made.range)
    made.some made.extent
