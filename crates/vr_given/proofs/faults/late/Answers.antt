use Rattle.std.proofs.Common.{[], length, sym, ap, subst, ◌∙◌, arith}
use Rattle.std.specs.Prelude.{IsTrue}
use Rattle.std.specs.List.{list_all}
use Rattle.std.proofs.lemmas.List.{get_or_default}
use Rattle.vr_model.specs.routes.Routes.{is_distinct}
use Rattle.vr_model.specs.tables.Tables.{is_visit}
use Rattle.vr_model.proofs.routes.Lists.{are_lists-count, route-distinct, route-visits}
use Rattle.vr_check.proofs.Firsts.{found, passed_by}
use Rattle.vr_given.specs.ListFaults.{schedule_broken_in, schedule_broken_of}
use Rattle.vr_given.proofs.faults.late.Goals as goal

pub late_in-requires-clause-vehicle : goal.late_in-requires-clause-vehicle
late_in-requires-clause-vehicle c = omega (arith, c.loop-v-test.true, are_lists-count c.args.lookups.now.closed.model.now c.args.lists.now c.requires)

pub late_in-requires-clause-visits : goal.late_in-requires-clause-visits
late_in-requires-clause-visits c =
    let model = c.args.lookups.now.closed.model.now in
    let lists = c.args.lists.now in
    let list = c.as_slice.ensures ∙ (c.index-lists-v.is ∙ get_or_default lists c.loop-v.v c.index-lists-v.result [] c.loop-v-test.true) in
    subst (λ list. IsTrue (list_all (is_visit model) list)) (sym list) (route-visits model lists c.loop-v.v c.requires)

pub late_in-requires-clause-distinct : goal.late_in-requires-clause-distinct
late_in-requires-clause-distinct c =
    let model = c.args.lookups.now.closed.model.now in
    let lists = c.args.lists.now in
    let list = c.as_slice.ensures ∙ (c.index-lists-v.is ∙ get_or_default lists c.loop-v.v c.index-lists-v.result [] c.loop-v-test.true) in
    subst (λ list. IsTrue (is_distinct list)) (sym list) (route-distinct model lists c.loop-v.v c.requires)

pub loop-v-preserved : goal.loop-v-preserved
loop-v-preserved c =
    let model = c.args.lookups.now.closed.model.now in
    let lists = c.args.lists.now in
    let list = c.as_slice.ensures ∙ (c.index-lists-v.is ∙ get_or_default lists c.loop-v.v c.index-lists-v.result [] c.loop-v-test.true) in
    passed_by (schedule_broken_in model lists) (length lists) c.loop-v.v c.loop-v.invariant c.loop-v-test.true
    (c.in_ok-spot.ensures ∙ ap (schedule_broken_of model c.loop-v.v) list) (sym c.is_some.ensures ∙ c.if-is_some.false)

pub returns-then-is_some : goal.returns-then-is_some
returns-then-is_some c =
    let model = c.args.lookups.now.closed.model.now in
    let lists = c.args.lists.now in
    let list = c.as_slice.ensures ∙ (c.index-lists-v.is ∙ get_or_default lists c.loop-v.v c.index-lists-v.result [] c.loop-v-test.true) in
    found (schedule_broken_in model lists) (length lists) c.loop-v.v c.loop-v.invariant c.loop-v-test.true
    (c.in_ok-spot.ensures ∙ ap (schedule_broken_of model c.loop-v.v) list) (sym c.is_some.ensures ∙ c.if-is_some.true)
