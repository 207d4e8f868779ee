use Rattle.std.proofs.Common.{◌≡◌, ◌∙◌, ℕ, true, ap, sym, arith, length}
use borrow.Author.Count.{below_more}
use Rattle.std.specs.List.{list_all}
use Rattle.vr_model.specs.tables.Tables.{is_visit}
use Rattle.vr_model.specs.routes.Routes.{route, is_distinct}
use Rattle.vr_model.specs.routes.Rules.{is_route_open}
use Rattle.vr_rules.proofs.OpenLemmas.{one_fails, all_pass_below}
use Rattle.vr_model.proofs.routes.Lists.{route-visits, route-distinct}
use Rattle.vr_rules.proofs.validity.are_routes_open.Goals as goal

pub may_drive-requires-clause-visits : goal.may_drive-requires-clause-visits
may_drive-requires-clause-visits c =
    let lists = c.args.of.now.routes.now.lists in
    ap (list_all (is_visit c.args.of.now.lookups.now.closed.model.now)) c.list.ensures.value
    ∙ route-visits c.args.of.now.lookups.now.closed.model.now lists c.loop-v.v c.args.of.now.lists

pub may_drive-requires-clause-distinct : goal.may_drive-requires-clause-distinct
may_drive-requires-clause-distinct c =
    let lists = c.args.of.now.routes.now.lists in
    ap is_distinct c.list.ensures.value ∙ route-distinct c.args.of.now.lookups.now.closed.model.now lists c.loop-v.v c.args.of.now.lists

pub returns-then-not-branch : goal.returns-then-not-branch
returns-then-not-branch c =
    let model = c.args.of.now.lookups.now.closed.model.now in
    let lists = c.args.of.now.routes.now.lists in
    let v : ℕ = c.loop-v.v in
    sym (one_fails (λ v. is_route_open model v (route lists v)) (length lists) v (omega arith)
    (sym (ap (is_route_open model v) c.list.ensures.value) ∙ sym c.in_ok-may_drive.ensures ∙ c.if-not-branch.true))

pub loop-v-preserved : goal.loop-v-preserved
loop-v-preserved c =
    let model = c.args.of.now.lookups.now.closed.model.now in
    let lists = c.args.of.now.routes.now.lists in
    let v : ℕ = c.loop-v.v in
    below_more (λ v. is_route_open model v (route lists v) ≡ true) v c.loop-v.invariant
    (sym (ap (is_route_open model v) c.list.ensures.value) ∙ sym c.in_ok-may_drive.ensures ∙ c.if-not-branch.false)

pub returns : goal.returns
returns c = sym (all_pass_below (λ v. is_route_open c.args.of.now.lookups.now.closed.model.now v (route c.args.of.now.routes.now.lists v))
    (length c.args.of.now.routes.now.lists) (λ v low. c.loop-v.invariant v (omega (arith, low))))
