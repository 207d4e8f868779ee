use Rattle.std.proofs.Common.{◌≡◌, ◌∙◌, true, ap, sym}
use Rattle.std.specs.List.{list_all}
use Rattle.vr_model.specs.tables.Tables.{is_visit}
use Rattle.vr_model.specs.routes.Routes.{is_distinct}
use Rattle.vr_model.specs.routes.Rules.{is_route_open}
use Rattle.vr_model.specs.first.SavingsJoins.{may_join}
use Rattle.vr_rules.proofs.LazyLeast.{taken}
use Rattle.vr_first_savings.specs.Joins.{saving_key, join_of}
use Rattle.vr_first_savings.proofs.JoinLemmas.{joined-visits, joined-distinct, where-open}
use Rattle.vr_first_savings.proofs.joins.consider.Goals as goal

pub is_route_open-requires-clause-visits : goal.is_route_open-requires-clause-visits
is_route_open-requires-clause-visits c =
    ap (list_all (is_visit c.args.lookups.now.closed.model.now)) (c.deref.ensures.value ∙ c.in_ok-longer.ensures)
    ∙ joined-visits c.args.lookups.now.closed.model.now c.args.routes.now c.args.next.front c.args.next.back c.requires.apart

pub is_route_open-requires-clause-distinct : goal.is_route_open-requires-clause-distinct
is_route_open-requires-clause-distinct c =
    ap is_distinct (c.deref.ensures.value ∙ c.in_ok-longer.ensures)
    ∙ joined-distinct c.args.lookups.now.closed.model.now c.args.routes.now c.args.next.front c.args.next.back c.requires.apart c.if-next.false

pub returns-then-branch : goal.returns-then-branch
returns-then-branch c =
    let model = c.args.lookups.now.closed.model.now in
    let routes = c.args.routes.now in
    let may : may_join model (join_of routes c.args.next) ≡ true =
    where-open model routes c.args.next c.requires.apart c.requires.front c.requires.back c.if-next.false
    ∙ ap (is_route_open model 0) (sym (c.deref.ensures.value ∙ c.in_ok-longer.ensures)) ∙ sym c.in_ok-is_route_open.ensures ∙ c.if-branch.true in
    taken saving_key c.args.best c.args.next (may_join model (join_of routes c.args.next)) (sym c.improves.ensures ∙ c.if-not-improves.false) may
