use Rattle.std.proofs.Common.{◌∙◌, ◌+◌, ◌-◌, ap, sym, subst, arith, length}
use Rattle.std.specs.Prelude.{insert}
use Rattle.vr_model.specs.declared.records.Pair.{Pair}
use Rattle.vr_model.specs.routes.Rules.{is_route_open}
use Rattle.vr_rules.specs.RoutesOpen.{is_feasible_in_each}
use Rattle.vr_reach.specs.Lists.{IsUsed}
use Rattle.vr_reach.specs.Stretches.{SharesBack}
use Rattle.vr_lists.specs.Pairs.{keeps_pairs}
use Rattle.vr_first_insert.specs.Probes.{AreReachedAt}
use Rattle.vr_first_insert.proofs.InsertedLemmas.{pair_back, pair_front, pair_long}
use Rattle.vr_first_insert.proofs.RowLemmas.{reached_in_each}
use Rattle.vr_first_insert.specs.declared.choice.Placing.TheVariants.{Two}
use Rattle.vr_first_insert.specs.Placings.{placed}
use Rattle.vr_first_insert.proofs.ReadyLemmas.{closed-by_lines, open-by_pairs, used-placed}
use Rattle.std.specs.List.{list_all}
use Rattle.vr_model.specs.routes.Routes.{is_distinct}
use Rattle.vr_model.specs.tables.Tables.{is_visit}
use Rattle.vr_first_insert.proofs.PlacedLemmas.{placed-distinct, placed-visits}
use Rattle.vr_first_insert.proofs.trying.may_serve.Goals as goal

pub keeps_its_pairs-requires-clause-visits : goal.keeps_its_pairs-requires-clause-visits
keeps_its_pairs-requires-clause-visits c =
    ap (list_all (is_visit c.args.pair.now.list.lookups.now.closed.model.now)) c.requires.may_test.longer
    ∙ placed-visits c.args.pair.now.list.lookups.now.closed.model.now c.args.pair.now.list.nodes.now
    (Two c.args.pair.now.pickup c.args.pair.now.delivery c.requires.s c.args.t)
    (c.requires.may_test.order, c.requires.may_test.within) c.args.pair.now.may_hold

pub keeps_its_pairs-requires-clause-distinct : goal.keeps_its_pairs-requires-clause-distinct
keeps_its_pairs-requires-clause-distinct c =
    ap is_distinct c.requires.may_test.longer ∙ placed-distinct c.args.pair.now.list.lookups.now.closed.model.now
    c.args.pair.now.list.nodes.now (Two c.args.pair.now.pickup c.args.pair.now.delivery c.requires.s c.args.t)
    (c.requires.may_test.order, c.requires.may_test.within) c.args.pair.now.may_hold

pub goes_from-requires : goal.goes_from-requires
goes_from-requires c =
    let model = c.args.pair.now.list.lookups.now.closed.model.now in
    let v = c.args.pair.now.list.vehicle in
    let list = c.args.pair.now.list.nodes.now in
    let pair : Pair = record { pickup = c.args.pair.now.pickup; delivery = c.args.pair.now.delivery } in
    let written = sym (c.as_slice-longer.ensures ∙ c.requires.may_test.longer) in
    let long = ap length (c.as_slice-longer.ensures ∙ c.requires.may_test.longer)
    ∙ pair_long pair list c.requires.s c.args.t c.requires.may_test.order c.requires.may_test.within in
    record {
      kept = c.requires.may_test.ready.kept;
      used = subst (IsUsed model) written
          (used-placed model list (Two pair.pickup pair.delivery c.requires.s c.args.t)
          (c.requires.may_test.order, c.requires.may_test.within) c.args.pair.now.may_hold);
      here = subst (λ new. AreReachedAt model v new (c.args.t + 1) c.args.probes.now) written
          (reached_in_each model v (insert list c.requires.s pair.pickup)
          (placed list (Two pair.pickup pair.delivery c.requires.s c.args.t)) (c.args.t + 1) c.args.probes.now
          (pair_front pair list c.requires.s c.args.t c.args.t c.requires.may_test.order (omega arith) c.requires.may_test.within) c.requires.may_test.here);
      back = subst (λ new. SharesBack list new (length list - c.args.t)) written
          (pair_back pair list c.requires.s c.args.t c.requires.may_test.order c.requires.may_test.within);
      apart = omega (arith, long, c.requires.may_test.within);
    }

pub returns-then-not-branch-clause-open : goal.returns-then-not-branch-clause-open
returns-then-not-branch-clause-open c =
    let list = placed c.args.pair.now.list.nodes.now (Two c.args.pair.now.pickup c.args.pair.now.delivery c.requires.s c.args.t) in
    sym (closed-by_lines c.args.pair.now.list.lookups.now.closed.model.now c.args.pair.now.list.vehicle
    list (used-placed c.args.pair.now.list.lookups.now.closed.model.now c.args.pair.now.list.nodes.now
    (Two c.args.pair.now.pickup c.args.pair.now.delivery c.requires.s c.args.t)
    (c.requires.may_test.order, c.requires.may_test.within) c.args.pair.now.may_hold).some
    (ap (is_feasible_in_each c.args.pair.now.list.lookups.now.closed.model.now c.args.pair.now.list.vehicle)
    (sym (c.as_slice-longer.ensures ∙ c.requires.may_test.longer)) ∙ sym c.in_ok-goes_from.ensures ∙ c.if-not-branch.true))
    ∙ ap (is_route_open c.args.pair.now.list.lookups.now.closed.model.now c.args.pair.now.list.vehicle) (sym c.requires.may_test.longer)

pub returns-clause-open : goal.returns-clause-open
returns-clause-open c =
    c.keeps_its_pairs.ensures.keeps ∙ ap (keeps_pairs c.args.pair.now.list.lookups.now.closed.model.now c.args.pair.now.list.vehicle) c.requires.may_test.longer
    ∙ sym (open-by_pairs c.args.pair.now.list.lookups.now.closed.model.now c.args.pair.now.list.vehicle
    c.args.pair.now.list.nodes.now (Two c.args.pair.now.pickup c.args.pair.now.delivery c.requires.s c.args.t)
    (c.requires.may_test.order, c.requires.may_test.within) c.requires.may_test.ready.stands c.args.pair.now.allowed
    (ap (is_feasible_in_each c.args.pair.now.list.lookups.now.closed.model.now c.args.pair.now.list.vehicle)
    (sym (c.as_slice-longer.ensures ∙ c.requires.may_test.longer)) ∙ sym c.in_ok-goes_from.ensures ∙ c.if-not-branch.false))
    ∙ ap (is_route_open c.args.pair.now.list.lookups.now.closed.model.now c.args.pair.now.list.vehicle) (sym c.requires.may_test.longer)
