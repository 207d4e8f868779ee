use Rattle.std.proofs.Common.{◌∙◌, ◌-◌, ap, sym, subst, arith, length}
use Rattle.std.proofs.lemmas.List.Edits.{length-insert}
use Rattle.vr_rules.specs.RoutesOpen.{is_feasible_in_each}
use Rattle.vr_reach.specs.Lists.{IsUsed}
use Rattle.vr_reach.specs.Stretches.{SharesFront, SharesBack}
use Rattle.vr_lists.specs.Pairs.{keeps_pairs}
use Rattle.vr_first_insert.proofs.InsertedLemmas.{visit_back, visit_front}
use Rattle.vr_first_insert.specs.declared.choice.Placing.TheVariants.{One}
use Rattle.vr_first_insert.specs.Placings.{placed}
use Rattle.vr_first_insert.proofs.ReadyLemmas.{closed-by_lines, open-by_pairs, used-placed}
use Rattle.std.specs.List.{list_all}
use Rattle.vr_model.specs.routes.Routes.{is_distinct}
use Rattle.vr_model.specs.tables.Tables.{is_visit}
use Rattle.vr_first_insert.proofs.PlacedLemmas.{placed-distinct, placed-visits}
use Rattle.vr_first_insert.proofs.trying.may_visit.Goals as goal

pub keeps_its_pairs-requires-clause-visits : goal.keeps_its_pairs-requires-clause-visits
keeps_its_pairs-requires-clause-visits c =
    ap (list_all (is_visit c.args.visit.now.list.lookups.now.closed.model.now)) c.requires.longer
    ∙ placed-visits c.args.visit.now.list.lookups.now.closed.model.now c.args.visit.now.list.nodes.now
    (One c.args.visit.now.node c.args.t) c.requires.within c.args.visit.now.may_hold

pub keeps_its_pairs-requires-clause-distinct : goal.keeps_its_pairs-requires-clause-distinct
keeps_its_pairs-requires-clause-distinct c =
    ap is_distinct c.requires.longer ∙ placed-distinct c.args.visit.now.list.lookups.now.closed.model.now
    c.args.visit.now.list.nodes.now (One c.args.visit.now.node c.args.t) c.requires.within c.args.visit.now.may_hold

pub is_feasible_between-requires : goal.is_feasible_between-requires
is_feasible_between-requires c =
    let list = c.args.visit.now.list.nodes.now in
    let written = sym (c.as_slice-longer.ensures ∙ c.requires.longer) in
    let long = ap length (c.as_slice-longer.ensures ∙ c.requires.longer) ∙ length-insert list c.args.t c.args.visit.now.node c.requires.within in
    record {
      kept = c.requires.ready.kept;
      used = subst (IsUsed c.args.visit.now.list.lookups.now.closed.model.now)
          written (used-placed c.args.visit.now.list.lookups.now.closed.model.now list
          (One c.args.visit.now.node c.args.t) c.requires.within c.args.visit.now.may_hold);
      front = subst (λ new. SharesFront list new c.args.t) written (visit_front list c.args.t c.args.visit.now.node c.requires.within);
      back = subst (λ new. SharesBack list new (length list - c.args.t)) written (visit_back list c.args.t c.args.visit.now.node c.requires.within);
      apart = omega (arith, long, c.requires.within);
    }

pub returns-then-not-branch-clause-open : goal.returns-then-not-branch-clause-open
returns-then-not-branch-clause-open c =
    let list = placed c.args.visit.now.list.nodes.now (One c.args.visit.now.node c.args.t) in
    sym (closed-by_lines c.args.visit.now.list.lookups.now.closed.model.now c.args.visit.now.list.vehicle
    list (used-placed c.args.visit.now.list.lookups.now.closed.model.now c.args.visit.now.list.nodes.now
    (One c.args.visit.now.node c.args.t) c.requires.within c.args.visit.now.may_hold).some
    (ap (is_feasible_in_each c.args.visit.now.list.lookups.now.closed.model.now c.args.visit.now.list.vehicle)
    (sym (c.as_slice-longer.ensures ∙ c.requires.longer)) ∙ sym c.in_ok-is_feasible_between.ensures ∙ c.if-not-branch.true))

pub returns-clause-open : goal.returns-clause-open
returns-clause-open c =
    c.keeps_its_pairs.ensures.keeps ∙ ap (keeps_pairs c.args.visit.now.list.lookups.now.closed.model.now c.args.visit.now.list.vehicle) c.requires.longer
    ∙ sym (open-by_pairs c.args.visit.now.list.lookups.now.closed.model.now c.args.visit.now.list.vehicle c.args.visit.now.list.nodes.now
    (One c.args.visit.now.node c.args.t) c.requires.within c.requires.ready.stands c.args.visit.now.allowed
    (ap (is_feasible_in_each c.args.visit.now.list.lookups.now.closed.model.now c.args.visit.now.list.vehicle)
    (sym (c.as_slice-longer.ensures ∙ c.requires.longer)) ∙ sym c.in_ok-is_feasible_between.ensures ∙ c.if-not-branch.false))
