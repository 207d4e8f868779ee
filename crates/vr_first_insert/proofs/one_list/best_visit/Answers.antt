use Rattle.std.proofs.Common.{◌≡◌, ◌∙◌, ℕ, Some, true, ap, sym, arith}
use Rattle.std.specs.Prelude.{◌&&◌}
use Rattle.vr_model.specs.deciding.Testing.{and_left, and_right}
use Rattle.vr_model.specs.routes.Rules.{is_route_open}
use Rattle.vr_rules.specs.Placing.{improves}
use Rattle.vr_first_insert.specs.declared.choice.Placing.TheVariants.{One}
use Rattle.vr_first_insert.specs.Placings.{key_of, placed, visit_choice}
use Rattle.vr_first_insert.proofs.FirstPlace.{first-taken}
use Rattle.vr_first_insert.proofs.ReadyLemmas.{few-held}
use Rattle.vr_first_insert.proofs.one_list.best_visit.Goals as goal

pub write_placed-requires-clause-few : goal.write_placed-requires-clause-few
write_placed-requires-clause-few c = few-held c.args.visit.now.list c.args.visit.now.may_hold

pub overflow_cast-t : goal.overflow_cast-t
overflow_cast-t c = omega (arith, few-held c.args.visit.now.list c.args.visit.now.may_hold, c.least_place-t.ensures.within)

pub is_visit_taken-requires : goal.is_visit_taken-requires
is_visit_taken-requires c = record { ready = c.requires; within = c.least_place-t.ensures.within; longer = c.in_ok-write_placed.ensures }

pub returns-then-branch : goal.returns-then-branch
returns-then-branch c =
    let model = c.args.visit.now.list.lookups.now.closed.model.now in
    let list = c.args.visit.now.list.nodes.now in
    let place : ℕ = c.least_place-t.result in
    let better = improves key_of c.args.best (visit_choice model c.args.visit.now.list.vehicle list c.args.visit.now.class c.args.visit.now.node place) in
    let opens = is_route_open model c.args.visit.now.list.vehicle (placed list (One c.args.visit.now.node place)) in
    let taken : (better && opens) ≡ true = sym c.in_ok-is_visit_taken.ensures ∙ c.if-branch.true in
    ap Some c.visit_at.ensures ∙ first-taken model c.args.visit.now.list.vehicle list c.args.visit.now.class
    c.args.visit.now.node place c.least_place-t.ensures c.args.best (and_left better opens taken) (and_right better opens taken)
