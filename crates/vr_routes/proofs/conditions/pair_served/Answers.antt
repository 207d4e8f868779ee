use Rattle.std.proofs.Common.{◌≡◌, ◌∙◌, ℕ, List, length}
use Rattle.std.specs.Prelude.{nat_lt}
use Rattle.vr_model.proofs.tables.Tests.{test_of_lt}
use Rattle.vr_model.specs.tables.Tables.{pair_at}
use Rattle.vr_model.specs.declared.records.Pair.{Pair}
use Rattle.vr_routes.specs.Pairs.{are_in_order, ArePairPlaces}
use Rattle.vr_routes.specs.Seats.{IsOnce}
use Rattle.vr_routes.specs.declared.pairs.PairPlaces.{PairPlaces}
use Rattle.vr_routes.proofs.ElsewhereLemmas.{served_tells, is_behind, not_served, second_fails}
use Rattle.vr_routes.proofs.conditions.pair_served.Goals as goal

pub returns-in-None-clause-answer : goal.returns-in-None-clause-answer
returns-in-None-clause-answer c =
    let pair : Pair = pair_at c.args.model.now c.args.p in
    not_served (nat_lt c.args.p (length c.args.model.now.pairs)) c.args.routes.now.lists pair.pickup pair.delivery c.in-None.ensures.answer

-- whether its nodes are in order
in_order : (lists : List (List ℕ)) (pair : Pair) (at : PairPlaces) → IsOnce lists
    → ArePairPlaces lists pair at.vehicle at.pickup at.delivery → are_in_order lists pair.pickup pair.delivery ≡ nat_lt at.pickup at.delivery
in_order lists pair at once places =
    served_tells lists pair.pickup pair.delivery at.vehicle at.pickup at.delivery once places.pickup_stands places.delivery_stands

pub returns-then-at-clause-answer : goal.returns-then-at-clause-answer
returns-then-at-clause-answer c =
    let pair : Pair = pair_at c.args.model.now c.args.p in
    second_fails (nat_lt c.args.p (length c.args.model.now.pairs)) (are_in_order c.args.routes.now.lists pair.pickup pair.delivery)
    (in_order c.args.routes.now.lists pair c.in-Some.at c.know_once.ensures c.in-Some.ensures.places
    ∙ is_behind c.in-Some.at.pickup c.in-Some.at.delivery c.if-at.true)

pub returns-else-at-clause-answer : goal.returns-else-at-clause-answer
returns-else-at-clause-answer c =
    in_order c.args.routes.now.lists (pair_at c.args.model.now c.args.p) c.in-Some.at c.know_once.ensures c.in-Some.ensures.places
    ∙ test_of_lt c.in-Some.at.pickup c.in-Some.at.delivery c.if-at.false
