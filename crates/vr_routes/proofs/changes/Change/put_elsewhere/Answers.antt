use Rattle.std.proofs.Common.{◌∙◌, ◌+◌, ◌≤◌, ℕ, List, length, sym, ap, subst, arith}
use Rattle.vr_model.specs.routes.Routes.{route}
use Rattle.vr_model.specs.tables.Tables.{pair_at}
use Rattle.vr_model.specs.moves.Moves.{with_route, with_pair, without_pair}
use Rattle.vr_model.specs.declared.records.Pair.{Pair}
use Rattle.vr_model.specs.declared.neighbours.Move.TheVariants.{RelocatePair}
use Rattle.vr_routes.specs.Changes.{IsAfter}
use Rattle.vr_routes.specs.Pairs.{without_two}
use Rattle.vr_routes.proofs.FactLemmas.{of_relocate_pair}
use Rattle.vr_routes.proofs.ChangeLemmas.{one_part, two_parts}
use Rattle.vr_routes.proofs.DifferLemmas.{paired_differs, unpaired_differs}
use Rattle.vr_routes.proofs.ElsewhereLemmas.{own_rest, others_stay, moved_within, moved_between}
use Rattle.vr_routes.proofs.changes.Change.put_elsewhere.Goals as goal

pub move_pair-requires : goal.move_pair-requires
move_pair-requires c =
    let on = c.args.served.on in
    let at = on.at in
    let lists : List (List ℕ) = on.routes.now.lists in
    let test = of_relocate_pair on.model.now lists on.p c.args.w c.args.s c.args.t c.requires.is_one in
    let own = own_rest lists (pair_at on.model.now on.p) c.know_once.ensures at.vehicle
    at.pickup at.delivery on.places c.args.served.order c.args.w c.if-w-at.true in
    let enough : c.args.t + 2 ≤ length (route lists c.args.w) = omega (arith, test.gap, own) in
    record {
      two = record { vehicle = on.places.pickup_stands.vehicle; order = c.args.served.order; place = on.places.delivery_stands.place };
      places = test.order;
      gap = subst (λ v. c.args.t + 2 ≤ length (route lists v)) c.if-w-at.true enough;
    }

pub returns-then-w-at : goal.returns-then-w-at
returns-then-w-at c =
    let on = c.args.served.on in
    let lists : List (List ℕ) = on.routes.now.lists in
    let pair : Pair = pair_at on.model.now on.p in
    let at = on.at in
    let w = c.args.w in
    let test = of_relocate_pair on.model.now lists on.p w c.args.s c.args.t c.requires.is_one in
    one_part on.model.now lists (RelocatePair on.p w c.args.s c.args.t) _ w _
    test.vehicle (subst
    (λ v. IsAfter lists c.move_pair.new.self v (with_pair c.get-pair.result.now c.args.s c.args.t (without_two (route lists v) at.pickup at.delivery)))
    (sym c.if-w-at.true) c.move_pair.ensures)
    (ap (λ (q : Pair). with_route lists w (with_pair q c.args.s c.args.t (without_two (route lists w) at.pickup at.delivery)))
    (sym (c.get-pair.ensures.value (record { pickup = 0; delivery = 0 })))
    ∙ moved_within lists pair c.know_once.ensures at.vehicle at.pickup at.delivery
    on.places c.args.served.order w c.args.s c.args.t c.if-w-at.true) c.requires.is_one

pub take_pair-requires : goal.take_pair-requires
take_pair-requires c same = omega (arith, same, c.args.served.order)

pub put_pair-requires : goal.put_pair-requires
put_pair-requires c =
    let on = c.args.served.on in
    let test = of_relocate_pair on.model.now on.routes.now.lists on.p c.args.w c.args.s c.args.t c.requires.is_one in
    let same = ap length
    (others_stay on.routes.now.lists (pair_at on.model.now on.p) c.know_once.ensures on.at.vehicle
    on.at.pickup on.at.delivery on.places c.args.served.order c.args.w test.vehicle c.if-w-at.false) in
    record { vehicle = test.vehicle; order = test.order; gap = omega (arith, test.gap, same) }

pub returns : goal.returns
returns c =
    let on = c.args.served.on in
    let lists : List (List ℕ) = on.routes.now.lists in
    let pair : Pair = pair_at on.model.now on.p in
    let at = on.at in
    let w = c.args.w in
    let places = on.places in
    let test = of_relocate_pair on.model.now lists on.p w c.args.s c.args.t c.requires.is_one in
    two_parts on.model.now lists (RelocatePair on.p w c.args.s c.args.t) _ _ at.vehicle w _ _
    places.pickup_stands.vehicle test.vehicle (λ same. c.if-w-at.false (sym same))
    c.take_pair.ensures c.put_pair.ensures
    (ap
    (λ (q : Pair). with_route (with_route lists at.vehicle (without_pair pair (route lists at.vehicle))) w (with_pair q c.args.s c.args.t (route lists w)))
    (sym (c.get-pair.ensures.value (record { pickup = 0; delivery = 0 })))
    ∙ moved_between lists pair c.know_once.ensures at.vehicle at.pickup at.delivery places c.args.served.order w c.args.s c.args.t c.if-w-at.false)
    (λ are. unpaired_differs pair (route lists at.vehicle) at.pickup places.pickup_stands.place places.pickup_stands.found)
    (λ are. paired_differs c.get-pair.result.now c.args.s c.args.t (route lists w) test.order)
