use Rattle.std.proofs.Common.{ℕ, List, sym, subst, arith}
use Rattle.vr_model.specs.tables.Tables.{pair_at}
use Rattle.vr_routes.specs.Changes.{IsAfter}
use Rattle.vr_routes.proofs.WithoutLemmas.{pickup_first, delivery_first}
use Rattle.vr_routes.proofs.pieces.Part.take_pair.Goals as goal

pub take_two-requires : goal.take_two-requires
take_two-requires c =
    let places = c.args.on.places in
    record { vehicle = places.pickup_stands.vehicle; order = c.if-at.true; place = places.delivery_stands.place }

pub take_two-requires-2 : goal.take_two-requires-2
take_two-requires-2 c =
    let places = c.args.on.places in
    record { vehicle = places.pickup_stands.vehicle; order = omega (arith, c.requires, c.if-at.false); place = places.pickup_stands.place }

pub returns-then-at : goal.returns-then-at
returns-then-at c =
    let on = c.args.on in
    let lists : List (List ℕ) = on.routes.now.lists in
    let at = on.at in
    subst (IsAfter lists c.take_two.new.self at.vehicle)
    (sym (pickup_first (pair_at on.model.now on.p) lists c.know_once.ensures at.vehicle at.pickup at.delivery on.places c.if-at.true).list_without)
    c.take_two.ensures

pub returns : goal.returns
returns c =
    let on = c.args.on in
    let lists : List (List ℕ) = on.routes.now.lists in
    let at = on.at in
    let apart = c.requires in
    let behind = c.if-at.false in
    subst (IsAfter lists c.take_two-2.new.self at.vehicle) (sym (delivery_first (pair_at on.model.now on.p) lists c.know_once.ensures
    at.vehicle at.pickup at.delivery on.places (omega (arith, apart, behind))).list_without) c.take_two-2.ensures
