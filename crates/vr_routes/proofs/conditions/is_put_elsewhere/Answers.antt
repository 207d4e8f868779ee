use Rattle.std.proofs.Common.{◌∙◌, ◌<◌, ◌≤◌, ◌&&◌, ℕ, List, Bool, length, ap, sym, arith}
use Rattle.vr_model.specs.routes.Routes.{route}
use Rattle.vr_model.specs.tables.Tables.{pair_at}
use Rattle.vr_model.specs.moves.Moves.{without_pair, changes_the_list}
use Rattle.vr_model.specs.moves.MoveTests.{may_put_pair}
use Rattle.vr_model.specs.declared.records.Pair.{Pair}
use Rattle.vr_model.proofs.tables.Tests.{test_of_lt}
use Rattle.vr_routes.proofs.ElsewhereLemmas.{elsewhere_tells, may_put, served_tells}
use Rattle.vr_routes.proofs.conditions.is_put_elsewhere.Goals as goal

pub returns : goal.returns
returns c =
    let on = c.args.served.on in
    let model = on.model.now in
    let lists : List (List ℕ) = on.routes.now.lists in
    let pair : Pair = pair_at model on.p in
    let w = c.args.w in
    let s = c.args.s in
    let t = c.args.t in
    let at = on.at in
    let once = c.know_once.ensures in
    let served = served_tells lists pair.pickup pair.delivery at.vehicle at.pickup at.delivery once on.places.pickup_stands on.places.delivery_stands
    ∙ test_of_lt at.pickup at.delivery c.args.served.order in
    let n : ℕ = length (without_pair pair (route lists w)) in
    let vehicles = c.vehicles.ensures.value in
    let past = c.if-w-vehicles.false in
    let far = c.if-t-rest_len.false in
    let low : w < length lists = omega (arith, vehicles, past) in
    let rest = c.rest_len.ensures.rest pair on.places in
    let gap : t ≤ n = omega (arith, far, rest) in
    let changes : Bool = changes_the_list pair (route lists w) (without_pair pair (route lists w)) s t in
    c.is_elsewhere.ensures
    ∙ elsewhere_tells lists pair once at.vehicle at.pickup at.delivery on.places c.args.served.order w s t low c.if-t-s.false gap
    ∙ sym (ap (λ b. b && (may_put_pair model lists on.p w n s t && changes)) served
    ∙ ap (λ b. b && changes) (may_put model lists on.p w n s t on.pair low c.if-t-s.false gap))
