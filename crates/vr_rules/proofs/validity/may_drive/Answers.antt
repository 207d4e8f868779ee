use Rattle.std.proofs.Common.{◌∙◌, ap, subst, sym, arith}
use Rattle.std.specs.Prelude.{IfSome}
use Rattle.vr_model.specs.routes.Rules.{is_route_open}
use Rattle.vr_rules.specs.Placing.{AreBuilt}
use Rattle.vr_rules.proofs.PlacingLemmas.{built-count, open-route}
use Rattle.vr_rules.proofs.validity.may_drive.Goals as goal

pub list-requires : goal.list-requires
list-requires c =
    let model = c.args.lookups.now.closed.model.now in
    let built = subst (λ others. IfSome others (λ routes. AreBuilt model routes.now.lists)) c.in-Some.is c.requires.others in
    let n = built-count model c.in-Some.routes.now.lists built in
    record { vehicle = omega (arith, n, c.requires.vehicle) }

pub returns-then-is_same : goal.returns-then-is_same
returns-then-is_same c =
    let model = c.args.lookups.now.closed.model.now in
    let built = subst (λ others. IfSome others (λ routes. AreBuilt model routes.now.lists)) c.in-Some.is c.requires.others in
    let n = built-count model c.in-Some.routes.now.lists built in
    let same = sym c.list.ensures.value ∙ c.is_same.ensures c.if-is_same.true in
    sym (ap (is_route_open model c.args.v) (sym same)
    ∙ open-route model c.in-Some.routes.now.lists c.args.v built.are_open (omega (arith, n, c.requires.vehicle)))
