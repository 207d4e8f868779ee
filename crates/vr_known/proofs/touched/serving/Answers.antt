use Rattle.std.proofs.Common.{◌≡◌, ◌∙◌, sym, ap}
use Rattle.vr_model.specs.routes.Routes.{is_active}
use Rattle.vr_model.specs.tables.Tables.{pair_at}
use Rattle.vr_model.proofs.tables.Tests.{clash}
use Rattle.vr_known.proofs.Pairs.{active_held, serves_together}
use Rattle.vr_known.proofs.touched.serving.Goals as goal

pub returns-in-None-clause-holds : goal.returns-in-None-clause-holds
returns-in-None-clause-holds c =
    let model = c.args.model.now in
    let lists = c.args.routes.now.lists in
    let pickup = (pair_at model c.args.p).pickup in
    let same : c.get.result.now ≡ pair_at model c.args.p = sym (c.get.ensures.value (record { pickup = 0; delivery = 0 })) in
    let at = serves_together model lists c.args.p c.requires.together in
    absurd (clash (is_active lists pickup) (active_held lists pickup at.vehicle at.low at.picks)
    (ap (λ q. is_active lists q.pickup) (sym same) ∙ c.in-None.ensures))
