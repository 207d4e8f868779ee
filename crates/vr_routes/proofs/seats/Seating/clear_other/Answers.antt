use Rattle.std.proofs.Common.{◌∙◌, inl, sym}
use Rattle.vr_model.specs.routes.Routes.{route}
use Rattle.vr_routes.proofs.TourLemmas.{set_as_read}
use Rattle.vr_routes.proofs.seats.Seating.clear_other.Goals as goal

pub returns-else-not-is_same-clause-left : goal.returns-else-not-is_same-clause-left
returns-else-not-is_same-clause-left c =
    let lists = c.args.self.now.lists in
    (route lists c.args.v, inl (sym c.list.ensures.value ∙ c.is_same.ensures c.if-not-is_same.false), sym (set_as_read lists c.args.v))
