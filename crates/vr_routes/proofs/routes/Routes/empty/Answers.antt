use Rattle.std.proofs.Common.{◌≡◌, ◌∙◌, [], length, ap, arith, replicate}
use Rattle.vr_model.proofs.routes.Lists.{is_active-none}
use Rattle.vr_model.proofs.tables.Tests.{clash}
use Rattle.vr_model.specs.routes.Routes.{is_active}
use Rattle.vr_routes.proofs.TourLemmas.{length_of_empty, tours_of}
use Rattle.vr_routes.proofs.routes.Routes.empty.Goals as goal

pub empty-requires-clause-few_vehicles : goal.empty-requires-clause-few_vehicles
empty-requires-clause-few_vehicles c = let fleet = c.requires.well_formed.number_of_vehicles.at_most in omega (arith, fleet, c.len.ensures)

pub of-requires : goal.of-requires
of-requires c =
    let model = c.args.model.now in
    let seating = c.in_ok-seating.seating in
    let lists : seating.lists ≡ replicate (length model.vehicles) [] = c.in_ok-seating.ensures.lists ∙ ap (λ n. replicate n []) c.len.ensures in
    tours_of model c.requires.well_formed c.in_ok-visits.visits seating c.in_ok-visits.ensures.lists c.in_ok-visits.ensures.nodes c.in_ok-seating.ensures.nodes
    (ap length lists ∙ length_of_empty (length model.vehicles))
    (λ node active. absurd (clash (is_active seating.lists node) active (ap (λ l. is_active l node) lists ∙ is_active-none (length model.vehicles) node)))
