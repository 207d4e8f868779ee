use Rattle.std.proofs.Common.{◌≡◌, ◌∙◌, [], ℕ, List, length, sym, ap, subst, arith, replicate, true}
use Rattle.vr_model.proofs.tables.Tests.{clash, fails}
use Rattle.vr_model.specs.routes.Routes.{are_lists}
use Rattle.vr_routes.specs.Seats.{IsOnce}
use Rattle.vr_routes.specs.Tours.{HaveVisits}
use Rattle.vr_routes.proofs.ListsLemmas.{are_lists_of, many_of, visits_of, once_of}
use Rattle.vr_routes.proofs.TourLemmas.{length_of_empty, tours_of}
use Rattle.vr_routes.proofs.routes.Routes.from_lists.Goals as goal

pub empty-requires-clause-few_vehicles : goal.empty-requires-clause-few_vehicles
empty-requires-clause-few_vehicles c = let fleet = c.requires.well_formed.number_of_vehicles.at_most in omega (arith, fleet, c.len.ensures)

pub of-requires : goal.of-requires
of-requires c =
    let model = c.args.model.now in
    let passed : c.seat_lists.result ≡ true = c.if-not-seat_lists.false in
    let many = ap length (c.in_ok-seating.ensures.lists ∙ ap (λ n. replicate n []) c.len.ensures) ∙ length_of_empty (length model.vehicles) in
    tours_of model c.requires.well_formed c.in_ok-visits.visits c.seat_lists.new.seating c.in_ok-visits.ensures.lists c.in_ok-visits.ensures.nodes
    (c.seat_lists.ensures.nodes ∙ c.in_ok-seating.ensures.nodes) (c.seat_lists.ensures.many ∙ many) (c.seat_lists.ensures.visits passed)

pub returns-then-not-seat_lists-clause-answer : goal.returns-then-not-seat_lists-clause-answer
returns-then-not-seat_lists-clause-answer c =
    let model = c.args.model.now in
    let lists : List (List ℕ) = c.args.lists.now in
    let many = ap length (c.in_ok-seating.ensures.lists ∙ ap (λ n. replicate n []) c.len.ensures) ∙ length_of_empty (length model.vehicles) in
    fails (are_lists model lists) (λ h. clash c.seat_lists.result
    (c.seat_lists.ensures.passes (many_of model lists h ∙ sym many) (visits_of model lists h) (once_of model lists h)) c.if-not-seat_lists.true)

pub returns-clause-answer : goal.returns-clause-answer
returns-clause-answer c =
    let model = c.args.model.now in
    let lists : List (List ℕ) = c.args.lists.now in
    let passed : c.seat_lists.result ≡ true = c.if-not-seat_lists.false in
    let same = c.seat_lists.ensures.lists passed in
    let many = ap length (c.in_ok-seating.ensures.lists ∙ ap (λ n. replicate n []) c.len.ensures) ∙ length_of_empty (length model.vehicles) in
    are_lists_of model lists (sym (ap length same) ∙ c.seat_lists.ensures.many ∙ many)
    (subst (HaveVisits model) same (c.seat_lists.ensures.visits passed)) (subst IsOnce same c.know_once.ensures)
