use Rattle.std.proofs.Common.{◌∙◌, ◌<◌, length, ap, sym, subst, arith}
use Rattle.std.specs.Prelude.{All}
use Rattle.vr_model.specs.routes.Routes.{route}
use Rattle.vr_routes.specs.Pieces.{changed, joined, part_at, no_part, IsWithin}
use Rattle.vr_routes.specs.Seats.{IsOnce, HaveNodes}
use Rattle.vr_routes.specs.Tours.{Tours}
use Rattle.vr_routes.specs.Changes.{IsMadeOn}
use Rattle.vr_routes.proofs.CommitLemmas.{as_many_lists, once_after, entry_after}
use Rattle.vr_routes.proofs.TourLemmas.{held_below}
use Rattle.vr_routes.proofs.FinalLemmas.{list_fits}
use Rattle.vr_routes.proofs.PartLemmas.{part_is}
use Rattle.vr_routes.proofs.routes.Routes.write_after.Goals as goal

pub fill-requires-clause-within : goal.fill-requires-clause-within
fill-requires-clause-within c =
    let tours : Tours = record { visits = route c.self.inside.visits.lists 0; lists = c.self.inside.seating.lists } in
    let parts = c.args.change.now in
    let made : IsMadeOn tours parts = subst (λ t. IsMadeOn t parts) (sym c.self.view_is) c.requires.made in
    subst (λ pieces. All (IsWithin tours.lists) pieces) (sym c.pieces.ensures.value) (made.makes.parts_are.each_within c.args.k no_part c.requires.part)

pub fill-requires-clause-room : goal.fill-requires-clause-room
fill-requires-clause-room c =
    let tours : Tours = record { visits = route c.self.inside.visits.lists 0; lists = c.self.inside.seating.lists } in
    let parts = c.args.change.now in
    let made : IsMadeOn tours parts = subst (λ t. IsMadeOn t parts) (sym c.self.view_is) c.requires.made in
    let once : IsOnce tours.lists = c.know_once.ensures in
    let i = c.self.invariant.tours in
    let final = changed tours.lists parts in
    let have : HaveNodes c.self.inside.seating.nodes final = λ node active. held_below tours.visits c.self.inside.seating.nodes
    i.each_visit_is_node node (entry_after tours parts made once i.each_entry_is_visit node active) in
    let low : (part_at parts c.args.k).vehicle < length final =
    (let n = as_many_lists tours.lists parts in let h = made.makes.parts_are.each_vehicle c.args.k no_part c.requires.part in omega (arith, n, h)) in
    let list = joined tours.lists (part_at parts c.args.k).pieces in
    let fits = list_fits c.self.inside.seating.nodes final (once_after tours parts made once) have
    (part_at parts c.args.k).vehicle low list (part_is tours.lists parts made.makes.parts_are c.args.k c.requires.part) in
    let same = ap (λ p. length (joined tours.lists p)) c.pieces.ensures.value in
    omega (arith, fits, same, i.few_nodes)

pub returns : goal.returns
returns c =
    c.fill.ensures ∙ ap (λ lists. joined lists c.pieces.result.now) (ap (λ (tours : Tours). tours.lists) c.self.view_is)
    ∙ ap (joined c.args.self.now.lists) c.pieces.ensures.value
