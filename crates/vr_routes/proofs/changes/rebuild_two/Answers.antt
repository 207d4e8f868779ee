use Rattle.std.proofs.Common.{◌∙◌, length, ap, sym, subst, arith}
use Rattle.std.specs.Prelude.{All}
use Rattle.vr_routes.specs.Pieces.{joined, IsWithin}
use Rattle.vr_routes.specs.Seats.{MayHaveTwo}
use Rattle.vr_routes.proofs.FinalLemmas.{two_given}
use Rattle.vr_routes.proofs.changes.rebuild_two.Goals as goal

pub fill-requires-clause-within : goal.fill-requires-clause-within
fill-requires-clause-within c =
    let given = two_given c.args.seating.now c.args.part.now c.args.other.now c.requires in
    subst (All (IsWithin c.args.seating.now.lists)) (sym c.pieces.ensures.value) given.first_within

pub fill-requires-clause-room : goal.fill-requires-clause-room
fill-requires-clause-room c =
    let fits = (two_given c.args.seating.now c.args.part.now c.args.other.now c.requires).first_fits in
    let same = ap (λ p. length (joined c.args.seating.now.lists p)) c.pieces.ensures.value in
    omega (arith, fits, same, c.know_few.ensures.nodes)

pub fill-requires-2-clause-within : goal.fill-requires-2-clause-within
fill-requires-2-clause-within c =
    let given = two_given c.args.seating.now c.args.part.now c.args.other.now c.requires in
    subst (All (IsWithin c.args.seating.now.lists)) (sym c.pieces-2.ensures.value) given.second_within

pub fill-requires-2-clause-room : goal.fill-requires-2-clause-room
fill-requires-2-clause-room c =
    let fits = (two_given c.args.seating.now c.args.part.now c.args.other.now c.requires).second_fits in
    let same = ap (λ p. length (joined c.args.seating.now.lists p)) c.pieces-2.ensures.value in
    omega (arith, fits, same, c.know_few.ensures.nodes)

pub set_two-requires : goal.set_two-requires
set_two-requires c =
    let seated = c.args.seating.now in
    let v = c.args.part.now.vehicle in
    let w = c.args.other.now.vehicle in
    let given = two_given seated c.args.part.now c.args.other.now c.requires in
    let first = c.as_slice.ensures.value ∙ c.fill.ensures ∙ ap (joined seated.lists) c.pieces.ensures.value in
    let second = c.as_slice-2.ensures.value ∙ c.fill-2.ensures ∙ ap (joined seated.lists) c.pieces-2.ensures.value in
    subst (λ u. MayHaveTwo seated u c.as_slice.result.now c.vehicle-2.result c.as_slice-2.result.now) (sym c.vehicle.ensures)
    (subst (λ u. MayHaveTwo seated v c.as_slice.result.now u c.as_slice-2.result.now) (sym c.vehicle-2.ensures)
    (subst (λ l. MayHaveTwo seated v l w c.as_slice-2.result.now) (sym first)
    (subst (MayHaveTwo seated v (joined seated.lists c.args.part.now.pieces) w) (sym second) given.may)))
