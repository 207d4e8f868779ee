use Rattle.std.proofs.Common.{◌∙◌, length, ap, sym, subst, arith}
use Rattle.std.specs.Prelude.{All}
use Rattle.vr_routes.specs.Pieces.{joined, IsWithin}
use Rattle.vr_routes.specs.Seats.{MayHave}
use Rattle.vr_routes.proofs.FinalLemmas.{one_given}
use Rattle.vr_routes.proofs.changes.rebuild_one.Goals as goal

pub fill-requires-clause-within : goal.fill-requires-clause-within
fill-requires-clause-within c =
    let given = one_given c.args.seating.now c.args.part.now c.requires in
    subst (All (IsWithin c.args.seating.now.lists)) (sym c.pieces.ensures.value) given.within

pub fill-requires-clause-room : goal.fill-requires-clause-room
fill-requires-clause-room c =
    let fits = (one_given c.args.seating.now c.args.part.now c.requires).fits in
    let same = ap (λ p. length (joined c.args.seating.now.lists p)) c.pieces.ensures.value in
    omega (arith, fits, same, c.know_few.ensures.nodes)

pub set_list-requires : goal.set_list-requires
set_list-requires c =
    let seated = c.args.seating.now in
    let given = one_given seated c.args.part.now c.requires in
    let list = c.as_slice.ensures.value ∙ c.fill.ensures ∙ ap (joined seated.lists) c.pieces.ensures.value in
    subst (λ v. MayHave seated v c.as_slice.result.now) (sym c.vehicle.ensures) (subst (MayHave seated c.args.part.now.vehicle) (sym list) given.may)
