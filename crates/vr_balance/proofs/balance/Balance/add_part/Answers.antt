use Rattle.std.proofs.Common.{ℕ, List, false, sum_by, ap, arith}
use Rattle.std.proofs.lemmas.List.{take_all}
use Rattle.std.proofs.lemmas.List.Sums.{sum_by_more}
use Rattle.vr_model.specs.routes.Routes.{route}
use Rattle.vr_routes.specs.declared.pieces.Piece.{Piece}
use Rattle.vr_routes.specs.declared.pieces.Piece.TheVariants.{Chain}
use Rattle.vr_routes.specs.Pieces.{nodes_of}
use Rattle.vr_balance.specs.Balances.{over_pieces}
use Rattle.vr_balance.proofs.BalanceLemmas.{sum-between, sum-all, sum-joined}
use Rattle.vr_balance.proofs.balance.Balance.add_part.Goals as goal

pub loop-k-preserved : goal.loop-k-preserved
loop-k-preserved c = record {
  low = c.add_piece-place.ensures.low;
  room = omega (arith, c.add_piece-place.ensures.room, c.loop-k.invariant.room);
  room_too = omega (arith, c.add_piece-place.ensures.room_too, c.loop-k.invariant.room_too);
  within = c.add_piece-place.ensures.within;
  became = λ f.
      let lists : List (List ℕ) = c.args.routes.now.lists in
      let list : List ℕ = route lists c.args.v in
      let k = c.loop-k.k in
      let piece : Piece = Chain 0 0 0 false in
      let more = sum_by_more (λ p. sum_by f (nodes_of lists p)) c.args.pieces.now k piece c.loop-k-test.true in
      let here = c.add_piece-place.ensures.became f in
      let so_far = c.loop-k.invariant.became f in
      let both = sum-between f list 0 c.loop-k.place c.add_piece-place.result (omega arith) c.add_piece-place.ensures.order in
      omega (arith, more, here, so_far, both);
}

pub returns-clause-became : goal.returns-clause-became
returns-clause-became c f =
    let lists : List (List ℕ) = c.args.routes.now.lists in
    let list : List ℕ = route lists c.args.v in
    let all = ap (over_pieces f lists) (take_all c.loop-k.k c.args.pieces.now c.loop-k-test.false) in
    let joined_is = sum-joined f lists c.args.pieces.now in
    let so_far = c.loop-k.invariant.became f in
    let gone = c.leave.ensures.became lists f in
    let both = sum-between f list 0 c.loop-k.place c.len.result (omega arith)
    (let n = c.len.ensures.value in let low = c.loop-k.invariant.low in omega (arith, n, low)) in
    let whole = sum-all f list c.len.result c.len.ensures.value in
    omega (arith, all, joined_is, so_far, gone, both, whole)
