use Rattle.std.proofs.Common.{◌∙◌, ◌<◌, ℕ, length, sum_by, sym, ap, arith}
use Rattle.std.specs.Prelude.{slice_index_or}
use Rattle.std.proofs.lemmas.List.{get_or_default}
use Rattle.std.proofs.lemmas.List.Sums.{sum_by-swap_remove}
use Rattle.vr_routes.specs.declared.pieces.Piece.{Piece}
use Rattle.vr_routes.specs.Pieces.{nodes_of}
use Rattle.vr_balance.proofs.balance.enter.Goals as goal

pub returns-then-k-len-clause-sums : goal.returns-then-k-len-clause-sums
returns-then-k-len-clause-sums c f lists =
    let xs = c.args.other.now.items in
    let k = c.place_of-k.result in
    let r = c.swap_remove.result in
    let p = c.args.piece in
    let w : Piece → ℕ = λ piece. sum_by f (nodes_of lists piece) in
    let many = c.len.ensures.value in
    let low : k < length xs = omega (arith, c.if-k-len.true, many) in
    let there : k < length c.as_slice.result.now = omega (arith, low, ap length c.as_slice.ensures.value) in
    let is = get_or_default xs k r p low ∙ (sym (ap (λ l. slice_index_or l k p) c.as_slice.ensures.value) ∙ c.place_of-k.ensures.found there) in
    let s = sum_by-swap_remove w xs k r low in
    let n = ap (sum_by w) c.swap_remove.ensures.items in
    let e = ap w is in
    omega (arith, s, n, e)
