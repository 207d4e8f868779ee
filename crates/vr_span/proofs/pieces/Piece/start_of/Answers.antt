use Rattle.std.proofs.Common.{◌≡◌, ◌∙◌, ◌+ℤ◌, ◌-ℤ◌, to_z, of_z, w64, arith}
use Rattle.std.proofs.lemmas.Int.{ints, clamps}
use Rattle.vr_span.specs.Pieces.{start_of}
use Rattle.vr_span.proofs.PieceLemmas.{start_range}
use Rattle.vr_span.proofs.pieces.Piece.start_of.Goals as goal

pub returns : goal.returns
returns c =
    let near = c.requires.near in
    let at = c.requires.x in
    let inner : to_z w64 (of_z w64 (to_z w64 (of_z w64 c.args.x) -ℤ to_z w64 (of_z w64 c.args.self.lo))) ≡ c.args.x -ℤ c.args.self.lo =
    omega (arith, ints, near.lo, at) in
    let sum : to_z w64
    (of_z w64 (to_z w64 (of_z w64 c.args.self.first) +ℤ to_z w64 (of_z w64 (to_z w64 (of_z w64 c.args.x) -ℤ to_z w64 (of_z w64 c.args.self.lo)))))
    ≡ c.args.self.first +ℤ (c.args.x -ℤ c.args.self.lo) =
    omega (arith, ints, inner, near.lo, near.first, at) in
    let least : c.min.result ≡ start_of c.args.self c.args.x = omega (arith, ints, clamps, c.min.ensures.value, sum, near.last) in
    let range = start_range c.args.self c.args.x near at in
    let as_it_is : to_z w64 (of_z w64 c.min.result) ≡ c.min.result = omega (arith, ints, least, range) in
    as_it_is ∙ least
