use Rattle.std.proofs.Common.{◌≡◌, ◌∙◌, arith, w64, to_z, of_z}
use Rattle.std.proofs.lemmas.Int.{ints}
use Rattle.vr_guided.proofs.guiding.GuidingAccept.accepts.Goals as goal

pub accepts_change-requires-clause-difference : goal.accepts_change-requires-clause-difference
accepts_change-requires-clause-difference c =
    let same : to_z w64 (of_z w64 c.args.difference) ≡ c.args.difference = omega (arith, ints, c.ranges.difference) in
    same ∙ c.requires.difference
