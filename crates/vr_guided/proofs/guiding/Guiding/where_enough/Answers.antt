use Rattle.std.proofs.Common.{◌≡◌, ◌∙◌, ap, sym, arith, w64, to_z, of_z}
use Rattle.std.specs.Int.{w128}
use Rattle.std.specs.Prelude.{pos, ◌-ℤ◌}
use Rattle.std.proofs.lemmas.Int.{ints}
use Rattle.vr_guided.specs.Guides.{is_gain}
use Rattle.vr_guided.proofs.guiding.Guiding.where_enough.Goals as goal

pub returns : goal.returns
returns c =
    let low = c.requires.at_least in
    let high = c.requires.at_most in
    let as_read : to_z w128 (of_z w128 (pos 0 -ℤ to_z w128 (of_z w128 c.args.saved))) ≡ pos 0 -ℤ c.args.saved = omega (arith, ints, low, high) in
    sym (c.gains.ensures ∙ ap (is_gain c.args.self.now.lambda (to_z w64 (of_z w64 c.args.difference))) as_read) ∙ c.if-gains.false
