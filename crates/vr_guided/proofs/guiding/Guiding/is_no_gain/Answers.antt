use Rattle.std.proofs.Common.{◌≡◌, ◌∙◌, ap₂, sym, arith, w64, to_z, of_z}
use Rattle.std.specs.Int.{w128}
use Rattle.std.specs.Prelude.{pos, ◌-ℤ◌, ◌≤ℤ◌}
use Rattle.std.proofs.lemmas.Int.{ints}
use Rattle.vr_model.proofs.tables.Tests.{fails_not}
use Rattle.vr_guided.specs.Guides.{is_gain}
use Rattle.vr_guided.proofs.GuideLemmas.{none_at_zero}
use Rattle.vr_guided.proofs.guiding.Guiding.is_no_gain.Goals as goal

pub returns-then-saved-eq0 : goal.returns-then-saved-eq0
returns-then-saved-eq0 c = λ none. (
    let low : pos 0 ≤ℤ c.args.difference = omega (arith, ints, none) in
    let from = c.requires.at_least in
    let to = c.requires.at_most in
    let same = c.if-saved-eq0.true in
    let nothing : c.args.saved ≡ pos 0 = omega (arith, ints, from, to, same) in
    none_at_zero c.args.self.now.lambda c.args.difference c.args.saved c.args.self.now.sound.q_in_range.at_least low nothing)

pub returns : goal.returns
returns c = λ none. (
    let low = c.requires.at_least in
    let high = c.requires.at_most in
    let range = c.ranges.difference in
    let same : to_z w64 (of_z w64 c.args.difference) ≡ c.args.difference = omega (arith, ints, range) in
    let as_read : to_z w128 (of_z w128 (pos 0 -ℤ to_z w128 (of_z w128 c.args.saved))) ≡ pos 0 -ℤ c.args.saved = omega (arith, ints, low, high) in
    sym (c.gains.ensures ∙ ap₂ (is_gain c.args.self.now.lambda) same as_read) ∙ fails_not c.gains.result none)
