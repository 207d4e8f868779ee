use Rattle.std.proofs.Common.{arith}
use Rattle.std.proofs.lemmas.Int.{ints}
use Rattle.std.specs.Prelude.{ℤ, pos, negsuc, ◌-ℤ◌, ◌≤ℤ◌}
use Rattle.vr_model.proofs.routes.CostFits.{costs_are_bounded}
use Rattle.vr_model.specs.moves.Moves.{apply}
use Rattle.vr_routes.proofs.judging.Judge.least_difference.Goals as goal

not_below : (later before : ℤ) → pos 0 ≤ℤ later → before ≤ℤ pos 9223372036854775807 → negsuc 9223372036854775807 ≤ℤ (later -ℤ before)
not_below later before low high = omega (arith, ints, low, high)

pub returns-clause-least : goal.returns-clause-least
returns-clause-least g c valid =
    let model = g.Self.Judge.model c.args.self.now in
    let later = costs_are_bounded model c.requires.well_formed (apply model c.args.routes.now.lists c.args.mv) valid in
    let before = costs_are_bounded model c.requires.well_formed c.args.routes.now.lists c.requires.holds.valid in
    not_below _ _ later.least before.greatest
