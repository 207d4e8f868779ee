use Rattle.std.proofs.Common.{arith}
use Rattle.std.proofs.lemmas.Int.{ints}
use Rattle.vr_first_savings.proofs.joins.saved.Goals as goal

pub returns-clause-value : goal.returns-clause-value
returns-clause-value c =
    let front = c.requires.front.to_end_in_range in
    let back = c.requires.back.from_start_in_range in
    let arc = c.arc_cost.ensures in
    omega (arith, ints, front.at_least, front.at_most, back.at_least, back.at_most, arc.not_negative, arc.bound, arc.value)
