use Rattle.std.proofs.Common.{ℕ, ◌<◌, ◌≤◌}
use Rattle.std.specs.Prelude.{◌+ℤ◌, ◌≤ℤ◌}
use Rattle.vr_routes.specs.Pairs.{without_two}
use Rattle.vr_arccosts.specs.Runs.{pair_added}
use Rattle.vr_arccosts.proofs.rests.first_in_rest.Given as goal

abbrev pub invariant-loop-t : goal.invariant-loop-t
invariant-loop-t l = (t : ℕ) → l.asked.from ≤ t → t < l.t → l.asked.bound
    ≤ℤ (l.base +ℤ pair_added l.rest.costs.model.now l.rest.costs.vehicle (without_two l.rest.list.now l.rest.lo l.rest.hi) l.pair l.s t)
