use Rattle.std.proofs.Common.{ℕ, ◌<◌, ◌≤◌}
use Rattle.std.specs.Prelude.{◌<ℤ◌}
use Rattle.vr_ruin.specs.Increases.{visit_increase}
use Rattle.vr_ruin.proofs.places.next_place.Given as goal

-- the places so far add more
abbrev pub invariant-loop-place : goal.invariant-loop-place
invariant-loop-place l = (u : ℕ) → l.t ≤ u → u < l.place → l.bound <ℤ visit_increase l.list.closed.model.now l.list.vehicle l.list.nodes.now l.x u
