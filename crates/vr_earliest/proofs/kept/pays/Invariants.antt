use Rattle.std.proofs.Common.{◌≡◌, ◌<◌, ℕ}
use Rattle.std.specs.Prelude.{pos}
use Rattle.vr_model.specs.tables.Numbers.{number_at}
use Rattle.vr_earliest.proofs.kept.pays.Given as goal

abbrev pub invariant-loop-v : goal.invariant-loop-v
invariant-loop-v l = (v : ℕ) → v < l.v → number_at l.dimension.span_costs v ≡ pos 0
