use Rattle.std.proofs.Common.{◌≡◌, ◌⊎◌, ℕ, ◌<◌}
use Rattle.std.specs.Prelude.{IsTrue}
use Rattle.vr_model.specs.moves.Kinds.{rows_of}
use Rattle.vr_model.specs.declared.neighbours.Neighbourhood.{Neighbourhood}
use Rattle.vr_known.specs.Blocks.{is_known}
use Rattle.vr_known.proofs.stamps.Stamps.learn_below.Given as goal

-- the rows so far are learned
abbrev pub invariant-loop-row : goal.invariant-loop-row
invariant-loop-row l = record {
  learned : (k : Neighbourhood) (u w : ℕ) → u < rows_of k → IsTrue (is_known l.self k u w)
      → IsTrue (is_known l.initial.self k u w) ⊎ ((k ≡ l.kind) × (u < l.row));
}
