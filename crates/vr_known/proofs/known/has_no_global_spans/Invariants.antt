use Rattle.std.proofs.Common.{◌≡◌, ℕ, ◌<◌}
use Rattle.std.specs.Prelude.{pos}
use Rattle.vr_model.specs.tables.Tables.{dimension_at}
use Rattle.vr_known.proofs.known.has_no_global_spans.Given as goal

-- none so far has one
abbrev pub invariant-loop-d : goal.invariant-loop-d
invariant-loop-d l = record {
  none : (e : ℕ) → e < l.d → (dimension_at l.model e).global_span_cost ≡ pos 0;
}
