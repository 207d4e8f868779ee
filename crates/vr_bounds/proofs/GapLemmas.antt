-- What a node adds in a gap, by the stops beside the gap.
use Rattle.std.proofs.Common.{◌≡◌, ◌∙◌, ℕ, ◌<◌, ◌≤◌, List, length, sym, ap, ap₂}
use Rattle.std.specs.Prelude.{ℤ, ◌+ℤ◌, ◌-ℤ◌, slice_range}
use Rattle.vr_model.specs.declared.records.Model.{Model}
use Rattle.vr_model.specs.tables.Tables.{arc_cost}
use Rattle.vr_arccosts.specs.Along.{between_cost}
use Rattle.vr_arccosts.specs.Runs.{at_place, before_place, gap_added}
use Rattle.vr_arccosts.proofs.RunLemmas.{ends-told, gap-old}

module _ (model : Model) (v : ℕ) where
  -- what it adds, as code works it out
  pub gap-told : (list : List ℕ) (t node : ℕ) → t ≤ length list → 0 < length list → {before at : ℕ} {to on old : ℤ}
      → before ≡ before_place model v list t → at ≡ at_place model v list t
      → to ≡ arc_cost model v before node → on ≡ arc_cost model v node at → old ≡ arc_cost model v before at
      → (to +ℤ on) -ℤ old ≡ gap_added model v list node node t
  gap-told list t node low some before-is at-is to-is on-is old-is =
      ends-told model v list t t node node before-is at-is to-is on-is
      (old-is ∙ ap₂ (arc_cost model v) before-is at-is ∙ sym (gap-old model v list t low some))

  -- between the same stops each node adds the same
  pub same-gap : (old : List ℕ) (s : ℕ) (new : List ℕ) (t node : ℕ) → s ≤ length old → 0 < length old → t ≤ length new → 0 < length new
      → before_place model v old s ≡ before_place model v new t → at_place model v old s ≡ at_place model v new t
      → gap_added model v old node node s ≡ gap_added model v new node node t
  same-gap old s new t node low some high also before-is at-is =
      ap₂ (λ b a. (arc_cost model v b node +ℤ arc_cost model v node a) -ℤ between_cost model v old s s (slice_range old s s)) before-is at-is
      ∙ ap (λ x. (arc_cost model v (before_place model v new t) node +ℤ arc_cost model v node (at_place model v new t)) -ℤ x)
      (gap-old model v old s low some ∙ ap₂ (arc_cost model v) before-is at-is ∙ sym (gap-old model v new t high also))
