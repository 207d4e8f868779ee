-- What watchers report.
use Rattle.std.specs.Prelude.{ℕ, List, flat_map}
use Rattle.vr_model.specs.declared.search.Event.{Event}

-- what the reports of watchers would be after these events, joined in order
abbrev pub joined_reports : {W : Type 0} → (W → List Event → List ℕ) → List W → List Event → List ℕ
joined_reports after watchers events = flat_map (λ w. after w events) watchers
