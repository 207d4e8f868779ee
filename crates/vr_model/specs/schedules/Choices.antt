-- The chosen schedule of a line as a function, and whether the line is feasible as a test.
use Rattle.std.specs.Prelude.{ℕ, Bool, true, false, ℤ, ◌⊎◌, Option, Some, None, is_some}
use Rattle.std.proofs.Common.{inl, inr}
use Rattle.vr_model.specs.tables.Numbers.{is_same_number}
use Rattle.vr_model.specs.schedules.Lines.{Line}
use Rattle.vr_model.specs.schedules.Schedules.{Plan, IsChosen, IsFeasible, before_only, after_only, front, back, cumul}
use Rattle.vr_model.specs.deciding.ChosenSchedule.{find_plan, find_chosen}

-- the plan that was found, if any
abbrev pub found_plan : (line : Line) → ((plan : Plan) × IsChosen line plan) ⊎ ¬ IsFeasible line → Option Plan
found_plan line found = elim found [ inl r ↦ Some r.0 | inr none ↦ None ]

-- The chosen schedule, if there is one. `find_chosen` gives it with a proof that it is chosen, or a proof that the line
-- has no schedule.
abbrev pub chosen : Line → Option Plan
chosen line = found_plan line (find_chosen line)

-- whether the line is feasible
abbrev pub is_feasible : Line → Bool
is_feasible line = is_some (chosen line)

-- something was found
abbrev pub was_found : {A B : Type 0} → A ⊎ B → Bool
was_found found = elim found [ inl a ↦ true | inr b ↦ false ]

-- whether the cumul x of stop k is reached with the first b breaks taken, as a test
abbrev pub is_reached : Line → ℕ → ℕ → ℤ → Bool
is_reached line k b x = was_found (find_plan before_only (λ plan. is_same_number x (cumul plan k)) (front line k b))

-- whether the end is reached from the cumul x of stop k with the other breaks taken, as a test
abbrev pub reaches_end : Line → ℕ → ℕ → ℤ → Bool
reaches_end line k b x = was_found (find_plan after_only (λ plan. is_same_number x (cumul plan 0)) (back line k b))
