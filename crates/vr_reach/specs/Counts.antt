-- What the walk over a stretch of a line counts, arc by arc and at its join.
use Rattle.std.specs.Prelude.{ℕ, ◌+◌, ◌-◌, ◌*◌, length, sum_by}
use Rattle.vr_model.specs.tables.Numbers.{from_to}
use Rattle.vr_model.specs.schedules.Lines.{Line}
use Rattle.vr_model.specs.schedules.Choices.{is_reached, reaches_end}
use Rattle.vr_model.specs.schedules.Weights.{runs, over_breaks}

-- the steps of one arc
abbrev pub arc_steps : Line → ℕ → ℕ
arc_steps line k = over_breaks line (λ b. runs (is_reached line k b) * (length line.breaks - b + 1))

-- the steps of the arcs from stop a on, up to stop e
abbrev pub steps_between : Line → ℕ → ℕ → ℕ
steps_between line a e = sum_by (arc_steps line) (from_to a e)

-- the steps of the join at stop e
abbrev pub join_steps : Line → ℕ → ℕ
join_steps line e = over_breaks line (λ b. runs (is_reached line e b) + runs (reaches_end line e b))
