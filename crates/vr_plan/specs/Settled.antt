-- Cumuls that are settled stop by stop.
use Rattle.std.specs.Prelude.{◌≡◌, ℕ, suc, ◌≤◌, ◌&&◌, Bool, true, List, length, drop, All, ℤ, pos}
use Rattle.vr_spans.specs.declared.runs.Run.{Run}
use Rattle.vr_spans.specs.Runs.{has}
use Rattle.vr_model.specs.tables.Numbers.{number_at, is_same_number, horizon}
use Rattle.vr_model.specs.tables.WellFormed.{IsIn}
use Rattle.vr_model.specs.schedules.Lines.{Line as Defined}
use Rattle.vr_model.specs.schedules.Schedules.{Plan, IsSchedule, IsChosen, IsFeasible, cumul}
use Rattle.vr_model.specs.schedules.SoundLines.{IsSound}
use Rattle.vr_steps.specs.declared.lines.Line.{Line}
use Rattle.vr_steps.specs.Lines.{IsLineOf}
use Rattle.vr_steps.specs.Reached.{AreReached}

-- the set has x alone, if the other has it
abbrev pub IsOnly : List Run → ℤ → List Run → Type 0
IsOnly allowed x only = (y : ℤ) → has only y ≡ (has allowed y && is_same_number x y)

-- the line has no schedule
abbrev pub IsUnfeasible : Line → Type 0
IsUnfeasible line = (defined : Defined) → IsLineOf defined line → IsFeasible defined → ⊥

-- P holds if it goes on
abbrev pub Goes : Type 0 → Bool → Type 0
Goes P goes = goes ≡ true → P

-- A line that differs in the stops up to k alone. Each of its schedules has the settled cumuls. It is sound and
-- feasible, what is chosen of it is chosen of the line, and the levels are what it reaches at stop k.
pub record IsNarrowed (defined : Defined) (k : ℕ) (cumuls : List ℤ) (here : List (List Run)) (narrow : Defined)
    : Type 0 where
  pub sound : IsSound narrow
  pub arcs : narrow.arcs ≡ defined.arcs
  pub slack : narrow.slack_max ≡ defined.slack_max
  pub breaks : narrow.breaks ≡ defined.breaks
  pub stops : length narrow.allowed ≡ length defined.allowed
  pub rest : drop (suc k) narrow.allowed ≡ drop (suc k) defined.allowed
  pub feasible : IsFeasible narrow
  pub chosen : (plan : Plan) → IsChosen narrow plan → IsChosen defined plan
  pub settled : (plan : Plan) → IsSchedule narrow plan → (i : ℕ) → i ≤ k → cumul plan i ≡ number_at cumuls i
  pub reached : AreReached narrow k here

-- the cumuls up to stop k are those of the chosen schedule, and the levels are what stop k is reached at with them
pub record IsSettled (line : Line) (k : ℕ) (cumuls : List ℤ) (here : List (List Run)) : Type 0 where
  pub cumul_of_each : length cumuls ≡ suc k
  pub in_range : All (IsIn (pos 0) horizon) cumuls
  pub narrowed : (defined : Defined) → IsLineOf defined line → (narrow : Defined)
      × IsNarrowed defined k cumuls here narrow

-- these are the cumuls of the chosen schedule, one for each stop
pub record HaveChosenCumuls (line : Line) (cumuls : List ℤ) : Type 0 where
  pub cumul_of_each_stop : length cumuls ≡ length line.allowed
  pub in_range : All (IsIn (pos 0) horizon) cumuls
  pub chosen : (defined : Defined) → IsLineOf defined line → (plan : Plan) × IsChosen defined plan
      × (plan.cumuls ≡ cumuls)
