-- Walks without a break on the way, of a vehicle that has some.
use Rattle.std.specs.Prelude.{ℕ, zero, suc, ◌+◌, ◌-◌, ◌≤◌, Bool, ◌&&◌, IsTrue, List, length, ℤ, pos, ◌-ℤ◌}
use Rattle.vr_spans.specs.declared.runs.Run.{Run}
use Rattle.vr_spans.specs.Runs.{has}
use Rattle.vr_model.specs.tables.WellFormed.{IsIn}
use Rattle.vr_model.specs.schedules.Lines.{Line, line}
use Rattle.vr_model.specs.schedules.Schedules.{IsReached, ReachesEnd, allows, arc_at}
use Rattle.vr_model.specs.declared.records.Model.{Model}
use Rattle.vr_steps.specs.declared.stops.StopName.TheVariants.{End}
use Rattle.vr_steps.specs.Levels.{level_at}
use Rattle.vr_steps.specs.Stops.{allowed_by}
use Rattle.vr_reach.specs.Singles.{is_run}
use Rattle.vr_reach.specs.VisitRuns.{is_one_run}

-- cumul y of stop k + 1 follows cumul x of stop k, with no break between them
pub record Follows (line : Line) (k : ℕ) (x y : ℤ) : Type 0 where
  pub allowed : IsTrue (allows line (suc k) y)
  pub slack : IsIn (pos 0) line.slack_max ((y -ℤ x) -ℤ (arc_at line k).transit)

-- cumul y of stop k + n is led to from a cumul of a set at stop k, with no break on the way
abbrev pub IsLedToWithoutBreaks : Line → (ℤ → Bool) → ℕ → ℕ → ℤ → Type 0
IsLedToWithoutBreaks line set k zero y = IsTrue (set y)
IsLedToWithoutBreaks line set k (suc n) y = (x : ℤ) × IsLedToWithoutBreaks line set k n x × Follows line (k + n) x y

-- with b breaks taken one run is all that there is at stop a. It leads without a break to a cumul of stop e from which
-- the end is reached with as many
pub record GoesAlone (line : Line) (from to : List (List Run)) (a e b : ℕ) : Type 0 where
  pub one : IsTrue (is_run (level_at from b))
  pub cumul : ℤ
  pub led : IsLedToWithoutBreaks line (has (level_at from b)) a (e - a) cumul
  pub reaches : IsTrue (has (level_at to b) cumul)

-- no walk without a break tells. Some cumul of stop e that is reached with no break taken is one from which the end is
-- reached with all of them taken. And with no number of breaks does such a walk go all the way
pub record IsUndecided (line : Line) (from to : List (List Run)) (a e : ℕ) : Type 0 where
  pub cumul : ℤ
  pub reached : IsReached line e 0 cumul
  pub reaches : ReachesEnd line e (length line.breaks) cumul
  pub none : (b : ℕ) → b ≤ length line.breaks → GoesAlone line from to a e b → ⊥

-- walks without a break are tried. The end of the vehicle allows one run at most, and with no break taken one run is
-- all that there is
abbrev pub may_go_alone : Model → ℕ → ℕ → List (List Run) → Bool
may_go_alone model d v from = is_one_run (allowed_by model d v End) && is_run (level_at from 0)
