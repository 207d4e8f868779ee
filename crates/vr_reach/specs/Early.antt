-- The earliest cumuls along a line, each the least that the one before it leaves.
use Rattle.std.specs.Prelude.{◌≡◌, ℕ, suc, ◌<◌, ◌≤◌, Bool, ◌&&◌, IsTrue, List, length, ℤ, pos, ◌+ℤ◌, ◌-ℤ◌, ◌≤ℤ◌, int_le}
use Rattle.std.specs.Prelude.{Some}
use Rattle.std.specs.Int.{int_max}
use Rattle.vr_spans.specs.declared.runs.Run.{Run}
use Rattle.vr_model.specs.tables.Numbers.{number_at}
use Rattle.vr_model.specs.tables.WellFormed.{IsIn}
use Rattle.vr_model.specs.schedules.Lines.{Line, line}
use Rattle.vr_model.specs.schedules.Schedules.{Plan, IsSchedule, allows, arc_at, cumul}
use Rattle.vr_model.specs.schedules.Choices.{chosen}
use Rattle.vr_model.specs.declared.records.Model.{Model}
use Rattle.vr_reach.specs.VisitRuns.{have_stops_one_run}

-- the slack that cumuls leave on arc k
abbrev pub slack_left : Line → List ℤ → ℕ → ℤ
slack_left line cumuls k = (number_at cumuls (suc k) -ℤ number_at cumuls k) -ℤ (arc_at line k).transit

-- cumuls of the stops up to k, none of which can be earlier. Each is allowed, each arc leaves a slack within its
-- bounds, and no schedule has an earlier one at any of these stops
pub record AreEarly (line : Line) (k : ℕ) (cumuls : List ℤ) : Type 0 where
  pub many : length cumuls ≡ suc k
  pub allowed : (i : ℕ) → i ≤ k → IsTrue (allows line i (number_at cumuls i))
  pub slacks : (i : ℕ) → i < k → IsIn (pos 0) line.slack_max (slack_left line cumuls i)
  pub least : (plan : Plan) → IsSchedule line plan → (i : ℕ) → i ≤ k → number_at cumuls i ≤ℤ cumul plan i

-- the least cumul of a stop after an arc that takes t, and at most s more, from a cumul
pub record IsEarliestBehind (cumul t s : ℤ) (allowed : Run) (next : ℤ) : Type 0 where
  pub least : next ≡ int_max (cumul +ℤ t) allowed.lo
  pub most : next ≤ℤ allowed.hi
  pub slack : (next -ℤ (cumul +ℤ t)) ≤ℤ s

-- whether there is such a cumul. The earliest that the stop allows from there on is no later than its latest, and
-- leaves no greater slack
abbrev pub has_cumul_behind : ℤ → ℤ → ℤ → Run → Bool
has_cumul_behind cumul t s allowed = let next = int_max (cumul +ℤ t) allowed.lo in
    int_le next allowed.hi && int_le (next -ℤ (cumul +ℤ t)) s

-- x is the earliest cumul that passes the test
pub record IsEarliestPassing (test : ℤ → Bool) (x : ℤ) : Type 0 where
  pub passes : IsTrue (test x)
  pub least : (y : ℤ) → IsTrue (test y) → x ≤ℤ y

-- whether stop k + 1 allows a cumul that is no less than x and what arc k takes
abbrev pub allows_from : Line → ℕ → ℤ → ℤ → Bool
allows_from line k x y = allows line (suc k) y && int_le (x +ℤ (arc_at line k).transit) y

-- cumuls of the stops up to k, found stop by stop. The first is the earliest that the start allows. Each next one is
-- the earliest that its stop allows after the one before, with no slack greater than it may be
pub record AreFoundInTurn (line : Line) (k : ℕ) (cumuls : List ℤ) : Type 0 where
  pub many : length cumuls ≡ suc k
  pub start : IsEarliestPassing (allows line 0) (number_at cumuls 0)
  pub next : (i : ℕ) → i < k → IsEarliestPassing (allows_from line i (number_at cumuls i)) (number_at cumuls (suc i))
  pub slacks : (i : ℕ) → i < k → slack_left line cumuls i ≤ℤ line.slack_max

-- cumuls of a list of vehicle v can be found so. The vehicle has no breaks in dimension d, no stop allows it more than
-- one run of cumuls, and there are such cumuls
pub record CanBeFoundInTurn (model : Model) (d v : ℕ) (list : List ℕ) : Type 0 where
  pub runs : IsTrue (have_stops_one_run model d v)
  pub cumuls : List ℤ
  pub found : AreFoundInTurn (line model d v list) (suc (length list)) cumuls

-- the cumuls of the chosen schedule of a line, which has one
pub record AreChosen (line : Line) (cumuls : List ℤ) : Type 0 where
  pub plan : Plan
  pub is_chosen : chosen line ≡ Some plan
  pub of_plan : plan.cumuls ≡ cumuls
