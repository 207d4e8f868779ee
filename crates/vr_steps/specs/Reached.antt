-- How levels of sets agree with what a line reaches: the laws of arcs in a line, as statements.
use Rattle.std.specs.Prelude.{◌≡◌, ℕ, suc, ◌<◌, ◌≤◌, ◌↔◌, false, IsTrue, List, [], length, drop, slice_index_or, ℤ}
use Rattle.vr_spans.specs.declared.runs.Run.{Run}
use Rattle.vr_spans.specs.Runs.{has, IsNormal}
use Rattle.vr_model.specs.schedules.Lines.{Line}
use Rattle.vr_model.specs.schedules.Schedules.{IsFeasible, IsReached, ReachesEnd, arc_at, allows}
use Rattle.vr_model.specs.schedules.SoundLines.{IsSound}
use Rattle.vr_model.specs.schedules.Levels.{Crosses, FitAfter}
use Rattle.vr_model.specs.schedules.Weights.{runs}
use Rattle.vr_steps.specs.declared.hops.Hop.{Hop}
use Rattle.vr_steps.specs.declared.lines.Line.{Line as Made}
use Rattle.vr_steps.specs.Arcs.{Leads, breaks_between}
use Rattle.vr_steps.specs.Levels.{HasNumbers, IsCumuls, level_at, AreStartLevels, AreEndLevels, AreCrossed}
use Rattle.vr_steps.specs.Levels.{AreCrossedBack}
use Rattle.vr_steps.specs.Lines.{hop_of, defined_by, IsLineOf, IsSoundLine}

-- arc k of a line
abbrev pub hop_at : Line → ℕ → Hop
hop_at line k = hop_of line.slack_max (arc_at line k)

-- the set has the cumuls that stop k of a line allows
pub record IsAllowedSet (line : Line) (k : ℕ) (set : List Run) : Type 0 where
  pub exact : HasNumbers (slice_index_or line.allowed k (λ _. false)) set
  pub cumuls : IsCumuls set

-- the levels have, for each number of breaks taken, the cumuls that are reached at stop k
abbrev pub AreReached : Line → ℕ → List (List Run) → Type 0
AreReached line k levels = (b : ℕ) → b ≤ length line.breaks → (x : ℤ) → IsTrue (has (level_at levels b) x)
    ↔ IsReached line k b x

-- the levels have, for each number of breaks taken, the cumuls of stop k from which the end is reached
abbrev pub AreReachingEnd : Line → ℕ → List (List Run) → Type 0
AreReachingEnd line k levels = (b : ℕ) → b ≤ length line.breaks → (x : ℤ) → IsTrue (has (level_at levels b) x)
    ↔ ReachesEnd line k b x

-- what a line as the code holds it gives at each place is that of the line of the definition, which is sound
pub record StandsFor (defined : Line) (made : Made) : Type 0 where
  pub allowed : (k : ℕ) → k < length made.allowed → IsAllowedSet defined k (slice_index_or made.allowed k [])
  pub hops : (k : ℕ) (d : Hop) → k < length made.hops → slice_index_or made.hops k d ≡ hop_at defined k
  pub arcs : length defined.arcs ≡ length made.hops
  pub breaks : defined.breaks ≡ made.breaks
  pub sound : IsSound defined

-- each sound line is that of a definition
abbrev pub SoundLinesAreDefined : Type 0
SoundLinesAreDefined = (made : Made) → IsSoundLine made → IsLineOf (defined_by made) made

-- a sound line that is that of a definition asks at each place what that one asks
abbrev pub LinesStandForTheirs : Type 0
LinesStandForTheirs = (defined : Line) (made : Made) → IsLineOf defined made → IsSoundLine made → StandsFor defined made

-- an arc of a line leads from one cumul to another exactly if its two stops allow them and the arc alone leads there
abbrev pub ArcAlone : Type 0
ArcAlone = (line : Line) → IsSound line → (k a b : ℕ) → k < length line.arcs → (y x : ℤ)
    → Crosses line k a b y x ↔ (IsTrue (allows line k y) × IsTrue (allows line (suc k) x)
    × Leads (hop_at line k) (breaks_between line.breaks a b) y x)

-- the levels of a start are what is reached at the first stop
abbrev pub StartIsReached : Type 0
StartIsReached = (line : Line) → IsSound line → (set : List Run) (levels : List (List Run))
    → IsAllowedSet line 0 set → AreStartLevels set line.breaks levels → AreReached line 0 levels

-- the levels after an arc are what is reached at its end, if those before it are what is reached at its begin
abbrev pub ReachedBehindArc : Type 0
ReachedBehindArc = (line : Line) → IsSound line → (k : ℕ) → k < length line.arcs
    → (set : List Run) (from reached : List (List Run))
    → IsAllowedSet line (suc k) set → AreReached line k from → AreCrossed from (hop_at line k) set line.breaks reached
    → AreReached line (suc k) reached

-- the levels of an end are what the end is reached from at the last stop
abbrev pub EndIsReached : Type 0
EndIsReached = (line : Line) → IsSound line → (set : List Run) (levels : List (List Run))
    → IsAllowedSet line (length line.arcs) set → AreEndLevels set line.breaks levels
    → AreReachingEnd line (length line.arcs) levels

-- the levels before an arc are what the end is reached from at its begin, if those after it are so at its end
abbrev pub EndReachedBeforeArc : Type 0
EndReachedBeforeArc = (line : Line) → IsSound line → (k : ℕ) → k < length line.arcs
    → (set : List Run) (to reached : List (List Run))
    → IsAllowedSet line k set → AreReachingEnd line (suc k) to
    → AreCrossedBack to (hop_at line k) set line.breaks reached → AreReachingEnd line k reached

-- at any stop, a line is feasible exactly if both levels of some number of breaks share a cumul there
abbrev pub FeasibleWhereShared : Type 0
FeasibleWhereShared = (line : Line) → IsSound line → (k : ℕ) → k ≤ length line.arcs → (from to : List (List Run))
    → AreReached line k from → AreReachingEnd line k to
    → IsFeasible line ↔ ((b : ℕ) × (b ≤ length line.breaks) × (x : ℤ) × IsTrue (has (level_at from b) x)
    × IsTrue (has (level_at to b) x))

-- a line is feasible exactly if, with some number of breaks taken, the others fit after a cumul that is reached at the
-- last stop
abbrev pub FeasibleAtEnd : Type 0
FeasibleAtEnd = (line : Line) → IsSound line → (levels : List (List Run)) → AreReached line (length line.arcs) levels
    → IsFeasible line ↔ ((b : ℕ) × (b ≤ length line.breaks) × (x : ℤ) × IsTrue (has (level_at levels b) x)
    × FitAfter (drop b line.breaks) x)

-- a set of cumuls has as many runs as the definitions count
abbrev pub RunsAreCounted : Type 0
RunsAreCounted = (set : List Run) → IsNormal set → IsCumuls set → runs (has set) ≡ length set
