-- The laws of reach sets of sound lines, as statements. A stop has a level (label set) for each number of breaks taken:
-- the cumuls that are reached there. It has another backwards: the cumuls from which the end is reached with the other
-- breaks.
use Rattle.std.specs.Prelude.{◌≡◌, ℕ, suc, ◌<◌, ◌≤◌, ◌↔◌, IsTrue, List, length, take, drop, ℤ, ◌+ℤ◌, ◌≤ℤ◌, EachIndex}
use Rattle.std.specs.Prelude.{slice_index_or}
use Rattle.vr_model.specs.tables.Numbers.{number_at}
use Rattle.vr_model.specs.schedules.Lines.{Line}
use Rattle.vr_model.specs.schedules.Schedules.{Plan, no_side, KeepsRules, IsFeasible, IsSchedule, IsReached, ReachesEnd}
use Rattle.vr_model.specs.schedules.Schedules.{front, back, cumul, allows, no_break}
use Rattle.vr_model.specs.schedules.SoundLines.{IsSound}
use Rattle.vr_model.specs.declared.records.BreakRow.{BreakRow}

-- some cumul of stop k is reached with some number of breaks taken, and the end is reached from it with the others
abbrev pub LevelsMeet : Line → ℕ → Type 0
LevelsMeet line k = (b : ℕ) × (b ≤ length line.breaks) × (x : ℤ) × IsReached line k b x × ReachesEnd line k b x

-- a sound line is feasible exactly if the levels of a stop meet, at any stop
abbrev pub FeasibleWhereLevelsMeet : Type 0
FeasibleWhereLevelsMeet =
    (line : Line) → IsSound line → (k : ℕ) → k ≤ length line.arcs → IsFeasible line ↔ LevelsMeet line k

-- some schedule has the cumul x at stop k
abbrev pub HasCumul : Line → ℕ → ℤ → Type 0
HasCumul line k x = (plan : Plan) × IsSchedule line plan × (cumul plan k ≡ x)

-- the levels of stop k meet at x
abbrev pub LevelsMeetAt : Line → ℕ → ℤ → Type 0
LevelsMeetAt line k x = (b : ℕ) × (b ≤ length line.breaks) × IsReached line k b x × ReachesEnd line k b x

-- some schedule of a sound line has the cumul x at a stop exactly if the levels of the stop meet at x
abbrev pub CumulWhereLevelsMeet : Type 0
CumulWhereLevelsMeet =
    (line : Line) → IsSound line → (k : ℕ) → k ≤ length line.arcs → (x : ℤ) → HasCumul line k x ↔ LevelsMeetAt line k x

-- Arc k leads from the cumul y to the cumul x, with the breaks from number a on, below number b, inside it. So a label
-- is extended along an arc (resource extension function).
abbrev pub Crosses : Line → ℕ → ℕ → ℕ → ℤ → ℤ → Type 0
Crosses line k a b y x =
    (plan : Plan) × KeepsRules no_side (back (front line (suc k) b) k a) plan × (cumul plan 0 ≡ y) × (cumul plan 1 ≡ x)

-- what is reached at the next stop is what arc k leads to from a cumul that is reached with some of the breaks
abbrev pub ReachedByCrossing : Type 0
ReachedByCrossing =
    (line : Line) → IsSound line → (k b : ℕ) → suc k ≤ length line.arcs → b ≤ length line.breaks → (x : ℤ)
    → IsReached line (suc k) b x ↔ (a : ℕ) × (a ≤ b) × (y : ℤ) × IsReached line k a y × Crosses line k a b y x

-- The end is reached from what arc k leads from, to a cumul of the next stop. From that the end is reached with the
-- breaks that are left.
abbrev pub EndReachedByCrossing : Type 0
EndReachedByCrossing =
    (line : Line) → IsSound line → (k a : ℕ) → suc k ≤ length line.arcs → a ≤ length line.breaks → (y : ℤ)
    → ReachesEnd line k a y ↔ (b : ℕ) × (a ≤ b) × (b ≤ length line.breaks) × (x : ℤ) × Crosses line k a b y x
    × ReachesEnd line (suc k) b x

-- break starts in range and in order
pub record AreStarts (rows : List BreakRow) (starts : List ℤ) : Type 0 where
  pub one_of_each : length starts ≡ length rows
  pub in_range : EachIndex rows (λ i. ((slice_index_or rows i no_break).from ≤ℤ number_at starts i)
      × (number_at starts i ≤ℤ (slice_index_or rows i no_break).to))
  pub in_order : (i : ℕ) → suc i < length rows
      → (number_at starts i +ℤ (slice_index_or rows i no_break).duration) ≤ℤ number_at starts (suc i)

-- all the breaks can be taken before x
abbrev pub FitBefore : List BreakRow → ℤ → Type 0
FitBefore rows x =
    (starts : List ℤ) × AreStarts rows starts
    × EachIndex rows (λ i. (number_at starts i +ℤ (slice_index_or rows i no_break).duration) ≤ℤ x)

-- all the breaks can be taken after x
abbrev pub FitAfter : List BreakRow → ℤ → Type 0
FitAfter rows x = (starts : List ℤ) × AreStarts rows starts × EachIndex rows (λ i. x ≤ℤ number_at starts i)

-- the first stop is reached at what it allows, if the first b breaks can be taken before
abbrev pub ReachedAtStart : Type 0
ReachedAtStart = (line : Line) → IsSound line → (b : ℕ) → b ≤ length line.breaks → (x : ℤ)
    → IsReached line 0 b x ↔ IsTrue (allows line 0 x) × FitBefore (take b line.breaks) x

-- the end is reached at what the last stop allows, if the breaks after the first b can be taken after
abbrev pub ReachedAtEnd : Type 0
ReachedAtEnd = (line : Line) → IsSound line → (b : ℕ) → b ≤ length line.breaks → (x : ℤ)
    → ReachesEnd line (length line.arcs) b x ↔ IsTrue (allows line (length line.arcs) x)
    × FitAfter (drop b line.breaks) x
