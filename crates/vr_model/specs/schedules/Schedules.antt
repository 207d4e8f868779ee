-- Schedules of a line, the sets that propagation reaches, and the chosen schedule.
use Rattle.std.specs.Prelude.{◌≡◌, ℕ, suc, ◌<◌, Bool, true, false, cond, ◌&&◌, ◌⊎◌, IsTrue, List, ◌++◌, length, take}
use Rattle.std.specs.Prelude.{drop, ℤ, pos, ◌+ℤ◌, ◌-ℤ◌, ◌≤ℤ◌, int_le, slice_index_or, EachIndex}
use Rattle.vr_model.specs.tables.Numbers.{number_at, total_by, below, within, horizon, is_lex_le}
use Rattle.vr_model.specs.schedules.Lines.{Arc, Line}
use Rattle.vr_model.specs.declared.records.BreakRow.{BreakRow}

-- a plan: a cumul for each stop, a slack for each arc, a start for each break
pub record Plan : Type 0 where
  pub cumuls : List ℤ
  pub slacks : List ℤ
  pub breaks : List ℤ

-- the cumul of stop k
abbrev pub cumul : Plan → ℕ → ℤ
cumul plan k = number_at plan.cumuls k

-- the slack of arc k
abbrev pub slack : Plan → ℕ → ℤ
slack plan k = number_at plan.slacks k

-- Stop k allows the cumul x, which lies in 0..=horizon. In the line of a well-formed model each allowed number does, as
-- no capacity is above the horizon. So each line has finitely many candidates for a schedule.
abbrev pub allows : Line → ℕ → ℤ → Bool
allows line k x = within (pos 0) horizon x && slice_index_or line.allowed k (λ _. false) x

abbrev pub no_arc : Arc
no_arc = record { transit = pos 0; visit = pos 0 }

-- arc k
abbrev pub arc_at : Line → ℕ → Arc
arc_at line k = slice_index_or line.arcs k no_arc

abbrev pub no_break : BreakRow
no_break = record { from = pos 0; to = pos 0; duration = pos 0 }

-- break i
abbrev pub break_at : Line → ℕ → BreakRow
break_at line i = slice_index_or line.breaks i no_break

-- the start of break i
abbrev pub break_start : Plan → ℕ → ℤ
break_start plan i = number_at plan.breaks i

-- the end of break i
abbrev pub break_end : Line → Plan → ℕ → ℤ
break_end line plan i = break_start plan i +ℤ (break_at line i).duration

-- break i ends at or before the first stop
abbrev pub is_before : Line → Plan → ℕ → Bool
is_before line plan i = int_le (break_end line plan i) (cumul plan 0)

-- break i starts at or after the last stop
abbrev pub is_after : Line → Plan → ℕ → Bool
is_after line plan i = int_le (cumul plan (length line.arcs)) (break_start plan i)

-- Break i lies inside arc k. It starts no earlier than the visit at the arc's start ends, and ends no later than the
-- cumul at the arc's end.
abbrev pub is_inside : Line → Plan → ℕ → ℕ → Bool
is_inside line plan i k =
    int_le (cumul plan k +ℤ (arc_at line k).visit) (break_start plan i)
    && int_le (break_end line plan i) (cumul plan (suc k))

-- the durations of the breaks inside arc k, added up
abbrev pub break_time : Line → Plan → ℕ → ℤ
break_time line plan k =
    total_by (λ i. cond (is_inside line plan i k) (break_at line i).duration (pos 0)) (below (length line.breaks))

-- on which sides of the arcs breaks may lie too: before the first stop, and after the last one
pub record Sides : Type 0 where
  pub may_precede : Bool
  pub may_follow : Bool

abbrev pub sides : Bool → Bool → Sides
sides may_precede may_follow = record { may_precede = may_precede; may_follow = may_follow }

abbrev pub both_sides : Sides
both_sides = sides true true

abbrev pub before_only : Sides
before_only = sides true false

abbrev pub after_only : Sides
after_only = sides false true

abbrev pub no_side : Sides
no_side = sides false false

-- The rules of a schedule. The cumul of each stop is allowed. The slack of each arc is what the cumuls leave, is in
-- 0..=slack_max, and is enough for the breaks inside it. The start of each break is in range, and it ends no later than
-- the next one starts. It lies inside an arc, or on a side that `where_else` allows: before the first stop, or after
-- the last one.
pub record KeepsRules (where_else : Sides) (line : Line) (plan : Plan) : Type 0 where
  pub cumul_of_each_stop : length plan.cumuls ≡ length line.allowed
  pub slack_of_each_arc : length plan.slacks ≡ length line.arcs
  pub start_of_each_break : length plan.breaks ≡ length line.breaks
  pub cumuls_allowed : EachIndex line.allowed (λ k. IsTrue (allows line k (cumul plan k)))
  pub slacks_left : EachIndex line.arcs (λ k. slack plan k
      ≡ (cumul plan (suc k) -ℤ cumul plan k) -ℤ (arc_at line k).transit)
  pub slacks_bounded : EachIndex line.arcs (λ k. (pos 0 ≤ℤ slack plan k) × (slack plan k ≤ℤ line.slack_max))
  pub breaks_in_range : EachIndex line.breaks (λ i. ((break_at line i).from ≤ℤ break_start plan i)
      × (break_start plan i ≤ℤ (break_at line i).to))
  pub breaks_in_order : (i : ℕ) → suc i < length line.breaks → break_end line plan i ≤ℤ break_start plan (suc i)
  pub breaks_placed : EachIndex line.breaks (λ i. IsTrue (where_else.may_precede && is_before line plan i)
      ⊎ IsTrue (where_else.may_follow && is_after line plan i)
      ⊎ (k : ℕ) × (k < length line.arcs) × IsTrue (is_inside line plan i k))
  pub slacks_carry_breaks : EachIndex line.arcs (λ k. break_time line plan k ≤ℤ slack plan k)

-- a schedule of a line: all the rules hold, and breaks may lie on both sides
abbrev pub IsSchedule : Line → Plan → Type 0
IsSchedule line plan = KeepsRules both_sides line plan

-- a line is feasible if it has a schedule
abbrev pub IsFeasible : Line → Type 0
IsFeasible line = (plan : Plan) × IsSchedule line plan

-- the stops of a line up to k, with its first b breaks
abbrev pub front : Line → ℕ → ℕ → Line
front line k b = record {
  allowed = take (suc k) line.allowed;
  arcs = take k line.arcs;
  slack_max = line.slack_max;
  breaks = take b line.breaks;
}

-- the stops of a line from k on, with the breaks after the first b
abbrev pub back : Line → ℕ → ℕ → Line
back line k b = record {
  allowed = drop k line.allowed;
  arcs = drop k line.arcs;
  slack_max = line.slack_max;
  breaks = drop b line.breaks;
}

-- Stop k is reached at x with the first b breaks taken: some plan of the stops up to k has the cumul x there. Each of
-- these breaks ends at or before the first stop, or lies inside an arc before stop k.
abbrev pub IsReached : Line → ℕ → ℕ → ℤ → Type 0
IsReached line k b x = (plan : Plan) × KeepsRules before_only (front line k b) plan × (cumul plan k ≡ x)

-- The end is reached from x at stop k with the breaks after the first b taken. Some plan of the stops from k on has the
-- cumul x at stop k. Each of these breaks lies inside an arc from stop k on, or starts at or after the last stop.
abbrev pub ReachesEnd : Line → ℕ → ℕ → ℤ → Type 0
ReachesEnd line k b x = (plan : Plan) × KeepsRules after_only (back line k b) plan × (cumul plan 0 ≡ x)

-- a plan comes no later than another: by its cumuls from the start on, among equal cumuls by its break starts in order
abbrev pub is_no_later : Plan → Plan → Bool
is_no_later plan other = is_lex_le (plan.cumuls ++ plan.breaks) (other.cumuls ++ other.breaks)

-- the chosen schedule: the least of all
pub record IsChosen (line : Line) (plan : Plan) : Type 0 where
  pub schedule : IsSchedule line plan
  pub least : (other : Plan) → IsSchedule line other → IsTrue (is_no_later plan other)

-- the span of a plan: the cumul of the end less that of the start
abbrev pub span : Line → Plan → ℤ
span line plan = cumul plan (length line.arcs) -ℤ cumul plan 0

-- the least span of a line: some schedule has it, and none has a lesser one
pub record IsLeastSpan (line : Line) (w : ℤ) : Type 0 where
  pub reached : (plan : Plan) × IsSchedule line plan × (span line plan ≡ w)
  pub least : (other : Plan) → IsSchedule line other → w ≤ℤ span line other
