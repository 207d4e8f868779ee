-- Lines whose cumuls and break starts are put in.
use Rattle.std.specs.Prelude.{◌≡◌, ℕ, zero, suc, ◌<◌, nat_lt, ◌&&◌, Bool, true, if◌then◌else◌, List, [], ◌∷◌, length}
use Rattle.std.specs.Prelude.{set, slice_index_or, Option, Some, None, ℤ, pos, ◌+ℤ◌, ◌-ℤ◌, ◌≤ℤ◌, int_le, int_lt, IsTrue}
use Rattle.std.specs.Int.{int_max}
use Rattle.vr_spans.specs.declared.runs.Run.{Run}
use Rattle.vr_model.specs.tables.Numbers.{number_at, is_same_number}
use Rattle.vr_model.specs.schedules.Lines.{Line}
use Rattle.vr_model.specs.schedules.Schedules.{break_at, no_break, IsFeasible}
use Rattle.vr_model.specs.declared.records.BreakRow.{BreakRow}
use Rattle.vr_steps.specs.declared.lines.Line.{Line as Made}
use Rattle.vr_steps.specs.declared.hops.Hop.{Hop}
use Rattle.vr_steps.specs.Lines.{IsLineOf}
use Rattle.vr_plan.specs.Plans.{no_hop}
use Rattle.vr_plan.specs.Settled.{IsOnly}

-- each set has its cumul alone, if the set of its stop has it
pub record AreOnly (allowed : List (List Run)) (cumuls : List ℤ) (sets : List (List Run)) : Type 0 where
  pub one_of_each : length sets ≡ length allowed
  pub each : (k : ℕ) → k < length sets
      → IsOnly (slice_index_or allowed k []) (number_at cumuls k) (slice_index_or sets k [])

-- what stops allow that allow these cumuls alone
abbrev pub fixed_allowed : List (ℤ → Bool) → List ℤ → List (ℤ → Bool)
fixed_allowed [] cumuls = []
fixed_allowed (test ∷ tests) [] = test ∷ tests
fixed_allowed (test ∷ tests) (x ∷ cumuls) = (λ y. test y && is_same_number x y) ∷ fixed_allowed tests cumuls

-- the line whose stops allow these cumuls alone
abbrev pub fixed : Line → List ℤ → Line
fixed line cumuls = record line { allowed = fixed_allowed line.allowed cumuls }

-- the break that starts at x
abbrev pub at_start : BreakRow → ℤ → BreakRow
at_start row x = record { from = x; to = x; duration = row.duration }

-- the line whose break i starts at x
abbrev pub row_pinned : Line → ℕ → ℤ → Line
row_pinned line i x = record line { breaks = set line.breaks i (at_start (break_at line i) x) }

-- when a place of a break begins: before the first stop, inside arc k, or after the last stop
abbrev pub place_begin : List Hop → List ℤ → ℕ → ℤ
place_begin hops cumuls zero = pos 0
place_begin hops cumuls (suc k) =
    if nat_lt k (length hops) then number_at cumuls k +ℤ (slice_index_or hops k no_hop).visit
    else number_at cumuls (length hops)

-- the first start of a break in a place, and none before ready
abbrev pub first_at : List Hop → List ℤ → BreakRow → ℤ → ℕ → ℤ
first_at hops cumuls row ready place = int_max (int_max row.from ready) (place_begin hops cumuls place)

-- a start that was tried. It is there exactly if it is no later than `to` and the line has a schedule with it
abbrev pub IsTried : Line → ℕ → ℤ → ℤ → Option ℤ → Type 0
IsTried line i to first None = first ≤ℤ to → IsFeasible (row_pinned line i first) → ⊥
IsTried line i to first (Some x) = (x ≡ first) × (first ≤ℤ to) × IsFeasible (row_pinned line i first)

-- Whether a break of this length that starts at x may be in a place. Before the first stop it may if it ends by then.
-- Inside arc k it may if it ends by the end of the arc, whose slack is enough for it. After the last stop it may in any
-- case.
abbrev pub may_stand : List Hop → List ℤ → ℤ → ℤ → ℕ → Bool
may_stand hops cumuls long x zero = int_le (x +ℤ long) (number_at cumuls 0)
may_stand hops cumuls long x (suc k) =
    if nat_lt k (length hops) then int_le (x +ℤ long) (number_at cumuls (suc k))
    && int_le (number_at cumuls k +ℤ (slice_index_or hops k no_hop).transit) (number_at cumuls (suc k) -ℤ long)
    else true

-- a break may be in a place with its first start there
abbrev pub stands_at : List Hop → List ℤ → BreakRow → ℤ → ℕ → Bool
stands_at hops cumuls row ready place =
    may_stand hops cumuls row.duration (first_at hops cumuls row ready place) place

-- a start is earlier than the best so far, or the first
abbrev pub is_earlier : ℤ → Option ℤ → Bool
is_earlier x None = true
is_earlier x (Some best) = int_lt x best

-- the least of the first starts in the first n places, of those in which the break may be. It is no later than `to`,
-- and the line has a schedule with it
abbrev pub IsLeastTried : Line → ℕ → ℤ → (ℕ → ℤ) → (ℕ → Bool) → ℕ → Option ℤ → Type 0
IsLeastTried line i to firsts stands n None = (p : ℕ) → p < n → firsts p ≤ℤ to → IsTrue (stands p)
    → IsFeasible (row_pinned line i (firsts p)) → ⊥
IsLeastTried line i to firsts stands n (Some x) = ((p : ℕ) × (p < n) × (x ≡ firsts p)) × (x ≤ℤ to)
    × IsFeasible (row_pinned line i x)
    × ((p : ℕ) → p < n → firsts p ≤ℤ to → IsTrue (stands p) → IsFeasible (row_pinned line i (firsts p)) → x ≤ℤ firsts p)

-- the least start of break i in the first n places, and none before ready. The line, as the code holds it, has a
-- schedule with it
abbrev pub IsLeastOf : Made → List ℤ → ℕ → ℤ → ℕ → Option ℤ → Type 0
IsLeastOf line cumuls i ready n best = (defined : Line) → IsLineOf defined line →
    IsLeastTried defined i (slice_index_or line.breaks i no_break).to
    (first_at line.hops cumuls (slice_index_or line.breaks i no_break) ready)
    (stands_at line.hops cumuls (slice_index_or line.breaks i no_break) ready) n best

-- the least start of break i in all places, and none before ready. The line, as the code holds it, has a schedule with
-- it
abbrev pub IsLeastStart : Made → List ℤ → ℕ → ℤ → Option ℤ → Type 0
IsLeastStart line cumuls i ready best = IsLeastOf line cumuls i ready (suc (length cumuls)) best

-- the break may start at x
pub record IsStartOf (row : BreakRow) (x : ℤ) : Type 0 where
  pub from : row.from ≤ℤ x
  pub to : x ≤ℤ row.to

-- the line as the code holds it whose break i starts at x
abbrev pub with_start : Made → ℕ → ℤ → Made
with_start line i x = record {
  allowed = line.allowed;
  hops = line.hops;
  breaks = set line.breaks i (at_start (slice_index_or line.breaks i no_break) x);
}
