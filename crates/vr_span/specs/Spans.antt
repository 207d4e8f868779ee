-- The least span of a line, and its schedule.
use Rattle.std.specs.Prelude.{◌≡◌, IsTrue, ℤ, Option}
use Rattle.std.specs.Option.{option_map}
use Rattle.vr_model.specs.tables.Numbers.{is_lex_le}
use Rattle.vr_model.specs.schedules.Lines.{Line as Defined}
use Rattle.vr_model.specs.schedules.Schedules.{Plan as Wanted, IsLeastSpan, IsSchedule, span}
use Rattle.vr_model.specs.schedules.Choices.{chosen}
use Rattle.vr_model.specs.schedules.Narrowed.{between}
use Rattle.vr_steps.specs.declared.lines.Line.{Line}
use Rattle.vr_steps.specs.Lines.{IsLineOf}
use Rattle.vr_plan.specs.declared.plans.Plan.{Plan}
use Rattle.vr_plan.specs.Plans.{as_defined}
use Rattle.vr_span.specs.declared.least.Least.{Least}

-- the plan is a schedule of the line, and its span is the one beside it. The span is the cumul of the end less that of
-- the start
pub record HasItsSpan (line : Defined) (least : Least) : Type 0 where
  pub schedule : IsSchedule line (as_defined least.plan)
  pub span_is : span line (as_defined least.plan) ≡ least.span

-- no schedule of the span has cumuls that come before those of the plan, compared from the start on
abbrev pub IsFirstOfSpan : Defined → Least → Type 0
IsFirstOfSpan line least = (other : Wanted) → IsSchedule line other → span line other ≡ least.span
    → IsTrue (is_lex_le least.plan.cumuls other.cumuls)

-- reached: the span is that of the plan, and this is a schedule of the line
abbrev pub IsReachedSpan : Line → Least → Type 0
IsReachedSpan line least = (defined : Defined) → IsLineOf defined line → HasItsSpan defined least

-- least: some schedule of the line has the span, and none a lesser one
abbrev pub IsLeastSpanOf : Line → Least → Type 0
IsLeastSpanOf line least = (defined : Defined) → IsLineOf defined line → IsLeastSpan defined least.span

-- first: of all schedules of the span the plan has the least cumuls, compared from the start on
abbrev pub IsFirstPlan : Line → Least → Type 0
IsFirstPlan line least = (defined : Defined) → IsLineOf defined line → IsFirstOfSpan defined least

-- the plan is the chosen schedule of the line whose start allows s alone and whose end e
abbrev pub IsChosenBetween : Line → ℤ → ℤ → Option Plan → Type 0
IsChosenBetween line s e found =
    (defined : Defined) → IsLineOf defined line → option_map as_defined found ≡ chosen (between defined s e)
