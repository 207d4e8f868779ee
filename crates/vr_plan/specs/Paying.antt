-- When schedules of a list cost nothing.
use Rattle.std.specs.Prelude.{◌≡◌, ℕ, Bool, false, not, ◌&&◌, ◌||◌, List, ℤ, pos, Option, Some, None, is_some}
use Rattle.std.specs.List.{list_all, list_any}
use Rattle.std.specs.Ordering.{int_eq}
use Rattle.vr_model.specs.tables.Numbers.{number_at}
use Rattle.vr_model.specs.tables.Tables.{row_of}
use Rattle.vr_model.specs.declared.records.Dimension.{Dimension}
use Rattle.vr_model.specs.declared.records.StopRow.{StopRow}
use Rattle.vr_plan.specs.Timings.{soft_of}

-- the row of a stop has a soft upper bound
abbrev pub has_soft : Option StopRow → Bool
has_soft None = false
has_soft (Some row) = is_some row.soft

-- some visit of a list has a soft upper bound
abbrev pub visits_soft : Dimension → List ℕ → Bool
visits_soft dimension list = list_any (λ node. has_soft (row_of dimension.nodes node)) list

-- schedules of a list may cost something by themselves. The span of vehicle v has a coefficient, or some stop of the
-- list has a soft upper bound
abbrev pub may_pay_alone : Dimension → ℕ → List ℕ → Bool
may_pay_alone dimension v list = not (int_eq (number_at dimension.span_costs v) (pos 0))
    || has_soft (row_of dimension.starts v) || has_soft (row_of dimension.ends v) || visits_soft dimension list

-- all coefficients are 0
abbrev pub are_zero : List ℤ → Bool
are_zero coefficients = list_all (λ coefficient. int_eq coefficient (pos 0)) coefficients

-- no row of stops has a soft upper bound
abbrev pub are_hard : List StopRow → Bool
are_hard rows = list_all (λ row. not (is_some row.soft)) rows

-- no stop of a dimension has a soft upper bound
abbrev pub is_hard : Dimension → Bool
is_hard dimension = are_hard dimension.starts && are_hard dimension.nodes && are_hard dimension.ends

-- no span of a vehicle has a coefficient, and no stop has a soft upper bound
abbrev pub is_free : Dimension → Bool
is_free dimension = are_zero dimension.span_costs && is_hard dimension

-- no list of any vehicle costs anything by soft upper bounds in a dimension, whatever its cumuls are
abbrev pub CostsNoSoft : Dimension → Type 0
CostsNoSoft dimension = (v : ℕ) (list : List ℕ) (cumuls : List ℤ) → soft_of dimension v list cumuls ≡ pos 0

-- no schedule of the list costs anything by itself in this dimension
pub record PaysNothing (dimension : Dimension) (v : ℕ) (list : List ℕ) : Type 0 where
  pub span : number_at dimension.span_costs v ≡ pos 0
  pub soft : (cumuls : List ℤ) → soft_of dimension v list cumuls ≡ pos 0
