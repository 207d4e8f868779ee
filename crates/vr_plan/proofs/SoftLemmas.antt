-- What cumuls cost by soft bounds, stop by stop.
use Rattle.std.proofs.Common.{◌≡◌, ◌∙◌, ℕ, ◌+◌, ◌<◌, ◌≤◌, List, [], ◌∷◌, ◌++◌, length, drop, get_or, length-append, suc, Bool, ap, sym, arith}
use Rattle.std.specs.Prelude.{ℤ, pos, ◌+ℤ◌, map, Option, Some, None, option_map, unwrap_or}
use Rattle.std.specs.List.{zip}
use Rattle.std.proofs.lemmas.List.{drop_more, drop_all, length-map}
use Rattle.vr_model.specs.tables.Numbers.{total_by, number_at}
use Rattle.vr_model.specs.routes.Costs.{row_cost, no_plan}
use Rattle.vr_model.specs.declared.records.StopRow.{StopRow}
use Rattle.vr_model.specs.declared.records.Model.{Model}
use Rattle.vr_model.specs.declared.records.ScheduleRule.{ScheduleRule}
use Rattle.vr_model.specs.tables.Tables.{dimension_at, row_of, vehicle_at}
use Rattle.vr_model.specs.schedules.Lines.{line, stop_allows}
use Rattle.vr_model.specs.schedules.Narrowed.{chosen_under}
use Rattle.vr_model.specs.schedules.Schedules.{Plan as Wanted}
use Rattle.vr_plan.specs.Plans.{cumuls_of}
use Rattle.vr_plan.specs.Timings.{chosen_plan_of}

-- what the cumuls from stop k + 1 on cost
abbrev pub from_stop : (ℕ → Option StopRow) → Option StopRow → List ℕ → List ℤ → ℕ → ℤ
from_stop g last list cumuls k = total_by (λ stop. row_cost stop.0 stop.1) (zip (map g (drop k list) ++ last ∷ []) (drop (k + 1) cumuls))

pub soft-step : (g : ℕ → Option StopRow) (last : Option StopRow) (list : List ℕ) (cumuls : List ℤ) (k : ℕ) → k < length list → k + 1 < length cumuls
    → from_stop g last list cumuls k ≡ row_cost (g (get_or list k 0)) (number_at cumuls (k + 1)) +ℤ from_stop g last list cumuls (k + 1)
soft-step g last list cumuls k low within =
    ap (λ l. total_by (λ stop. row_cost stop.0 stop.1) (zip (map g l ++ last ∷ []) (drop (k + 1) cumuls))) (drop_more list k 0 low)
    ∙ ap (λ l. total_by (λ stop. row_cost stop.0 stop.1) (zip (g (get_or list k 0) ∷ (map g (drop (k + 1) list) ++ last ∷ [])) l))
    (drop_more cumuls (k + 1) (pos 0) within)

pub soft-end : (g : ℕ → Option StopRow) (last : Option StopRow) (list : List ℕ) (cumuls : List ℤ) (k : ℕ) → length list ≤ k → k + 1 < length cumuls
    → from_stop g last list cumuls k ≡ row_cost last (number_at cumuls (k + 1)) +ℤ pos 0
soft-end g last list cumuls k high within =
    ap (λ l. total_by (λ stop. row_cost stop.0 stop.1) (zip (map g l ++ last ∷ []) (drop (k + 1) cumuls))) (drop_all k list high)
    ∙ ap (λ l. total_by (λ stop. row_cost stop.0 stop.1) (zip (last ∷ []) l)) (drop_more cumuls (k + 1) (pos 0) within)

pub line-stops : (model : Model) (d v : ℕ) (list : List ℕ) → length (line model d v list).allowed ≡ suc (suc (length list))
line-stops model d v list =
    let f : ℕ → ℤ → Bool = λ node. stop_allows (number_at (dimension_at model d).capacities v) (row_of (dimension_at model d).nodes node) in
    let last : ℤ → Bool = stop_allows (number_at (dimension_at model d).capacities v) (row_of (dimension_at model d).ends v) in
    let a = length-append (map f list) (last ∷ []) in
    let b = length-map list f in
    let m : length (map f list ++ last ∷ []) ≡ suc (length list) = omega (arith, a, b) in
    ap suc m

-- the cumuls that were found are those of the plan
pub cumuls-seen : (plan : Option Wanted) (found : Option (List ℤ)) → found ≡ option_map cumuls_of plan → (unwrap_or plan no_plan).cumuls ≡ unwrap_or found []
cumuls-seen None found e = sym (ap (λ o. unwrap_or o []) e)
cumuls-seen (Some plan) found e = sym (ap (λ o. unwrap_or o []) e)

-- those that were chosen under the rule of the vehicle are those of its plan
pub plan-cumuls : (model : Model) (d v : ℕ) (list : List ℕ) (rule : ScheduleRule) (cumuls : List ℤ) → (vehicle_at model v).schedule ≡ rule
    → Some cumuls ≡ option_map cumuls_of (chosen_under rule (line model d v list)) → (chosen_plan_of model d v list).cumuls ≡ cumuls
plan-cumuls model d v list rule cumuls is found =
    ap (λ r. (unwrap_or (chosen_under r (line model d v list)) no_plan).cumuls) is ∙ cumuls-seen (chosen_under rule (line model d v list)) (Some cumuls) found

-- where none were chosen, its plan has none
pub no-cumuls : (model : Model) (d v : ℕ) (list : List ℕ) (rule : ScheduleRule) → (vehicle_at model v).schedule ≡ rule
    → None ≡ option_map cumuls_of (chosen_under rule (line model d v list)) → (chosen_plan_of model d v list).cumuls ≡ []
no-cumuls model d v list rule is found =
    ap (λ r. (unwrap_or (chosen_under r (line model d v list)) no_plan).cumuls) is ∙ cumuls-seen (chosen_under rule (line model d v list)) None found
