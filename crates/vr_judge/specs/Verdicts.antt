-- The verdict on a change of lists.
use Rattle.std.specs.Prelude.{ℕ, cond, List, ◌-ℤ◌}
use Rattle.vr_model.specs.routes.Costs.{cost}
use Rattle.vr_model.specs.routes.Rules.{is_valid}
use Rattle.vr_model.specs.declared.records.Model.{Model}
use Rattle.vr_routes.specs.declared.judging.Verdict.{Verdict}
use Rattle.vr_routes.specs.declared.judging.Verdict.TheVariants.{Refused, Difference}

-- lists that are not valid are refused; valid ones make this difference in cost
abbrev pub verdict_by : Model → List (List ℕ) → List (List ℕ) → Verdict
verdict_by model lists after = cond (is_valid model after) (Difference (cost model after -ℤ cost model lists)) Refused
