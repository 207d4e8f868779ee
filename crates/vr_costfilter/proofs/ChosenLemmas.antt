-- The plans of used vehicles of valid lists.
use Rattle.std.proofs.Common.{◌≡◌, ℕ, suc, ◌*◌, ◌<◌, ◌≤◌, true, false, List, length, Option, Some, None, refl, arith}
use Rattle.std.specs.Prelude.{ℤ, pos, negsuc, ◌*ℤ◌, ◌≤ℤ◌, IsTrue, is_some, unwrap_or}
use Rattle.std.proofs.lemmas.Int.{ints}
use Rattle.std.proofs.Math.Nat.{mul-le-mul_left}
use Rattle.vr_model.specs.tables.Tables.{vehicle_at}
use Rattle.vr_model.specs.tables.WellFormed.{IsWellFormed}
use Rattle.vr_model.specs.routes.Routes.{are_lists, is_empty, route}
use Rattle.vr_model.specs.routes.Rules.{is_open, is_valid}
use Rattle.vr_model.specs.routes.Costs.{assigned, no_plan, plan_at}
use Rattle.vr_model.specs.declared.records.Model.{Model}
use Rattle.vr_model.proofs.routes.Assigned.{open_meets_its_lines}
use Rattle.vr_model.proofs.schedules.ChoiceLaws.{chosen_is_least}
use Rattle.vr_model.proofs.schedules.LineArcs.{stops_of_line}
use Rattle.vr_model.proofs.schedules.UnderRules.{chosen_under_where_feasible}
use Rattle.vr_model.specs.schedules.Choices.{chosen}
use Rattle.vr_model.specs.schedules.Lines.{line}
use Rattle.vr_model.specs.schedules.Narrowed.{chosen_line}
use Rattle.vr_model.specs.deciding.Testing.{and_left, and_right}
use Rattle.vr_plan.specs.Timings.{chosen_plan_of}
use Rattle.vr_model.specs.schedules.Schedules.{IsChosen, Plan}
use Rattle.vr_earliest.specs.Laws.{IsNoEarlier}
use Rattle.vr_earliest.proofs.NoEarlier.{law}

-- a product with a coefficient grows with the other factor
pub times-le : (c x y : ℤ) → pos 0 ≤ℤ c → x ≤ℤ y → (c *ℤ x) ≤ℤ (c *ℤ y)
times-le (pos m) (pos a) (pos b) low le = let h : a ≤ b = omega (arith, ints, le) in let p : m * a ≤ m * b = mul-le-mul_left m h in omega (arith, ints, p)
times-le (pos m) (negsuc a) (pos b) low le = omega (arith, ints)
times-le (pos m) (negsuc a) (negsuc b) low le =
    let h : suc b ≤ suc a = omega (arith, ints, le) in
    let p : m * suc b ≤ m * suc a = mul-le-mul_left m h in
    omega (arith, ints, p)
times-le (pos m) (pos a) (negsuc b) low le = absurd (omega (arith, ints, le))
times-le (negsuc m) x y low le = absurd (omega (arith, ints, low))

-- the plan of a used vehicle of valid lists is chosen under its rule
module _ (model : Model) (lists : List (List ℕ)) (valid : IsTrue (is_valid model lists)) (d v : ℕ)
    (low : d < length model.dimensions) (known : v < length lists) (used : is_empty (route lists v) ≡ false) where
  opened : IsTrue (is_open model lists)
  unfolding is_valid
  opened = and_left (is_open model lists) _ (and_right (are_lists model lists) _ valid)

  chosen-plan : IsChosen (chosen_line model d v (route lists v)) (chosen_plan_of model d v (route lists v))
  chosen-plan =
      let feasible =
      (chosen_under_where_feasible (vehicle_at model v).schedule (line model d v (route lists v)) (stops_of_line model d v (route lists v))).1 (
        plan_at (assigned model lists) d v,
        open_meets_its_lines model lists opened d v low known used,
      ) in
      (chosen_is_least (chosen_line model d v (route lists v)) (chosen_plan_of model d v (route lists v))).0
      (there (chosen (chosen_line model d v (route lists v))) feasible)
    where
      there : (o : Option Plan) → IsTrue (is_some o) → o ≡ Some (unwrap_or o no_plan)
      there None h = absurd (let f : false ≡ true → ⊥ = λ e. Prim.cc in f h)
      there (Some p) h = refl

  pub no-earlier : IsWellFormed model → IsNoEarlier model d v (route lists v) (chosen_plan_of model d v (route lists v))
  no-earlier well = law model well d v low (route lists v) used (chosen_plan_of model d v (route lists v)) chosen-plan
