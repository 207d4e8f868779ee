-- Two worked tight schedules, with the costs of their lists.
use Rattle.std.proofs.Common.{◌≡◌, ◌∙◌, ℕ, zero, suc, ◌<◌, Bool, true, false, cond, ◌&&◌, ◌⊎◌, List, [], ◌∷◌, ◌++◌, length, refl, ap, inl, inr, arith, Some}
use Rattle.std.proofs.Common.{None}
use Rattle.std.specs.Prelude.{ℤ, pos, ◌+ℤ◌, ◌-ℤ◌, ◌≤ℤ◌, ◌||◌, IsTrue, int_le, int_lt, unwrap_or}
use Rattle.std.proofs.lemmas.Int.{ints}
use Rattle.vr_model.specs.deciding.ScheduleTests.{keeps_rules-sound}
use Rattle.vr_model.specs.deciding.Testing.{and_left, and_right, le_of_test, test_of_le, within_is}
use Rattle.vr_model.specs.routes.Costs.{cost, no_plan, parts_at, sum_of}
use Rattle.vr_model.specs.schedules.Lines.{Line, line}
use Rattle.vr_model.specs.schedules.Narrowed.{chosen_under}
use Rattle.vr_model.specs.schedules.Schedules.{Plan, IsSchedule, both_sides, break_start, break_time, cumul, is_after, is_before, is_inside, slack}
use Rattle.vr_model.specs.schedules.Tight.{IsTight}
use Rattle.vr_model.specs.tables.Numbers.{horizon, is_lex_le, number_at, within}
use Rattle.vr_model.specs.declared.records.Dimension.{Dimension}
use Rattle.vr_model.specs.declared.records.Model.{Model}
use Rattle.vr_model.specs.declared.records.ScheduleRule.TheVariants.{Tight}
use Rattle.vr_model.specs.declared.records.StopRow.{StopRow}
use Rattle.vr_model.specs.declared.records.Vehicle.{Vehicle}
use Rattle.vr_model.specs.declared.records.VehicleBreaks.{VehicleBreaks}
use Rattle.vr_model.proofs.schedules.UnderRules.{chosen_under_is_chosen}
use Rattle.vr_model.proofs.worked.WorkedModels.{car, model_of, rests_entries, time}

-- a first number that is no greater, and the others where it is the same
lex_at : (x y : ℤ) (xs ys : List ℤ) → x ≤ℤ y → (x ≡ y → IsTrue (is_lex_le xs ys)) → IsTrue (is_lex_le (x ∷ xs) (y ∷ ys))
lex_at x y xs ys h rest = go (int_lt x y) refl
  where
    go : (b : Bool) → int_lt x y ≡ b → IsTrue (b || (int_le x y && is_lex_le xs ys))
    go true e = refl
    go false e = ap (λ b. b && is_lex_le xs ys) (test_of_le x y h) ∙ rest (Prim.grind (arith, ints))

-- a vehicle that chooses its tight schedule
abbrev late_car : Vehicle
late_car = record car { schedule = Tight }

-- two nodes that are ten apart, and a vehicle that may wait twenty on an arc
abbrev waits_twenty : Dimension
waits_twenty = record (time 2) { slack_max = pos 20 }

-- ---- a window from 30 to 40 at node 1, and a cost of 2 for the span: the vehicle starts at 20, and does not wait

abbrev window_row : StopRow
window_row = record { key = 1; window = Some (record { lo = pos 30; hi = pos 40 }); forbidden = []; soft = None }

abbrev windowed : Model
windowed = model_of 2 rests_entries (late_car ∷ []) (record waits_twenty { nodes = window_row ∷ []; span_costs = pos 2 ∷ [] } ∷ [])

abbrev windowed_line : Line
windowed_line = line windowed 0 0 (1 ∷ [])

abbrev windowed_plan : Plan
windowed_plan = record { cumuls = pos 20 ∷ pos 30 ∷ pos 40 ∷ []; slacks = pos 0 ∷ pos 0 ∷ []; breaks = [] }

windowed_is : IsSchedule windowed_line windowed_plan
windowed_is = keeps_rules-sound both_sides windowed_line windowed_plan refl

-- what each schedule of the line keeps to
module _ (other : Plan) (s : IsSchedule windowed_line other) where
  first_leg : pos 10 ≤ℤ (cumul other 1 -ℤ cumul other 0)
  first_leg = let left = s.slacks_left 0 (omega arith) in omega (arith, ints, left, (s.slacks_bounded 0 (omega arith)).0)

  second_leg : pos 10 ≤ℤ (cumul other 2 -ℤ cumul other 1)
  second_leg = let left = s.slacks_left 1 (omega arith) in omega (arith, ints, left, (s.slacks_bounded 1 (omega arith)).0)

  node : pos 30 ≤ℤ cumul other 1
  node = (within_is (pos 30) (pos 40) (cumul other 1)
      (and_left (within (pos 30) (pos 40) (cumul other 1)) _
      (and_right (within (pos 0) (pos 100) (cumul other 1)) _ (and_right (within (pos 0) horizon (cumul other 1)) _ (s.cumuls_allowed 1 (omega arith)))))).0

-- a plan of three stops, no earlier than these cumuls
no_earlier : (a b c : ℤ) (cs breaks ends : List ℤ) → length cs ≡ 3 → a ≤ℤ number_at cs 0
    → b ≤ℤ number_at cs 1 → c ≤ℤ number_at cs 2 → IsTrue (is_lex_le ends breaks)
    → IsTrue (is_lex_le (a ∷ b ∷ c ∷ ends) (cs ++ breaks))
no_earlier a b c [] breaks ends e x y z h = absurd (omega (arith, e))
no_earlier a b c (k ∷ []) breaks ends e x y z h = absurd (omega (arith, e))
no_earlier a b c (k ∷ l ∷ []) breaks ends e x y z h = absurd (omega (arith, e))
no_earlier a b c (k ∷ l ∷ m ∷ n ∷ cs) breaks ends e x y z h = absurd (omega (arith, e))
no_earlier a b c (k ∷ l ∷ m ∷ []) breaks ends e x y z h =
    lex_at a k (b ∷ c ∷ ends) (l ∷ m ∷ breaks) x (λ _. lex_at b l (c ∷ ends) (m ∷ breaks) y (λ _. lex_at c m ends breaks z (λ _. h)))

windowed_tight : IsTight windowed_line windowed_plan
windowed_tight = record {
  s = pos 20;
  e = pos 40;
  least_end = record {
    reached = (windowed_plan, windowed_is, refl);
    least = λ other s. (let low = node other s in let far = second_leg other s in omega (arith, ints, low, far));
  };
  latest_start = record {
    reached = (windowed_plan, windowed_is, refl, refl);
    greatest = λ other s end. (let near = first_leg other s in let far = second_leg other s in omega (arith, ints, near, far, end));
  };
  least_between = record {
    schedule = windowed_is;
    start_is = refl;
    end_is = refl;
    least = λ other s start end. no_earlier (pos 20) (pos 30) (pos 40) other.cumuls other.breaks []
        s.cumul_of_each_stop (omega (arith, ints, start)) (node other s) (omega (arith, ints, end)) refl;
  };
}

windowed_chosen : chosen_under Tight windowed_line ≡ Some windowed_plan
windowed_chosen = (chosen_under_is_chosen Tight windowed_line refl windowed_plan).1 windowed_tight

windowed_cost : cost windowed ((1 ∷ []) ∷ []) ≡ pos 60
unfolding cost
windowed_cost = ap (λ o. sum_of (parts_at windowed (record { lists = (1 ∷ []) ∷ []; plans = (unwrap_or o no_plan ∷ []) ∷ [] }))) windowed_chosen

-- ---- a break of 5 that begins at 0: it is taken before the start, so the vehicle starts at 5, and ends no later

abbrev rest_row : VehicleBreaks
rest_row = record { vehicle = 0; rows = record { from = pos 0; to = pos 0; duration = pos 5 } ∷ [] }

abbrev rested : Model
rested = model_of 2 rests_entries (late_car ∷ []) (record waits_twenty { breaks = rest_row ∷ [] } ∷ [])

abbrev rested_line : Line
rested_line = line rested 0 0 (1 ∷ [])

abbrev rested_plan : Plan
rested_plan = record { cumuls = pos 5 ∷ pos 15 ∷ pos 25 ∷ []; slacks = pos 0 ∷ pos 0 ∷ []; breaks = pos 0 ∷ [] }

rested_is : IsSchedule rested_line rested_plan
rested_is = keeps_rules-sound both_sides rested_line rested_plan refl

module _ (other : Plan) (s : IsSchedule rested_line other) where
  first_rested : slack other 0 ≡ (cumul other 1 -ℤ cumul other 0) -ℤ pos 10
  first_rested = s.slacks_left 0 (omega arith)

  second_rested : slack other 1 ≡ (cumul other 2 -ℤ cumul other 1) -ℤ pos 10
  second_rested = s.slacks_left 1 (omega arith)

  above : pos 0 ≤ℤ cumul other 0
  above = (within_is (pos 0) horizon (cumul other 0) (and_left (within (pos 0) horizon (cumul other 0)) _ (s.cumuls_allowed 0 (omega arith)))).0

  begins : (pos 0 ≤ℤ break_start other 0) × (break_start other 0 ≤ℤ pos 0)
  begins = s.breaks_in_range 0 (omega arith)

  -- an arc with the break inside takes 5 more
  carried : (k : ℕ) → IsTrue (is_inside rested_line other 0 k) → break_time rested_line other k ≡ pos 5
  carried k t = ap (λ inside. cond inside (pos 5) (pos 0) +ℤ pos 0) t

  on_arc : (k : ℕ) → k < 2 → IsTrue (is_inside rested_line other 0 k) → pos 25 ≤ℤ cumul other 2
  on_arc zero low t =
      let b = carried 0 t in
      let slow = s.slacks_carry_breaks 0 (omega arith) in
      omega (arith, ints, b, slow, first_rested, second_rested, above, (s.slacks_bounded 1 (omega arith)).0)
  on_arc (suc zero) low t =
      let b = carried 1 t in
      let slow = s.slacks_carry_breaks 1 (omega arith) in
      omega (arith, ints, b, slow, first_rested, second_rested, above, (s.slacks_bounded 0 (omega arith)).0)
  on_arc (suc (suc k)) low t = absurd (omega (arith, low))

  placed : IsTrue (true && is_before rested_line other 0) ⊎ IsTrue (true && is_after rested_line other 0)
      ⊎ (k : ℕ) × (k < 2) × IsTrue (is_inside rested_line other 0 k) → pos 25 ≤ℤ cumul other 2
  placed (inl t) = let a = le_of_test (break_start other 0 +ℤ pos 5) (cumul other 0) t in
      omega (arith, ints, a, begins.0, first_rested, second_rested, (s.slacks_bounded 0 (omega arith)).0, (s.slacks_bounded 1 (omega arith)).0)
  placed (inr (inl t)) = absurd (let a = le_of_test (cumul other 2) (break_start other 0) t in
      omega (arith, ints, a, begins.1, above, first_rested, second_rested, (s.slacks_bounded 0 (omega arith)).0, (s.slacks_bounded 1 (omega arith)).0))
  placed (inr (inr w)) = on_arc w.0 w.1 w.2

  ends : pos 25 ≤ℤ cumul other 2
  ends = placed (s.breaks_placed 0 (omega arith))

  one_break : (zs : List ℤ) → length zs ≡ 1 → pos 0 ≤ℤ number_at zs 0 → IsTrue (is_lex_le (pos 0 ∷ []) zs)
  one_break [] e low = absurd (omega (arith, e))
  one_break (z ∷ zs) e low = lex_at (pos 0) z [] zs low (λ _. refl)

rested_tight : IsTight rested_line rested_plan
rested_tight = record {
  s = pos 5;
  e = pos 25;
  least_end = record { reached = (rested_plan, rested_is, refl); least = λ other s. ends other s };
  latest_start = record {
    reached = (rested_plan, rested_is, refl, refl);
    greatest = λ other s end.
        omega (arith, ints, end, first_rested other s, second_rested other s, (s.slacks_bounded 0 (omega arith)).0, (s.slacks_bounded 1 (omega arith)).0);
  };
  least_between = record {
    schedule = rested_is;
    start_is = refl;
    end_is = refl;
    least = λ other s start end. no_earlier (pos 5) (pos 15) (pos 25) other.cumuls other.breaks (pos 0 ∷ []) s.cumul_of_each_stop (omega (arith, ints, start))
        (omega (arith, ints, start, first_rested other s, (s.slacks_bounded 0 (omega arith)).0)) (omega (arith, ints, end))
        (one_break other s other.breaks s.start_of_each_break (begins other s).0);
  };
}

rested_chosen : chosen_under Tight rested_line ≡ Some rested_plan
rested_chosen = (chosen_under_is_chosen Tight rested_line refl rested_plan).1 rested_tight

rested_cost : cost rested ((1 ∷ []) ∷ []) ≡ pos 20
unfolding cost
rested_cost = ap (λ o. sum_of (parts_at rested (record { lists = (1 ∷ []) ∷ []; plans = (unwrap_or o no_plan ∷ []) ∷ [] }))) rested_chosen
