-- The rules of a schedule as tests.
use Rattle.std.proofs.Common.{ℕ, suc, ◌-◌, ◌<◌, Bool, ◌&&◌, List, [], ◌∷◌, length, inl, inr, arith, ◌⊎◌}
use Rattle.std.specs.Prelude.{pos, ◌-ℤ◌, int_le, ◌||◌, ◌==◌, IsTrue}
use Rattle.std.specs.List.{list_all, list_any}
use Rattle.vr_model.specs.tables.Numbers.{below, within, is_same_number}
use Rattle.vr_model.specs.schedules.Lines.{Line}
use Rattle.vr_model.specs.schedules.Schedules.{Plan, Sides, KeepsRules, cumul, slack, allows, arc_at, break_at}
use Rattle.vr_model.specs.schedules.Schedules.{break_start, break_end, is_before, is_after, is_inside, break_time}
use Rattle.vr_model.specs.deciding.Testing.{all_pass, each_passes, or_cases, list_all_range, list_all_places}
use Rattle.vr_model.specs.deciding.Testing.{le_of_test, any_place, eq_of_tests, eq_of_test, within_is, test_of_le}
use Rattle.vr_model.specs.deciding.Testing.{test_of_within, test_of_eq, tests_of_eq, range_list_all, places_list_all}
use Rattle.vr_model.specs.deciding.Testing.{range_list_any, all_passed, or_left, or_right}

-- the slack of arc k is what its cumuls leave over its transit
abbrev pub slack_is : Line → Plan → ℕ → Bool
slack_is line plan k = is_same_number (slack plan k) ((cumul plan (suc k) -ℤ cumul plan k) -ℤ (arc_at line k).transit)

-- break i lies before the first stop or after the last one, if breaks may lie on that side, or inside an arc
abbrev pub is_placed : Sides → Line → Plan → ℕ → Bool
is_placed sides line plan i =
    (sides.may_precede && is_before line plan i)
    || ((sides.may_follow && is_after line plan i) || list_any (is_inside line plan i) (below (length line.arcs)))

-- the rules of a schedule, each as a test, in the order in which the record has them
abbrev pub rule_tests : Sides → Line → Plan → List Bool
rule_tests sides line plan =
    (length plan.cumuls == length line.allowed)
    ∷ (length plan.slacks == length line.arcs)
    ∷ (length plan.breaks == length line.breaks)
    ∷ list_all (λ k. allows line k (cumul plan k)) (below (length line.allowed))
    ∷ list_all (slack_is line plan) (below (length line.arcs))
    ∷ list_all (λ k. within (pos 0) line.slack_max (slack plan k)) (below (length line.arcs))
    ∷ list_all (λ i. within (break_at line i).from (break_at line i).to (break_start plan i))
    (below (length line.breaks))
    ∷ list_all (λ i. int_le (break_end line plan i) (break_start plan (suc i))) (below (length line.breaks - 1))
    ∷ list_all (is_placed sides line plan) (below (length line.breaks))
    ∷ list_all (λ k. int_le (break_time line plan k) (slack plan k)) (below (length line.arcs))
    ∷ []

-- all rules of a schedule hold
abbrev pub keeps_schedule_rules : Sides → Line → Plan → Bool
keeps_schedule_rules sides line plan = all_pass (rule_tests sides line plan)

-- the tests show the rules
pub keeps_rules-sound : (sides : Sides) (line : Line) (plan : Plan) → IsTrue (keeps_schedule_rules sides line plan)
    → KeepsRules sides line plan
keeps_rules-sound sides line plan h =
    let t = each_passes (rule_tests sides line plan) h in
    record {
      cumul_of_each_stop = eq_of_test _ _ t.0;
      slack_of_each_arc = eq_of_test _ _ t.1.0;
      start_of_each_break = eq_of_test _ _ t.1.1.0;
      cumuls_allowed = list_all_places line.allowed (λ k. allows line k (cumul plan k)) t.1.1.1.0;
      slacks_left = λ k low. eq_of_tests _ _ (list_all_places line.arcs (slack_is line plan) t.1.1.1.1.0 k low);
      slacks_bounded = λ k low. within_is _ _ _
          (list_all_places line.arcs (λ k. within (pos 0) line.slack_max (slack plan k)) t.1.1.1.1.1.0 k low);
      breaks_in_range = λ i low. within_is _ _ _
          (list_all_places line.breaks
          (λ i. within (break_at line i).from (break_at line i).to (break_start plan i)) t.1.1.1.1.1.1.0 i low);
      breaks_in_order = λ i low. le_of_test _ _
          (list_all_range (λ i. int_le (break_end line plan i) (break_start plan (suc i))) 0
          (length line.breaks - 1) t.1.1.1.1.1.1.1.0 i (omega arith) (omega (arith, low)));
      breaks_placed =
          λ i low. placed i (list_all_places line.breaks (is_placed sides line plan) t.1.1.1.1.1.1.1.1.0 i low);
      slacks_carry_breaks = λ k low. le_of_test _ _
          (list_all_places line.arcs (λ k. int_le (break_time line plan k) (slack plan k)) t.1.1.1.1.1.1.1.1.1.0 k low);
    }
  where
    placed : (i : ℕ) → IsTrue (is_placed sides line plan i) → IsTrue (sides.may_precede && is_before line plan i)
        ⊎ IsTrue (sides.may_follow && is_after line plan i) ⊎ (k : ℕ) × (k < length line.arcs)
        × IsTrue (is_inside line plan i k)
    placed i t = elim (or_cases (sides.may_precede && is_before line plan i) _ t) [
      | inl first ↦ inl first
      | inr rest ↦ elim (or_cases (sides.may_follow && is_after line plan i) _ rest) [
        | inl last ↦ inr (inl last)
        | inr some ↦ (let r = any_place (is_inside line plan i) 0 (length line.arcs) some in inr
            (inr (r.0, omega (arith, r.2), r.3)))
      ]
    ]

-- the rules show the tests
pub keeps_rules-complete : (sides : Sides) (line : Line) (plan : Plan) → KeepsRules sides line plan
    → IsTrue (keeps_schedule_rules sides line plan)
keeps_rules-complete sides line plan r = all_passed (rule_tests sides line plan) (
  test_of_eq _ _ r.cumul_of_each_stop,
  (
    test_of_eq _ _ r.slack_of_each_arc,
    (
      test_of_eq _ _ r.start_of_each_break,
      (
        places_list_all line.allowed (λ k. allows line k (cumul plan k)) r.cumuls_allowed,
        (
          places_list_all line.arcs (slack_is line plan) (λ k low. tests_of_eq _ _ (r.slacks_left k low)),
          (
            places_list_all line.arcs (λ k. within (pos 0) line.slack_max (slack plan k))
                (λ k low. test_of_within _ _ _ (r.slacks_bounded k low).0 (r.slacks_bounded k low).1),
            (
              places_list_all line.breaks (λ i. within (break_at line i).from (break_at line i).to (break_start plan i))
                  (λ i low. test_of_within _ _ _ (r.breaks_in_range i low).0 (r.breaks_in_range i low).1),
              (
                range_list_all (λ i. int_le (break_end line plan i) (break_start plan (suc i))) 0
                    (length line.breaks - 1) (λ i low high. test_of_le _ _ (r.breaks_in_order i (omega (arith, high)))),
                (
                  places_list_all line.breaks (is_placed sides line plan) (λ i low. placed i (r.breaks_placed i low)),
                  (
                    places_list_all line.arcs (λ k. int_le (break_time line plan k) (slack plan k))
                        (λ k low. test_of_le _ _ (r.slacks_carry_breaks k low)),
                    tt,
                  ),
                ),
              ),
            ),
          ),
        ),
      ),
    ),
  ),
)
  where
    placed : (i : ℕ) → IsTrue (sides.may_precede && is_before line plan i)
        ⊎ IsTrue (sides.may_follow && is_after line plan i) ⊎ (k : ℕ) × (k < length line.arcs)
        × IsTrue (is_inside line plan i k) → IsTrue (is_placed sides line plan i)
    placed i (inl first) = or_left (sides.may_precede && is_before line plan i) _ first
    placed i (inr (inl last)) =
        or_right (sides.may_precede
        && is_before line plan i) _ (or_left (sides.may_follow && is_after line plan i) _ last)
    placed i (inr (inr r)) = or_right (sides.may_precede && is_before line plan i) _
        (or_right (sides.may_follow && is_after line plan i) _
        (range_list_any (is_inside line plan i) 0 (length line.arcs) r.0 (omega arith) (omega (arith, r.1)) r.2))
