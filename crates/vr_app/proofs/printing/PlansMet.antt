-- No rule on plans finds anything in a schedule, and no rule on numbers where they are the definition's.
use Rattle.std.proofs.Common.{◌≡◌, ℕ, ◌-◌, ◌<◌, length, None, refl, sym, ap₂, subst, arith}
use Rattle.std.specs.Prelude.{ℤ, pos, IsTrue}
use Rattle.std.specs.List.{list_all}
use Rattle.vr_model.specs.tables.Numbers.{below, is_same_number}
use Rattle.vr_model.specs.deciding.Testing.{and_both, each_passes, test_of_within, tests_of_eq}
use Rattle.vr_model.specs.deciding.ScheduleTests.{rule_tests, keeps_rules-complete, slack_is, is_placed}
use Rattle.vr_model.specs.schedules.Lines.{Line}
use Rattle.vr_model.specs.schedules.Schedules.{Plan, IsSchedule, both_sides, allows, cumul, slack}
use Rattle.vr_model.specs.declared.records.Parts.{Parts}
use Rattle.vr_check.specs.Findings.{earlier}
use Rattle.vr_check.specs.Plans.{cumul_broken_at, cumul_broken, is_right_slack, slack_broken_at, slack_broken, starts_in_range, ends_in_time, carries_breaks}
use Rattle.vr_check.specs.Plans.{are_breaks_right, break_broken}
use Rattle.vr_check.specs.Parts.{part_broken, parts_differ}
use Rattle.vr_check.proofs.ValidLists.{nothing, right, right_place}

module _ (line : Line) (d v : ℕ) (plan : Plan) (schedule : IsSchedule line plan) where
  pub no_wrong_cumul : cumul_broken line v plan ≡ None
  no_wrong_cumul = nothing (cumul_broken_at line v plan) (length plan.cumuls)
      (λ k low. right (allows line k (cumul plan k)) v k (schedule.cumuls_allowed k (let all = schedule.cumul_of_each_stop in omega (arith, low, all))))

  pub no_wrong_slack : slack_broken line v plan ≡ None
  no_wrong_slack = nothing (slack_broken_at line v plan) (length plan.slacks) (λ k low.
      (let here : k < length line.arcs = (let all = schedule.slack_of_each_arc in omega (arith, low, all)) in
      let bounds = schedule.slacks_bounded k here in
      right (is_right_slack line plan k) v k
      (and_both (slack_is line plan k) _ (tests_of_eq _ _ (schedule.slacks_left k here))
      (test_of_within (pos 0) line.slack_max (slack plan k) bounds.0 bounds.1))))

  pub no_wrong_break : break_broken line d v plan ≡ None
  no_wrong_break =
      let t = each_passes (rule_tests both_sides line plan) (keeps_rules-complete both_sides line plan schedule) in
      let arcs = schedule.slack_of_each_arc in
      let last : IsTrue (list_all (carries_breaks line plan) (below (length plan.slacks))) =
      subst (λ n. IsTrue (list_all (carries_breaks line plan) (below n))) (sym arcs) t.1.1.1.1.1.1.1.1.1.0 in
      right (are_breaks_right line plan) v d
      (and_both (list_all (starts_in_range line plan) (below (length line.breaks))) _ t.1.1.1.1.1.1.0
      (and_both (list_all (ends_in_time line plan) (below (length line.breaks - 1))) _ t.1.1.1.1.1.1.1.0
      (and_both (list_all (is_placed both_sides line plan) (below (length line.breaks))) _ t.1.1.1.1.1.1.1.1.0 last)))

-- ---- numbers

same_part : (k : ℕ) (z : ℤ) → part_broken k z z ≡ None
same_part k z = right_place (is_same_number z z) k (tests_of_eq z z refl)

pub same_parts : (parts : Parts) → parts_differ parts parts ≡ None
same_parts parts =
    ap₂ earlier (same_part 0 parts.arcs)
    (ap₂ earlier (same_part 1 parts.fixed)
    (ap₂ earlier (same_part 2 parts.global)
    (ap₂ earlier (same_part 3 parts.penalty)
    (ap₂ earlier (same_part 4 parts.soft) (same_part 5 parts.span)))))
