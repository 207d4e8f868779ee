-- The schedule that is chosen under a rule is the chosen one of a narrower line.
use Rattle.std.proofs.Common.{◌≡◌, ◌∙◌, ℕ, ◌<◌, length, ℤ, None, sym, ap, subst, arith}
use Rattle.std.specs.Option.{option_map}
use Rattle.vr_model.specs.schedules.Lines.{Line as Defined}
use Rattle.vr_model.specs.schedules.ChosenLaws.{pinned}
use Rattle.vr_model.specs.schedules.Tight.{IsLatestStart}
use Rattle.vr_model.specs.schedules.Narrowed.{chosen_under}
use Rattle.vr_model.specs.schedules.RuleLaws.{HasStops}
use Rattle.vr_model.specs.declared.records.ScheduleRule.{ScheduleRule}
use Rattle.vr_model.proofs.schedules.Narrowing.{to_pinned, of_pinned}
use Rattle.vr_model.proofs.schedules.UnderRules.{chosen_under_where_feasible, narrowed_to_ends}
use Rattle.vr_steps.specs.declared.lines.Line.{Line}
use Rattle.vr_steps.specs.Lines.{IsLineOf, IsSoundLine}
use Rattle.vr_steps.proofs.LawLemmas.{lines_stand_for_theirs}
use Rattle.vr_plan.specs.Ends.{IsLatestOf, IsLeastEndOf, IsPinnedOf, IsTightLineOf}
use Rattle.vr_plan.specs.Plans.{AreChosenCumulsUnder, IsChosenPlanUnder, cumuls_of}
use Rattle.vr_plan.specs.Settled.{IsUnfeasible}
use Rattle.vr_plan.proofs.PlanLemmas.{none_where_unfeasible}

module _ (made : Line) (sound : IsSoundLine made) where
  stops_of : (defined : Defined) → IsLineOf defined made → HasStops defined
  stops_of defined of = (lines_stand_for_theirs defined made of sound).sound.stops

  -- none is chosen where the line has no schedule
  pub none_chosen : (rule : ScheduleRule) → IsUnfeasible made → IsChosenPlanUnder rule made None
  none_chosen rule none defined of =
      none_where_unfeasible (chosen_under rule defined) (λ is. none defined of ((chosen_under_where_feasible rule defined (stops_of defined of)).0 is))

  -- nor are cumuls
  pub no_cumuls : (rule : ScheduleRule) → IsUnfeasible made → AreChosenCumulsUnder rule made None
  no_cumuls rule none defined of = ap (option_map cumuls_of) (none_chosen rule none defined of)

  module _ (e : ℤ) (end : IsLeastEndOf made e) (last : ℕ) (last_is : last ≡ length made.hops) (ending : Line) (ending_is : IsPinnedOf made last e ending) where
    at_end : (defined : Defined) (of : IsLineOf defined made) → last ≡ length defined.arcs
    at_end defined of = last_is ∙ sym (lines_stand_for_theirs defined made of sound).arcs

    there : (defined : Defined) (of : IsLineOf defined made) → length defined.arcs < length defined.allowed
    there defined of = let n = stops_of defined of in omega (arith, n)

    ending_of : (defined : Defined) (of : IsLineOf defined made) → IsLineOf (pinned defined (length defined.arcs) e) ending
    ending_of defined of = subst (λ k. IsLineOf (pinned defined k e) ending) (at_end defined of) (ending_is defined of)

    -- a line with a least end has a schedule that ends there
    pub never_stuck : IsUnfeasible ending → IsUnfeasible made
    never_stuck none defined of feasible =
        let found = (end defined of).reached in
        none (pinned defined (length defined.arcs) e) (ending_of defined of)
        (found.0, to_pinned defined (length defined.arcs) e (there defined of) found.0 found.1 found.2)

    module _ (s : ℤ) (start : IsLatestOf ending s) (narrow : Line) (narrow_is : IsPinnedOf ending 0 s narrow) where
      latest : (defined : Defined) (of : IsLineOf defined made) → IsLatestStart defined e s
      latest defined of =
          let law = start (pinned defined (length defined.arcs) e) (ending_of defined of) in
          let found = law.reached in
          let mine = of_pinned defined (length defined.arcs) e (there defined of) found.0 found.1 in
          record {
            reached = (found.0, mine.0, mine.1, found.2);
            greatest = λ other sch at. law.greatest other (to_pinned defined (length defined.arcs) e (there defined of) other sch at);
          }

      pub tight_line : IsTightLineOf made narrow
      tight_line defined of =
          subst (λ line. IsLineOf line narrow) (sym (narrowed_to_ends defined (stops_of defined of) s e (end defined of) (latest defined of)))
          (narrow_is (pinned defined (length defined.arcs) e) (ending_of defined of))
