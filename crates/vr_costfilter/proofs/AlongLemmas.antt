-- A list along which a vehicle has gone whole, back along its stops and then along the steps to them, is timed.
use Rattle.std.proofs.Common.{◌≡◌, ◌∙◌, ◌<◌, ◌≤◌, ℕ, List, [], Some, None, false, length, reverse, refl, ap, sym, subst, to_z, of_z, w64}
use Rattle.std.specs.Prelude.{All, ℤ, option_map}
use Rattle.std.specs.Option.{option_and_then}
use Rattle.std.proofs.lemmas.List.{reverse-reverse}
use Rattle.vr_model.specs.schedules.Choices.{is_feasible}
use Rattle.vr_model.specs.schedules.ChosenLaws.{ChosenIsLeast}
use Rattle.vr_model.specs.schedules.Narrowed.{chosen_line}
use Rattle.vr_model.specs.tables.Tables.{vehicle_at}
use Rattle.vr_model.specs.tables.WellFormed.{IsWellFormed}
use Rattle.vr_model.specs.declared.records.Model.{Model}
use Rattle.vr_costfilter.specs.Floors.{end_step, first_step_or, stop_floor, AreAimed, IsVisitStep, WentBack}
use Rattle.vr_costfilter.specs.Steps.{AreSteps}
use Rattle.vr_costfilter.specs.Runs.{Runs, AllowsRuns}
use Rattle.vr_costfilter.specs.Stages.{along, setting_out, stage_at_start, to_end, along_to_end}
use Rattle.vr_costfilter.specs.declared.guides.Stage.{Stage}
use Rattle.vr_costfilter.specs.declared.trails.Step.{Step}
use Rattle.vr_costfilter.proofs.FeasibleLemmas.{whole-unfeasible}
use Rattle.vr_costfilter.proofs.StuckLemmas.{whole-none}
use Rattle.vr_costfilter.proofs.TimingLemmas.{timed, HasTiming}

module _ {model : Model} {d v : ℕ} {runs : Runs} {list : List ℕ} {next first : Step} {trail : List Step}
    (back : WentBack model d v runs list next [] trail first) (next_is : next ≡ end_step model v runs) where
  trail-is : reverse trail ≡ back.steps
  trail-is = ap reverse back.trail ∙ reverse-reverse back.steps

  pub along-known : All (IsVisitStep model) (reverse trail)
  along-known = subst (All (IsVisitStep model)) (sym trail-is) back.known

  steps-are : AreSteps model d v runs list back.steps
  steps-are = record { nodes_are = back.nodes_are; aimed = subst (AreAimed model d v runs back.steps) next_is back.aimed }

  first-is : first_step_or back.steps (end_step model v runs) ≡ first
  first-is = ap (first_step_or back.steps) (sym next_is) ∙ sym back.first_is

  -- there is no way on
  module _ (allows : AllowsRuns model d v runs list (chosen_line model d v list)) where
    unmet : along_to_end model d v runs (setting_out model d v runs first) (reverse trail) ≡ None → is_feasible (chosen_line model d v list) ≡ false
    unmet none =
        whole-unfeasible model d v runs list (chosen_line model d v list) allows back.steps steps-are
        (ap (λ (s : Step). along_to_end model d v runs (setting_out model d v runs s) back.steps) first-is
        ∙ ap (along_to_end model d v runs (setting_out model d v runs first)) (sym trail-is) ∙ none)

    pub floor-unmet : stop_floor model d v (vehicle_at model v).start runs.start first ≡ None → is_feasible (chosen_line model d v list) ≡ false
    floor-unmet none =
        unmet (ap (λ o. along_to_end model d v runs (option_map (stage_at_start model d v) o) (reverse trail)) none ∙ whole-none model d v runs (reverse trail))

    pub gone-unmet : (floor : ℤ) → stop_floor model d v (vehicle_at model v).start runs.start first ≡ Some floor
        → (stage : Stage) → stage ≡ stage_at_start model d v floor
        → option_and_then (to_end model d v runs) (along model d v runs (Some stage) (reverse trail)) ≡ None → is_feasible (chosen_line model d v list) ≡ false
    gone-unmet floor floor_is stage stage_is none =
        unmet (ap (λ o. along_to_end model d v runs o (reverse trail))
        (ap (option_map (stage_at_start model d v)) floor_is ∙ ap (λ (s : Stage). Some s) (sym stage_is)) ∙ none)

  module _ (floor : ℤ) (floor_is : stop_floor model d v (vehicle_at model v).start runs.start first ≡ Some floor)
      (stage gone end : Stage) (stage_is : stage ≡ stage_at_start model d v floor)
      (gone_is : along model d v runs (Some stage) (reverse trail) ≡ Some gone) (end_is : to_end model d v runs gone ≡ Some end) where
    out : setting_out model d v runs (first_step_or back.steps (end_step model v runs)) ≡ Some stage
    out = ap (setting_out model d v runs) first-is ∙ ap (option_map (stage_at_start model d v)) floor_is ∙ ap (λ (s : Stage). Some s) (sym stage_is)

    whole-is : along_to_end model d v runs (setting_out model d v runs (first_step_or back.steps (end_step model v runs))) back.steps ≡ Some end
    whole-is =
        ap (λ o. along_to_end model d v runs o back.steps) out
        ∙ ap (option_and_then (to_end model d v runs)) (ap (along model d v runs (Some stage)) (sym trail-is) ∙ gone_is) ∙ end_is

    pub along-timed : ChosenIsLeast → IsWellFormed model → d < length model.dimensions
        → AllowsRuns model d v runs list (chosen_line model d v list) → length list ≤ 1000
        → HasTiming model d v list (record { soft = to_z w64 (of_z w64 end.soft); start = to_z w64 (of_z w64 floor); last = to_z w64 (of_z w64 end.cumul) })
    along-timed law well dimension by few =
        timed model well d v dimension runs list (chosen_line model d v list) by back.steps steps-are
        law refl stage end out whole-is few floor (sym (ap (λ (s : Stage). s.cumul) stage_is))
