-- Where a vehicle cannot go on along steps.
use Rattle.std.proofs.Common.{◌≡◌, ◌∙◌, ◌+◌, ◌<◌, ℕ, List, [], ◌∷◌, ◌++◌, length, take, drop, false, refl, sym, subst, ap, arith, Option, Some, None}
use Rattle.std.specs.Prelude.{slice_index_or}
use Rattle.std.specs.Option.{option_and_then}
use Rattle.std.proofs.lemmas.List.{drop_more}
use Rattle.std.proofs.lemmas.List.Sums.{fold_more}
use Rattle.vr_model.specs.declared.records.Model.{Model}
use Rattle.vr_model.specs.schedules.Choices.{is_feasible}
use Rattle.vr_model.specs.schedules.Narrowed.{chosen_line}
use Rattle.vr_plan.specs.declared.timings.Timing.{Timing}
use Rattle.vr_costfilter.specs.Asked.{IsTimingFound}
use Rattle.vr_costfilter.specs.Runs.{Runs}
use Rattle.vr_costfilter.specs.Stages.{along, to_end, to_visit, visit_more, along_to_end}
use Rattle.vr_costfilter.specs.declared.guides.Stage.{Stage}
use Rattle.vr_costfilter.specs.declared.trails.Step.{Step}
use Rattle.vr_costfilter.proofs.MetLemmas.{front-split}
use Rattle.vr_costfilter.proofs.StageLemmas.{along-append, whole-append}

-- no timing is found where no schedule is
pub untold : {model : Model} {d v : ℕ} {list : List ℕ} {found : Option Timing} → found ≡ None
    → is_feasible (chosen_line model d v list) ≡ false → IsTimingFound model d v list found
untold {model} {d} {v} {list} {found} none unfeasible =
    subst (IsTimingFound model d v list) (sym none) (record { known = sym unfeasible; timing = tt; range = tt })

module _ (model : Model) (d v : ℕ) (runs : Runs) where
  -- there is no way on from nowhere
  pub along-none : (steps : List Step) → along model d v runs None steps ≡ None
  along-none [] = refl
  along-none (x ∷ xs) = along-none xs

  pub whole-none : (steps : List Step) → along_to_end model d v runs None steps ≡ None
  whole-none steps = ap (option_and_then (to_end model d v runs)) (along-none steps)

  -- nor from where it does not come to the next step
  pub along-stuck : (o : Option Stage) (steps : List Step) (k place : ℕ) (other : Step) (gone : Stage)
      → k < place → k < length steps → along model d v runs o (take k steps) ≡ Some gone
      → to_visit model d v runs (slice_index_or steps k other) gone ≡ None → along model d v runs o (take place steps) ≡ None
  along-stuck o steps k place other gone less low there none =
      let rest : List Step = drop (k + 1) (take place steps) in
      let here : along model d v runs o (take (k + 1) steps) ≡ None =
      fold_more (visit_more model d v runs) o steps k other low
      ∙ ap (λ (p : Option Stage). visit_more model d v runs p (slice_index_or steps k other)) there ∙ none in
      ap (along model d v runs o) (sym (front-split (k + 1) place steps (omega (arith, less)))) ∙ along-append model d v runs o (take (k + 1) steps) rest
      ∙ ap (λ (p : Option Stage). along model d v runs p rest) here ∙ along-none rest

  pub whole-stuck : (steps : List Step) (k : ℕ) (other : Step) (gone : Stage) → k < length steps
      → to_visit model d v runs (slice_index_or steps k other) gone ≡ None → along_to_end model d v runs (Some gone) (drop k steps) ≡ None
  whole-stuck steps k other gone low none =
      ap (along_to_end model d v runs (Some gone)) (drop_more steps k other low)
      ∙ ap (λ (p : Option Stage). along_to_end model d v runs p (drop (k + 1) steps)) none ∙ whole-none (drop (k + 1) steps)

  -- it does not come to the end where it does not come along the first steps, or from there on
  pub whole-unmet : (o : Option Stage) (xs ys : List Step) → along model d v runs o xs ≡ None → along_to_end model d v runs o (xs ++ ys) ≡ None
  whole-unmet o xs ys none = whole-append model d v runs o xs ys ∙ ap (λ (p : Option Stage). along_to_end model d v runs p ys) none ∙ whole-none ys
