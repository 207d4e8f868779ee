-- When the search stops, and how it cools.
use Rattle.std.proofs.Common.{◌≡◌, ◌∙◌, ◌≤◌, ◌+◌, ◌⊎◌, ℕ, zero, suc, Bool, true, false, cond, inl, inr, refl, ap, arith, zero-add}
use Rattle.std.specs.Prelude.{◌==◌, ◌*◌, ◌/◌, ◌-◌, ◌^◌}
use Rattle.std.proofs.lemmas.Bool.{eqb-true}
use Rattle.vr_model.specs.declared.records.End.TheVariants.{Tries, Solutions}
use Rattle.vr_model.specs.declared.records.Model.{Model}
use Rattle.vr_model.specs.declared.search.Limit.{Limit}
use Rattle.vr_model.specs.search.Outcomes.{tried}
use Rattle.vr_model.proofs.tables.Tests.{clash}
use Rattle.vr_strings.specs.declared.sizes.Ruin.{Ruin}
use Rattle.vr_ruin.specs.Lacking.{lack}
use Rattle.vr_ruin.specs.Steps.{RefineState, RefineStep, after_step, cooled, step_events, step_from, with_accepted}
use Rattle.vr_ruin.specs.Refining.{RefineEnd, is_satisfied, refine_begun, refined_from, refined_search, ruin_of, stopped, with_events}
use Rattle.vr_ruin.specs.Answering.{CoolingGoesOn, HeatIsBounded, RefiningStops, StopsWithin}

-- ---- when it stops

module _ (model : Model) (ruin : Ruin) (limit : Limit) where
  stops_in : (state : RefineState) → state.search.used ≤ limit.tries
      → ((state.search.found == limit.solutions) ≡ true) ⊎ (state.search.used ≡ limit.tries) → StopsWithin limit (stopped limit state).outcome.report
  stops_in state low why = by (state.search.found == limit.solutions) refl why
    where
      by : (b : Bool) → (state.search.found == limit.solutions) ≡ b → ((state.search.found == limit.solutions) ≡ true) ⊎ (state.search.used ≡ limit.tries)
          → StopsWithin limit (record { tries = state.search.used; solutions = state.search.found; «end» = cond b Solutions Tries })
      by true e why = record { few = low; why = inl (refl, eqb-true state.search.found limit.solutions e) }
      by false e (inl satisfied) = absurd (clash (state.search.found == limit.solutions) satisfied e)
      by false e (inr all) = record { few = low; why = inr (refl, all) }

  stops_from : (left : ℕ) (state : RefineState) → state.search.used + left ≡ limit.tries
      → StopsWithin limit (refined_from model ruin limit left state).outcome.report
  unfolding refined_from
  stops_from zero state all = stops_in state (omega (arith, all)) (inr (omega (arith, all)))
  stops_from (suc left) state all = by (is_satisfied limit state) refl (stops_from left (after_step model state step))
    where
      step : RefineStep
      step = step_from model ruin limit.tries state

      used_next : (b : Bool) → (let after : RefineState = elim b [
        | true ↦ record {
          search = with_accepted model state.search step.lists;
          first = cond (lack model state.first == 0) state.first step.lists;
          words = step.words;
        }
        | false ↦ record { search = tried state.search 1; first = state.first; words = step.words }
      ] in after.search.used ≡ suc state.search.used)
      used_next true = refl
      used_next false = omega arith

      by : (b : Bool) → is_satisfied limit state ≡ b → ((after_step model state step).search.used + left ≡ limit.tries
          → StopsWithin limit (refined_from model ruin limit left (after_step model state step)).outcome.report)
          → (let end_of : RefineEnd = elim b [
            | true ↦ stopped limit state
            | false ↦ with_events (step_events model state step) (refined_from model ruin limit left (after_step model state step))
          ] in StopsWithin limit end_of.outcome.report)
      by true e again = stops_in state (omega (arith, all)) (inl e)
      by false e again = let used = used_next step.is_accepted in again (omega (arith, all, used))

pub refining_stops : RefiningStops
unfolding refined_search
refining_stops model lists limit wish = stops_from model (ruin_of model lists wish) limit limit.tries (refine_begun lists wish.seed) (omega arith)

-- ---- heat

pub less_hot : (h : ℕ) → 61 * h / 64 ≤ h
less_hot h = grind arith

cooled_down : (levels h : ℕ) → cooled levels h ≤ h
cooled_down zero h = omega arith
cooled_down (suc levels) h = let once = less_hot h in let rest = cooled_down levels (61 * h / 64) in omega (arith, once, rest)

pub heat_is_bounded : HeatIsBounded
heat_is_bounded heat tries used = cooled_down (64 * (used - 1) / tries) (heat * 2 ^ 16)

pub cooling_goes_on : CoolingGoesOn
cooling_goes_on zero n h = ap (λ levels. cooled levels h) (zero-add n)
cooling_goes_on (suc m) n h = ap (λ levels. cooled levels h) (suc-add m n) ∙ cooling_goes_on m n (61 * h / 64)
  where
    suc-add : (m n : ℕ) → suc m + n ≡ suc (m + n)
    suc-add m n = omega arith
