-- A step of the definition, by what code makes of it.
use Rattle.std.proofs.Common.{◌≡◌, ◌∙◌, ◌+◌, ℕ, suc, List, [], Bool, true, false, cond, refl, ap, ap₂, sym, subst}
use Rattle.std.specs.Prelude.{◌==◌}
use Rattle.rand_pcg.specs.Lcg.{Lcg}
use Rattle.vr_model.specs.declared.records.Model.{Model}
use Rattle.vr_model.specs.tables.Tables.{visits}
use Rattle.vr_model.specs.routes.Routes.{is_empty}
use Rattle.vr_strings.specs.Zeros.{zeros}
use Rattle.vr_strings.specs.declared.sizes.Ruin.{Ruin}
use Rattle.vr_ruin.specs.declared.judging.Standing.{Standing}
use Rattle.vr_ruin.specs.Lacking.{lack}
use Rattle.vr_ruin.specs.Searching.{accept_events, IsIn}
use Rattle.vr_ruin.specs.Standings.{is_less, standing_of, standing_with, worth_of}
use Rattle.vr_ruin.specs.Steps.{RefineState, RefineStep, after_step, becomes_best, heat_at, is_accepted_at, judged_at, remade, step_events, step_from}
use Rattle.vr_ruin.specs.Steps.{with_accepted}

worth_cond : (model : Model) (b : Bool) (x y : List (List ℕ)) → cond b (worth_of model x) (worth_of model y) ≡ worth_of model (cond b x y)
worth_cond model true x y = refl
worth_cond model false x y = refl

module _ (model : Model) (ruin : Ruin) (tries : ℕ) (state : RefineState) where
  -- a model without visits
  pub step_none : is_empty (visits model) ≡ true
      → step_from model ruin tries state ≡ record { lists = state.search.lists; is_accepted = false; words = state.words }
  unfolding step_from
  step_none none = ap (λ (b : Bool). let step : RefineStep = elim b [
    | true ↦ record { lists = state.search.lists; is_accepted = false; words = state.words }
    | false ↦ judged_at model (heat_at ruin.heat tries (suc state.search.used)) state.search.lists (remade model ruin state.search.lists state.words)
  ] in step) none

  -- a step that is refused
  pub refused_in : (lists best : List (List ℕ)) (words later : Lcg) (made : List (List ℕ)) (at : Standing)
      → IsIn model state lists best words at → step_from model ruin tries state ≡ record { lists = made; is_accepted = false; words = later }
      → IsIn model (after_step model state (step_from model ruin tries state)) lists best later (record at { used = at.used + 1 })
  refused_in lists best words later made at is step =
      subst (λ s. IsIn model (after_step model state s) lists best later (record at { used = at.used + 1 })) (sym step) (record {
        lists_are = is.lists_are;
        best_are = is.best_are;
        words_are = refl;
        at_is = ap (λ (at : Standing). record at { used = at.used + 1 }) is.at_is;
      })

  pub refused_events : (later : Lcg) (made : List (List ℕ)) → step_from model ruin tries state ≡ record { lists = made; is_accepted = false; words = later }
      → step_events model state (step_from model ruin tries state) ≡ []
  refused_events later made step = ap (step_events model state) step

  -- a step that is accepted
  pub accepted_in : (best after : List (List ℕ)) (words later : Lcg) (made : List (List ℕ)) (at now : Standing)
      → IsIn model state state.search.lists best words at
      → step_from model ruin tries state ≡ record { lists = made; is_accepted = true; words = later }
      → after ≡ cond (is_less (worth_of model made) at.best at.best.cost) made best → now ≡ standing_with at (worth_of model made)
      → IsIn model (after_step model state (step_from model ruin tries state)) made after later now
  accepted_in best after words later made at now is step best_is now_is =
      subst (λ s. IsIn model (after_step model state s) made after later now) (sym step) (record {
        lists_are = refl;
        best_are = best_is ∙ ap₂ (λ (at : Standing) best. cond (is_less (worth_of model made) at.best at.best.cost) made best) is.at_is is.best_are;
        words_are = refl;
        at_is = now_is ∙ ap (λ at. standing_with at (worth_of model made)) is.at_is ∙ same;
      })
    where
      b : Bool
      b = becomes_best model state.search.best made

      same : standing_with (standing_of model state) (worth_of model made) ≡ standing_of model (record {
        search = with_accepted model state.search made;
        first = cond (lack model state.first == 0) state.first made;
        words = later;
      })
      same = ap₂ (λ best first. record { used = suc state.search.used; found = suc state.search.found; here = worth_of model made; best = best; first = first })
          (worth_cond model (becomes_best model state.search.best made) made state.search.best)
          (worth_cond model (lack model state.first == 0) state.first made)

  pub accepted_events : (later : Lcg) (made : List (List ℕ)) (at : Standing) → at ≡ standing_of model state
      → step_from model ruin tries state ≡ record { lists = made; is_accepted = true; words = later }
      → accept_events at (worth_of model made) ≡ step_events model state (step_from model ruin tries state)
  accepted_events later made at is step = ap (λ at. accept_events at (worth_of model made)) is ∙ sym (ap (step_events model state) step)

  -- ---- what a step makes, by its parts

  module _ (some : is_empty (visits model) ≡ false) (made : List (List ℕ)) (drawn later : Lcg) (h e : ℕ)
      (made_is : (made, drawn) ≡ remade model ruin state.search.lists state.words) (word_is : (e, later) ≡ zeros drawn)
      (h_is : h ≡ heat_at ruin.heat tries (suc state.search.used)) where
    pub step_made : step_from model ruin tries state ≡ record { lists = made; is_accepted = is_accepted_at model h e state.search.lists made; words = later }
    unfolding step_from
    step_made =
        ap (λ (b : Bool). let step : RefineStep = elim b [
          | true ↦ record { lists = state.search.lists; is_accepted = false; words = state.words }
          | false ↦ judged_at model (heat_at ruin.heat tries (suc state.search.used)) state.search.lists (remade model ruin state.search.lists state.words)
        ] in step) some
        ∙ ap₂ (λ h made. judged_at model h state.search.lists made) (sym h_is) (sym made_is)
        ∙ ap
        (λ word. let step : RefineStep = record { lists = made; is_accepted = is_accepted_at model h word.0 state.search.lists made; words = word.1 } in
        step) (sym word_is)
