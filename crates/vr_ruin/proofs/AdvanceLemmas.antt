-- A step of a search in code is a step of the definition, and a search comes to its end step by step.
use Rattle.std.proofs.Common.{◌≡◌, ◌∙◌, ◌<◌, ◌+◌, ◌-◌, ◌⊎◌, ℕ, zero, suc, List, [], ◌++◌, append_assoc, append-nil, Bool, true, false, cond, inl, inr, refl, ap}
use Rattle.std.proofs.Common.{ap₂, sym, subst, arith}
use Rattle.std.specs.Prelude.{◌&&◌, ◌||◌, ◌==◌, ◌*◌, ◌/◌, ◌^◌, ◌+ℤ◌, pos, nat_lt, int_lt, ℤ, IsTrue, not, Result, Ok, Err, OnOk}
use Rattle.std.proofs.lemmas.Bool.{eqb-true}
use Rattle.rand_pcg.specs.Lcg.{Lcg}
use Rattle.vr_model.specs.declared.records.End.TheVariants.{Solutions, Tries}
use Rattle.vr_model.specs.declared.records.Model.{Model}
use Rattle.vr_model.specs.declared.search.Event.{Event}
use Rattle.vr_model.specs.declared.search.Limit.{Limit}
use Rattle.vr_model.specs.routes.Rules.{is_valid}
use Rattle.vr_model.specs.routes.Routes.{is_empty}
use Rattle.vr_model.specs.search.Outcomes.{ended}
use Rattle.vr_model.specs.tables.Tables.{visits}
use Rattle.vr_model.proofs.tables.Tests.{clash}
use Rattle.vr_model.specs.tables.WellFormed.{IsWellFormed}
use Rattle.vr_routes.specs.Tours.{Tours}
use Rattle.vr_rules.specs.Placing.{AreBuilt}
use Rattle.vr_strings.specs.Zeros.{zeros}
use Rattle.vr_strings.specs.declared.sizes.Ruin.{Ruin}
use Rattle.vr_watch.specs.Told.{Reported, ReportedInPart}
use Rattle.vr_watch.proofs.ToldLemmas.{in_part_behind, told_both, told_nothing}
use Rattle.vr_ruin.specs.declared.judging.Standing.{Standing}
use Rattle.vr_ruin.specs.Lacking.{lack}
use Rattle.vr_ruin.specs.Refining.{RefineEnd, refined_from, stopped, with_events}
use Rattle.vr_ruin.specs.Searching.{AreRoutesOf, HasComeTo, IsIn}
use Rattle.vr_ruin.specs.Standings.{is_less, worth_of}
use Rattle.vr_ruin.specs.Steps.{RefineState, RefineStep, after_step, heat_at, remade, step_events, step_from}
use Rattle.vr_ruin.proofs.AnswerLemmas.{not_best}
use Rattle.vr_ruin.proofs.LackLemmas.{valid_is}
use Rattle.vr_ruin.proofs.SearchLemmas.{step_made, step_none}

pub none_of : (b r : Bool) → r ≡ not b → r ≡ false → b ≡ true
none_of true r e f = refl
none_of false r e f = cc

pub some_of : (b r : Bool) → r ≡ not b → r ≡ true → b ≡ false
some_of false r e t = refl
some_of true r e t = cc

-- ---- what code makes in a step

pub step_is : (model : Model) (ruin : Ruin) (tries : ℕ) (state : RefineState) (lists best : List (List ℕ))
    (words drawn later : Lcg) (made : List (List ℕ)) (at : Standing) (h e : ℕ) (verdict : Bool)
    → IsIn model state lists best words at → is_empty (visits model) ≡ false
    → (made, drawn) ≡ remade model ruin lists words → (e, later) ≡ zeros drawn → h ≡ heat_at ruin.heat tries (at.used + 1)
    → verdict ≡ is_less (worth_of model made) at.here (at.here.cost +ℤ pos (h * e / 2 ^ 16))
    → step_from model ruin tries state ≡ record { lists = made; is_accepted = verdict; words = later }
step_is model ruin tries state lists best words drawn later made at h e verdict is some made_is word_is h_is verdict_is =
    step_made model ruin tries state some made drawn later h e (made_is ∙ ap₂ (λ ls ws. remade model ruin ls ws) is.lists_are is.words_are)
    word_is (h_is ∙ ap (heat_at ruin.heat tries) one_more ∙ ap (λ (at : Standing). heat_at ruin.heat tries (suc at.used)) is.at_is)
    ∙ ap (λ b. let step : RefineStep = record { lists = made; is_accepted = b; words = later } in step)
    (sym (verdict_is ∙ ap (λ (at : Standing). is_less (worth_of model made) at.here (at.here.cost +ℤ pos (h * e / 2 ^ 16))) is.at_is))
  where
    one_more : at.used + 1 ≡ suc at.used
    one_more = omega arith

-- without visits
pub step_of_none : (model : Model) (ruin : Ruin) (tries : ℕ) (state : RefineState) (lists best : List (List ℕ)) (words : Lcg) (at : Standing) (some : Bool)
    → IsIn model state lists best words at
    → some ≡ not (is_empty (visits model)) → some ≡ false
    → step_from model ruin tries state ≡ record { lists = state.search.lists; is_accepted = false; words = words }
step_of_none model ruin tries state lists best words at some is has none =
    step_none model ruin tries state (none_of _ some has none)
    ∙ ap (λ words. let step : RefineStep = record { lists = state.search.lists; is_accepted = false; words = words } in step) (sym is.words_are)

-- what is accepted after valid lists is valid
pub stays_valid : (model : Model) → IsWellFormed model → (old new : List (List ℕ)) → AreBuilt model old
    → AreBuilt model new → (bound : ℤ) → is_less (worth_of model new) (worth_of model old) bound ≡ true
    → IsTrue (is_valid model old) → IsTrue (is_valid model new)
stays_valid model well_formed old new old_built new_built bound less valid = valid_is model well_formed new new_built
    ∙ none (lack model new) (lack model old) (int_lt (worth_of model new).cost bound) (sym (valid_is model well_formed old old_built) ∙ valid) less
  where
    none : (x y : ℕ) (cheap : Bool) → (y == 0) ≡ true → (nat_lt x y || ((x == y) && cheap)) ≡ true → (x == 0) ≡ true
    none x y cheap e less = by (x == 0) refl
      where
        by : (b : Bool) → (x == 0) ≡ b → b ≡ true
        by true f = refl
        by false f = absurd (clash (nat_lt x y || ((x == y) && cheap)) less (not_best x y cheap (eqb-true y 0 e) f))

pub routes_cond : (model : Model) (b : Bool) (x y : Tours) → AreRoutesOf model x → AreRoutesOf model y → AreRoutesOf model (cond b x y)
routes_cond model true x y p q = p
routes_cond model false x y p q = q

pub lists_cond : (b : Bool) (x y : Tours) → (cond b x y).lists ≡ cond b x.lists y.lists
lists_cond true x y = refl
lists_cond false x y = refl

pub on_ok : {T E Q : Type 0} (r : Result T E) → Q → OnOk r Q
on_ok (Ok x) q = q
on_ok (Err e) q = tt

-- ---- how a search comes to its end

with_both : (first then : List Event) (rest : RefineEnd) → with_events first (with_events then rest) ≡ with_events (first ++ then) rest
with_both first then rest = ap (λ events. let end_of : RefineEnd = record { first = rest.first; outcome = record rest.outcome { events = events } } in
    end_of) (sym (append_assoc first then rest.outcome.events))

module _ {W : Type 0} (after : W → List Event → List ℕ) (model : Model) (ruin : Ruin) (limit : Limit) where
  -- the search is the one from here, after what was told
  pub record GoesOn (rest : RefineEnd) (lists best : List (List ℕ)) (words : Lcg) (at : Standing) (old new : List W) : Type 0 where
    pub state : RefineState
    pub told : List Event
    pub is : IsIn model state lists best words at
    pub left : rest ≡ with_events told (refined_from model ruin limit (limit.tries - at.used) state)
    pub heard : Reported after old new told

  pub starts : (lists best : List (List ℕ)) (words : Lcg) (at : Standing) (watch : List W) (state : RefineState) → IsIn model state lists best words at
      → GoesOn (refined_from model ruin limit (limit.tries - at.used) state) lists best words at watch watch
  starts lists best words at watch state is = record { state = state; told = []; is = is; left = refl; heard = told_nothing after watch }

  -- with tries left
  on_step : (left : ℕ) (state : RefineState) → (state.search.found == limit.solutions) ≡ false
      → refined_from model ruin limit (suc left) state ≡ with_events (step_events model state (step_from model ruin limit.tries state))
      (refined_from model ruin limit left (after_step model state (step_from model ruin limit.tries state)))
  unfolding refined_from
  on_step left state more = ap (λ (b : Bool). let end_of : RefineEnd = elim b [
    | true ↦ stopped limit state
    | false ↦ with_events (step_events model state (step_from model ruin limit.tries state))
        (refined_from model ruin limit left (after_step model state (step_from model ruin limit.tries state)))
  ] in end_of) more

  -- at the end
  on_end : (left : ℕ) (state : RefineState) (b : Bool) → (state.search.found == limit.solutions) ≡ b → (b ≡ true) ⊎ (left ≡ 0)
      → refined_from model ruin limit left state ≡ record { first = state.first; outcome = ended state.search (cond b Solutions Tries) }
  unfolding refined_from
  on_end zero state b e why =
      ap (λ b. let end_of : RefineEnd = record { first = state.first; outcome = ended state.search (cond b Solutions Tries) } in end_of) e
  on_end (suc left) state b e (inr none) = absurd (omega (arith, none))
  on_end (suc left) state b e (inl enough) = ap (λ (b : Bool). let end_of : RefineEnd = elim b [
    | true ↦ stopped limit state
    | false ↦ with_events (step_events model state (step_from model ruin limit.tries state))
        (refined_from model ruin limit left (after_step model state (step_from model ruin limit.tries state)))
  ] in end_of) (e ∙ enough)
      ∙ ap (λ b. let end_of : RefineEnd = record { first = state.first; outcome = ended state.search (cond b Solutions Tries) } in end_of) e

  module _ (rest : RefineEnd) (lists best : List (List ℕ)) (words : Lcg) (at : Standing)
      (old mid : List W) (goes : GoesOn rest lists best words at old mid) where
    module _ (used : at.used < limit.tries) (more : (at.found == limit.solutions) ≡ false) where
      abbrev step : RefineStep
      step = step_from model ruin limit.tries goes.state

      abbrev events : List Event
      events = step_events model goes.state step

      found_more : (goes.state.search.found == limit.solutions) ≡ false
      found_more = sym (ap (λ (at : Standing). at.found == limit.solutions) goes.is.at_is) ∙ more

      next : (left : ℕ) → limit.tries - at.used ≡ suc left
          → rest ≡ with_events (goes.told ++ events) (refined_from model ruin limit left (after_step model goes.state step))
      next left less = goes.left ∙ ap (λ left. with_events goes.told (refined_from model ruin limit left goes.state)) less
          ∙ ap (with_events goes.told) (on_step left goes.state found_more)
          ∙ with_both goes.told events (refined_from model ruin limit left (after_step model goes.state step))

      pub steps : (lists₁ best₁ : List (List ℕ)) (words₁ : Lcg) (at₁ : Standing) (new : List W) → at₁.used ≡ at.used + 1
          → ((state : RefineState) → IsIn model state lists best words at
          → IsIn model (after_step model state (step_from model ruin limit.tries state)) lists₁ best₁ words₁ at₁)
          → ((state : RefineState) → IsIn model state lists best words at
          → Reported after mid new (step_events model state (step_from model ruin limit.tries state)))
          → GoesOn rest lists₁ best₁ words₁ at₁ old new
      steps lists₁ best₁ words₁ at₁ new counts is_after is_told = record {
        state = after_step model goes.state step;
        told = goes.told ++ events;
        is = is_after goes.state goes.is;
        left = next (limit.tries - at₁.used) (omega (arith, used, counts));
        heard = told_both after old mid new goes.told events goes.heard (is_told goes.state goes.is);
      }

      pub breaks : (new : List W) → ((state : RefineState) → IsIn model state lists best words at
          → ReportedInPart after mid new (step_events model state (step_from model ruin limit.tries state)))
          → ReportedInPart after old new rest.outcome.events
      breaks new in_part =
          let left = limit.tries - suc at.used in
          let later = refined_from model ruin limit left (after_step model goes.state step) in
          subst (λ events. ReportedInPart after old new events)
          (sym (ap (λ (r : RefineEnd). r.outcome.events) (next left (omega (arith, used))) ∙ append_assoc goes.told events later.outcome.events))
          (in_part_behind after old mid new goes.told events later.outcome.events goes.heard (in_part goes.state goes.is))

    pub comes : (b : Bool) → (at.found == limit.solutions) ≡ b → (b ≡ true) ⊎ (limit.tries - at.used ≡ 0)
        → HasComeTo after model rest lists best at old mid (cond b Solutions Tries)
    comes b e why = record {
      last_is = ap (λ (r : RefineEnd). r.outcome.last) whole ∙ sym goes.is.lists_are;
      best_is = ap (λ (r : RefineEnd). r.outcome.best) whole ∙ sym goes.is.best_are;
      report_is = ap (λ (r : RefineEnd). r.outcome.report) whole
          ∙ ap (λ (at : Standing). record { tries = at.used; solutions = at.found; «end» = cond b Solutions Tries }) (sym goes.is.at_is);
      first_is = ap (λ (at : Standing). at.first) goes.is.at_is ∙ sym (ap (λ (r : RefineEnd). worth_of model r.first) whole);
      worth_is = ap (λ (at : Standing). at.best) goes.is.at_is ∙ ap (worth_of model) (sym goes.is.best_are);
      told = subst (λ events. Reported after old mid events) (sym (ap (λ (r : RefineEnd). r.outcome.events) whole ∙ append-nil goes.told)) goes.heard;
    }
      where
        whole : rest ≡ with_events goes.told (record { first = goes.state.first; outcome = ended goes.state.search (cond b Solutions Tries) })
        whole = goes.left ∙ ap (with_events goes.told)
            (on_end (limit.tries - at.used) goes.state b (sym (ap (λ (at : Standing). at.found == limit.solutions) goes.is.at_is) ∙ e) why)
