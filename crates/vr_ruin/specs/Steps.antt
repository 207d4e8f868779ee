-- A step: lists are ruined and recreated; what comes out is kept if it lacks less, or costs less than the heat asks.
use Rattle.std.specs.Prelude.{ℕ, zero, suc, ◌-◌, ◌*◌, ◌/◌, ◌^◌, Bool, true, false, cond, ◌&&◌, ◌==◌}
use Rattle.std.specs.Prelude.{List, [], ◌∷◌, pos, ◌+ℤ◌}
use Rattle.rand_pcg.specs.Lcg.{Lcg}
use Rattle.vr_gen.specs.Draws.{draw}
use Rattle.vr_model.specs.tables.Tables.{visits}
use Rattle.vr_model.specs.routes.Routes.{is_empty}
use Rattle.vr_model.specs.routes.Costs.{cost}
use Rattle.vr_model.specs.search.Outcomes.{SearchState, tried}
use Rattle.vr_model.specs.declared.records.Model.{Model}
use Rattle.vr_model.specs.declared.search.Event.{Event}
use Rattle.vr_model.specs.declared.search.Kind.TheVariants as kind
use Rattle.vr_strings.specs.Zeros.{zeros}
use Rattle.vr_ruin.specs.Lacking.{lack, is_below}
use Rattle.vr_strings.specs.Strings.{ruined}
use Rattle.vr_strings.specs.declared.sizes.Ruin.{Ruin}
use Rattle.vr_strings.specs.Turns.{turns}
use Rattle.vr_ruin.specs.Offers.{recreated}

-- the state of a search. It has its lists, best lists, tries and solutions, and the generator of words. Its first lists
-- are replaced by each accepted ones as long as they lack something
pub record RefineState : Type 0 where
  pub search : SearchState
  pub first : List (List ℕ)
  pub words : Lcg

-- what a step makes: the lists that come out, whether they are accepted, and the generator after it
pub record RefineStep : Type 0 where
  pub lists : List (List ℕ)
  pub is_accepted : Bool
  pub words : Lcg

-- ---- heat

-- the heat some levels down: each level leaves 61 of 64 parts, rounded down
abbrev pub cooled : ℕ → ℕ → ℕ
cooled zero h = h
cooled (suc levels) h = cooled levels (61 * h / 64)

-- the heat of a step, times 2 ^ 16. All tries together go through 64 levels; `used` counts this step
abbrev pub heat_at : ℕ → ℕ → ℕ → ℕ
heat_at heat tries used = cooled (64 * (used - 1) / tries) (heat * 2 ^ 16)

-- ---- what comes out

-- lists of a model with visits after a ruin and a recreation. In between, the order of the items is drawn, and whether
-- the step is wide. One in eight is: then all vehicles are asked, also the empty ones
abbrev pub remade : Model → Ruin → List (List ℕ) → Lcg → List (List ℕ) × Lcg
remade model ruin lists words =
    let rest = ruined model ruin lists words in
    let order = turns model rest.lists rest.words in
    let wide = draw 8 order.1 in
    recreated model (wide.0 == 0) order.0 rest.lists wide.1

-- new lists are accepted if they lack less than the old ones. They are too if they lack as much, and cost less than the
-- old ones and what the heat allows at e zeros
abbrev pub is_accepted_at : Model → ℕ → ℕ → List (List ℕ) → List (List ℕ) → Bool
is_accepted_at model h e old new = is_below model new old (cost model old +ℤ pos (h * e / 2 ^ 16))

-- what came out, judged by the last word of the step
abbrev pub judged_at : Model → ℕ → List (List ℕ) → List (List ℕ) × Lcg → RefineStep
judged_at model h old new = let word = zeros new.1 in
    record { lists = new.0; is_accepted = is_accepted_at model h word.0 old new.0; words = word.1 }

-- the next step of a search that may make this many tries in all; without visits nothing changes and no word is drawn
unfoldable pub step_from : Model → Ruin → ℕ → RefineState → RefineStep
step_from model ruin tries state = let lists = state.search.lists in elim (is_empty (visits model)) [
  | true ↦ record { lists = lists; is_accepted = false; words = state.words }
  | false ↦ judged_at model (heat_at ruin.heat tries (suc state.search.used)) lists
      (remade model ruin lists state.words)
]

-- ---- the state after it

-- new lists become the best if they lack less than the best so far; or if they lack as much, and cost less
abbrev pub becomes_best : Model → List (List ℕ) → List (List ℕ) → Bool
becomes_best model best new = is_below model new best (cost model best)

-- the search after lists were accepted
abbrev pub with_accepted : Model → SearchState → List (List ℕ) → SearchState
with_accepted model search new = record {
  lists = new;
  best = cond (becomes_best model search.best new) new search.best;
  used = suc search.used;
  found = suc search.found;
}

-- the state of the search after a step
abbrev pub after_step : Model → RefineState → RefineStep → RefineState
after_step model state step = elim step.is_accepted [
  | true ↦ record {
    search = with_accepted model state.search step.lists;
    first = cond (lack model state.first == 0) state.first step.lists;
    words = step.words;
  }
  | false ↦ record { search = tried state.search 1; first = state.first; words = step.words }
]

-- ---- what is reported of it

-- a step is reported if its lists are accepted, become the best and lack nothing
abbrev pub is_told : Model → RefineState → RefineStep → Bool
is_told model state step = step.is_accepted
    && (becomes_best model state.search.best step.lists && (lack model step.lists == 0))

-- if the best so far lack something, these lists are the first that do not; else they are better ones
abbrev pub step_event : Model → RefineState → RefineStep → Event
step_event model state step = record {
  tries = suc state.search.used;
  kind = cond (lack model state.search.best == 0) kind.Move kind.First;
  cost = cost model step.lists;
}

-- the events of a step: one or none
abbrev pub step_events : Model → RefineState → RefineStep → List Event
step_events model state step = cond (is_told model state step) (step_event model state step ∷ []) []
