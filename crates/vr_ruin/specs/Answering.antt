-- What every answer of the search keeps to, as statements.
use Rattle.std.specs.Prelude.{◌≡◌, ◌⊎◌, ℕ, zero, suc, ◌+◌, ◌*◌, ◌^◌, ◌≤◌, true, false, ◌==◌, List, [], ◌∷◌}
use Rattle.std.specs.Prelude.{length, filter, is_some, Some, IsTrue, ◌≤ℤ◌}
use Rattle.std.specs.List.{list_any}
use Rattle.vr_model.specs.tables.WellFormed.{IsWellFormed}
use Rattle.vr_model.specs.routes.Rules.{is_valid}
use Rattle.vr_model.specs.routes.Costs.{cost}
use Rattle.vr_model.specs.first.Choosing.{least_by}
use Rattle.vr_model.specs.declared.records.Model.{Model}
use Rattle.vr_model.specs.declared.records.Report.{Report}
use Rattle.vr_model.specs.declared.records.End.TheVariants.{Tries, Solutions}
use Rattle.vr_model.specs.declared.search.Limit.{Limit}
use Rattle.vr_rules.specs.Placing.{AreBuilt}
use Rattle.vr_ruin.specs.declared.wish.Wish.{Wish}
use Rattle.vr_ruin.specs.Lacking.{lack}
use Rattle.vr_strings.specs.declared.sizes.Ruin.{Ruin}
use Rattle.vr_ruin.specs.Steps.{RefineState, after_step, cooled, heat_at, step_from}
use Rattle.vr_ruin.specs.Refining.{RefineEnd, is_satisfied, refine_begun, refined, refined_search, ruin_of}

-- ---- validity

-- open lists of a well-formed model are valid exactly if they lack nothing
abbrev pub OpenIsValidWithoutLack : Type 0
OpenIsValidWithoutLack = (model : Model) (lists : List (List ℕ)) → IsWellFormed model → AreBuilt model lists
    → is_valid model lists ≡ (lack model lists == 0)

-- ---- a step

-- from open lists a step makes open lists, accepted or not
abbrev pub StepsStayOpen : Type 0
StepsStayOpen = (model : Model) (ruin : Ruin) (tries : ℕ) (state : RefineState) → IsWellFormed model
    → AreBuilt model state.search.lists → AreBuilt model (step_from model ruin tries state).lists

-- ---- the search

-- the lists that a search accepts from a state on, in order, with this many tries left
unfoldable pub accepted_from : Model → Ruin → Limit → ℕ → RefineState → List (List (List ℕ))
accepted_from model ruin limit zero state = []
accepted_from model ruin limit (suc left) state = elim (is_satisfied limit state) [
  | true ↦ []
  | false ↦ let step = step_from model ruin limit.tries state in
      let rest = accepted_from model ruin limit left (after_step model state step) in
      elim step.is_accepted [ true ↦ step.lists ∷ rest | false ↦ rest ]
]

-- the lists that a search had: the first ones, then those that it accepted
abbrev pub lists_kept : Model → List (List ℕ) → Limit → Wish → List (List (List ℕ))
lists_kept model lists limit wish = lists
    ∷ accepted_from model (ruin_of model lists wish) limit limit.tries (refine_begun lists wish.seed)

-- those of them that are valid
abbrev pub valid_kept : Model → List (List ℕ) → Limit → Wish → List (List (List ℕ))
valid_kept model lists limit wish = filter (is_valid model) (lists_kept model lists limit wish)

-- What holds of an answer. Its best lists are valid: of the valid lists that the search had, the first of least cost.
-- The lists of its first cost are the first valid ones, and cost no less. Its last lists are open. Its tries and
-- solutions are within the limit, and all lists that it had are counted as solutions.
pub record IsSoundRefining (model : Model) (lists : List (List ℕ)) (limit : Limit) (wish : Wish)
    (answer : RefineEnd) : Type 0 where
  pub best_valid : IsTrue (is_valid model answer.outcome.best)
  pub best_is_first_least :
      least_by (λ kept. cost model kept ∷ []) (valid_kept model lists limit wish) ≡ Some answer.outcome.best
  pub first_valid : IsTrue (is_valid model answer.first)
  pub first_is_first : least_by (λ kept. []) (valid_kept model lists limit wish) ≡ Some answer.first
  pub no_dearer : cost model answer.outcome.best ≤ℤ cost model answer.first
  pub last_open : AreBuilt model answer.outcome.last
  pub tries : answer.outcome.report.tries ≤ limit.tries
  pub some_solution : 1 ≤ answer.outcome.report.solutions
  pub solutions : answer.outcome.report.solutions ≤ limit.solutions
  pub one_of_each : answer.outcome.report.solutions ≡ length (lists_kept model lists limit wish)

-- this holds of each answer of a search from open lists, if the limit allows a solution
abbrev pub RefiningIsSound : Type 0
RefiningIsSound =
    (model : Model) (lists : List (List ℕ)) (limit : Limit) (wish : Wish) (answer : RefineEnd)
    → IsWellFormed model → AreBuilt model lists → 1 ≤ limit.solutions
    → refined model lists limit wish ≡ Some answer
    → IsSoundRefining model lists limit wish answer

-- a search from open lists answers exactly if some of the lists that it had are valid
abbrev pub RefiningAnswers : Type 0
RefiningAnswers = (model : Model) (lists : List (List ℕ)) (limit : Limit) (wish : Wish)
    → IsWellFormed model → AreBuilt model lists → 1 ≤ limit.solutions
    → is_some (refined model lists limit wish) ≡ list_any (is_valid model) (lists_kept model lists limit wish)

-- if the first lists are valid, the first cost is theirs
abbrev pub ValidFirstIsKept : Type 0
ValidFirstIsKept =
    (model : Model) (lists : List (List ℕ)) (limit : Limit) (wish : Wish) (answer : RefineEnd)
    → IsWellFormed model → IsTrue (is_valid model lists) → refined model lists limit wish ≡ Some answer
    → answer.first ≡ lists

-- ---- heat

-- the heat never grows: that of each step is at most the one with which the search begins
abbrev pub HeatIsBounded : Type 0
HeatIsBounded = (heat tries used : ℕ) → heat_at heat tries used ≤ heat * 2 ^ 16

-- some levels down and then more is all of them down: the heat may be kept from step to step
abbrev pub CoolingGoesOn : Type 0
CoolingGoesOn = (m n h : ℕ) → cooled (m + n) h ≡ cooled n (cooled m h)

-- ---- the end

-- a search stops within its limit: with its solutions if it found them, else with all its tries
pub record StopsWithin (limit : Limit) (report : Report) : Type 0 where
  pub few : report.tries ≤ limit.tries
  pub why : ((report.«end» ≡ Solutions) × (report.solutions ≡ limit.solutions))
      ⊎ ((report.«end» ≡ Tries) × (report.tries ≡ limit.tries))

-- each search makes at most as many steps as the limit allows tries, and says why it stops
abbrev pub RefiningStops : Type 0
RefiningStops = (model : Model) (lists : List (List ℕ)) (limit : Limit) (wish : Wish)
    → StopsWithin limit (refined_search model lists limit wish).outcome.report
