-- What a step of a search in code tells.
use Rattle.std.specs.Prelude.{◌≡◌, ◌≤◌, ◌^◌, ℕ, suc, cond, ◌&&◌, ◌==◌, List, [], ◌∷◌}
use Rattle.rand_pcg.specs.Lcg.{Lcg}
use Rattle.vr_model.specs.declared.records.Model.{Model}
use Rattle.vr_model.specs.declared.search.Event.{Event}
use Rattle.vr_model.specs.declared.search.Kind.TheVariants as kind
use Rattle.vr_ruin.specs.declared.judging.Standing.{Standing}
use Rattle.vr_ruin.specs.declared.judging.Worth.{Worth}
use Rattle.vr_ruin.specs.Standings.{is_less, standing_of, worth_of}
use Rattle.vr_model.specs.declared.records.End.{End}
use Rattle.vr_model.specs.tables.Tables.{visits}
use Rattle.vr_routes.specs.Tours.{Tours}
use Rattle.vr_rules.specs.Placing.{AreBuilt}
use Rattle.vr_strings.specs.declared.sizes.Ruin.{Ruin}
use Rattle.vr_watch.specs.Told.{Reported}
use Rattle.vr_ruin.specs.Refining.{RefineEnd}
use Rattle.vr_ruin.specs.Steps.{RefineState}

-- the event of routes that become the best and lack nothing
abbrev pub accept_event : Standing → Worth → Event
accept_event at new =
    record { tries = suc at.used; kind = cond (at.best.lack == 0) kind.Move kind.First; cost = new.cost }

-- the events of routes that are accepted
abbrev pub accept_events : Standing → Worth → List Event
accept_events at new = cond (is_less new at.best at.best.cost && (new.lack == 0)) (accept_event at new ∷ []) []

-- routes, the best ones and what is kept beside them are those of a state of the search
pub record IsIn (model : Model) (state : RefineState) (lists best : List (List ℕ)) (words : Lcg) (at : Standing) :
    Type 0 where
  pub lists_are : lists ≡ state.search.lists
  pub best_are : best ≡ state.search.best
  pub words_are : words ≡ state.words
  pub at_is : at ≡ standing_of model state

-- what a step may go by
pub record MayRuin (ruin : Ruin) : Type 0 where
  pub removed : ruin.removed ≤ 100
  pub heat : ruin.heat ≤ 2 ^ 40

-- routes with the visits of a model hold open lists of it
pub record AreRoutesOf (model : Model) (routes : Tours) : Type 0 where
  pub visits_are : routes.visits ≡ visits model
  pub built : AreBuilt model routes.lists

-- a search that was in a state has come to its end as it is defined. The last lists are so, the best ones, what is kept
-- beside them, and what each watcher was told
pub record HasComeTo {W : Type 0} (after : W → List Event → List ℕ) (model : Model) (rest : RefineEnd)
    (last best : List (List ℕ)) (at : Standing) (old new : List W) (stop : End) : Type 0 where
  pub last_is : rest.outcome.last ≡ last
  pub best_is : rest.outcome.best ≡ best
  pub report_is : rest.outcome.report ≡ record { tries = at.used; solutions = at.found; «end» = stop }
  pub first_is : at.first ≡ worth_of model rest.first
  pub worth_is : at.best ≡ worth_of model best
  pub told : Reported after old new rest.outcome.events
