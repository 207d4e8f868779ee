-- What a mode finds for a model.
use Rattle.std.specs.Prelude.{ℕ, List, [], Option, Some, None}
use Rattle.std.specs.Option.{option_map}
use Rattle.vr_json.specs.Trees.{text_line}
use Rattle.vr_model.specs.first.FirstSolutions.{first_lists}
use Rattle.vr_model.specs.routes.Costs.{cost}
use Rattle.vr_model.specs.search.Outcomes.{Outcome}
use Rattle.vr_model.specs.declared.records.Model.{Model}
use Rattle.vr_model.specs.declared.search.Event.{Event}
use Rattle.vr_app.specs.Improved.{improved, untried}
use Rattle.vr_print.specs.Solution.{solution_tree}
use Rattle.vr_app.specs.declared.words.Mode.{Mode}
use Rattle.vr_app.specs.declared.words.Mode.TheVariants as mode

-- a first solution, and how the search ends that begins there
pub record Found : Type 0 where
  pub first : List (List ℕ)
  pub outcome : Outcome

-- how the search of a mode ends that begins at a first solution
abbrev pub searched : Mode → Model → List (List ℕ) → Outcome
searched mode.First model lists = untried lists
searched mode.Solve model lists = improved model.search.improve model lists
searched mode.Log model lists = improved model.search.improve model lists

-- what the search of a mode makes of a first solution
abbrev pub found_from : Mode → Model → List (List ℕ) → Found
found_from asked model lists = record { first = lists; outcome = searched asked model lists }

-- what a mode finds that begins with these lists, if there are any
abbrev pub found_with : Mode → Model → Option (List (List ℕ)) → Option Found
found_with asked model begun = option_map (found_from asked model) begun

-- what a mode finds for a model; none exactly if the construction of a first solution gives none
abbrev pub found_for : Mode → Model → Option Found
found_for asked model = found_with asked model (first_lists model)

-- the events of what was found
abbrev pub found_events : Option Found → List Event
found_events None = []
found_events (Some found) = found.outcome.events

-- the line of what was found: the best lists of the search, what the first solution cost, and the report
unfoldable pub line_of_found : Model → Found → List ℕ
line_of_found model found =
    text_line (solution_tree model found.outcome.best (cost model found.first) found.outcome.report)
