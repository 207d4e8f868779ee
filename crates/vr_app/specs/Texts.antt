-- The trees of the lines that the program writes, but for solutions, spans and models.
use Rattle.std.specs.Prelude.{ℕ, suc, ℤ, List, [], ◌∷◌, cond, codes, length}
use Rattle.serde_json.specs.Data.{Data, number, string, object, unsigned, no_members, member}
use Rattle.vr_json.specs.declared.fault.Fault.{Fault}
use Rattle.vr_model.specs.routes.Costs.{cost}
use Rattle.vr_model.specs.routes.Routes.{inactive, is_empty}
use Rattle.vr_model.specs.declared.records.Model.{Model}
use Rattle.vr_print.specs.Numbers.{whole}
use Rattle.vr_json.specs.Trees.{count}
use Rattle.vr_check.specs.Check.{rule_word}
use Rattle.vr_check.specs.declared.finding.Rule.{Rule}
use Rattle.vr_app.specs.Found.{Found}
use Rattle.vr_app.specs.declared.texts.Summary.{Summary}

-- a status alone
unfoldable pub status_tree : List ℕ → Data
status_tree status = object (member (codes "status") (string status) no_members)

-- a refusal: the number of its cause, and the path of the value that is refused
unfoldable pub refused_tree : Fault → Data
refused_tree fault = object
    (member (codes "code") (number (unsigned fault.code))
    (member (codes "path") (string fault.path)
    (member (codes "status") (string (codes "ROUTING_INVALID")) no_members)))

-- a solution that meets the rules of its model, and its cost
unfoldable pub met_tree : ℤ → Data
met_tree cost = object
    (member (codes "cost") (whole cost)
    (member (codes "status") (string (codes "MEETS")) no_members))

-- the word of the first rule that is broken, and its vehicle and place
unfoldable pub broken_tree : List ℕ → ℤ → ℤ → Data
broken_tree rule vehicle place = object
    (member (codes "place") (whole place)
    (member (codes "rule") (string rule)
    (member (codes "status") (string (codes "NOT_MET"))
    (member (codes "vehicle") (whole vehicle) no_members))))

-- the first rule that a solution breaks, and its vehicle and place
abbrev pub not_met_tree : Rule → ℤ → ℤ → Data
not_met_tree rule vehicle place = broken_tree (rule_word rule) vehicle place

-- how many lists are not empty
abbrev pub used : List (List ℕ) → ℕ
used [] = 0
used (list ∷ lists) = cond (is_empty list) (used lists) (suc (used lists))

-- what was found for the model of a number, in short
abbrev pub summary_of : ℕ → Model → Found → Summary
summary_of n model found = record {
  number = n;
  cost = cost model found.outcome.best;
  first_cost = cost model found.first;
  dropped = length (inactive model found.outcome.best);
  used = used found.outcome.best;
  tries = found.outcome.report.tries;
}

-- a summary: what the solution and the first one cost, how many visits are dropped and how many vehicles are used
unfoldable pub summary_tree : Summary → Data
summary_tree summary = object
    (member (codes "cost") (whole summary.cost)
    (member (codes "dropped") (count summary.dropped)
    (member (codes "first_cost") (whole summary.first_cost)
    (member (codes "number") (count summary.number)
    (member (codes "status") (string (codes "DEMO"))
    (member (codes "tries") (count summary.tries)
    (member (codes "used") (count summary.used) no_members)))))))
