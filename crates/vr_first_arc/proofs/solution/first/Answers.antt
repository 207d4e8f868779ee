use Rattle.std.proofs.Common.{◌≡◌, Some, None, cond, subst}
use Rattle.std.specs.Prelude.{IfOk, IfSome}
use Rattle.vr_model.specs.first.PathCheapestArc.{path_cheapest_arc}
use Rattle.vr_model.specs.routes.Rules.{is_valid}
use Rattle.vr_model.specs.tables.Tables.{visits}
use Rattle.vr_rules.specs.Placing.{lists_in}
use Rattle.vr_first_arc.proofs.solution.first.Goals as goal

pub returns-clause-first : goal.returns-clause-first
returns-clause-first c =
    subst (λ model. IfOk c.first_over.result (λ first. lists_in first ≡ cond (is_valid model (path_cheapest_arc model)) (Some (path_cheapest_arc model)) None))
    c.in_ok-lookups.ensures c.first_over.ensures.first

pub returns-clause-visits : goal.returns-clause-visits
returns-clause-visits c = subst (λ model. IfOk c.first_over.result (λ first. IfSome first (λ routes. routes.visits ≡ visits model)))
    c.in_ok-lookups.ensures c.first_over.ensures.visits
