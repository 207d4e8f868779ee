use Rattle.std.proofs.Common.{◌≡◌, ◌∙◌, Bool, true, false, cond, List, ℕ, Option, Some, None, refl, ap}
use Rattle.std.specs.Prelude.{IsTrue, IfSome}
use Rattle.std.proofs.lemmas.Result.{IfOk-weaker}
use Rattle.vr_model.specs.first.PathCheapestArc.{path_cheapest_arc}
use Rattle.vr_model.specs.routes.Rules.{is_valid}
use Rattle.vr_model.specs.declared.records.Model.{Model}
use Rattle.vr_routes.specs.Tours.{Tours}
use Rattle.vr_rules.specs.Placing.{lists_in}
use Rattle.vr_bench.proofs.input.first.Goals as goal

-- lists that are given only where they are valid
valid_where_given : (model : Model) (lists : List (List ℕ)) (valid : Bool) → is_valid model lists ≡ valid → (found : Option Tours)
    → lists_in found ≡ cond valid (Some lists) None → IfSome found (λ routes. IsTrue (is_valid model routes.lists))
valid_where_given model lists valid is None given = search
valid_where_given model lists true is (Some routes) given = let same : routes.lists ≡ lists = cc in ap (is_valid model) same ∙ is
valid_where_given model lists false is (Some routes) given = absurd cc

pub returns-clause-valid : goal.returns-clause-valid
returns-clause-valid c =
    let model = c.args.closed.model.now in
    IfOk-weaker c.first.result _ (λ found. IfSome found (λ routes. IsTrue (is_valid model routes.lists)))
    (λ found given. valid_where_given model (path_cheapest_arc model) (is_valid model (path_cheapest_arc model)) refl found given) c.first.ensures.first
