use Rattle.std.proofs.Common.{◌≡◌, ◌∙◌, ℕ, List, Option, Some, None, cond, sym, subst}
use Rattle.std.specs.Prelude.{IfOk}
use Rattle.vr_model.specs.routes.Rules.{is_valid}
use Rattle.vr_routes.specs.Tours.{Tours}
use Rattle.vr_rules.specs.Placing.{lists_in, AreBuilt}
use Rattle.vr_first_insert.proofs.solution.first_kept.Goals as goal

pub complete_routes-requires : goal.complete_routes-requires
complete_routes-requires c = subst (AreBuilt c.args.lookups.now.closed.model.now) (sym c.deref.ensures.value) c.in_ok-rebuild_empty.ensures.built

pub returns-clause-first : goal.returns-clause-first
returns-clause-first c =
    let Are = λ (lists : List (List ℕ)) (found : Option Tours). lists_in found ≡ cond (is_valid c.args.lookups.now.closed.model.now lists) (Some lists) None in
    subst (λ lists. IfOk c.complete_routes.result (Are lists)) (c.deref.ensures.value ∙ c.in_ok-rebuild_empty.ensures.lists) c.complete_routes.ensures.lists
