use Rattle.std.proofs.Common.{◌≡◌, ◌∙◌, Some, None, cond, ap, sym, subst}
use Rattle.std.specs.Prelude.{IfSome}
use Rattle.vr_model.specs.routes.Rules.{is_valid}
use Rattle.vr_rules.proofs.CompleteLemmas.{complete-is-valid}
use Rattle.vr_rules.proofs.complete.complete_routes.Goals.{After-is_complete}
use Rattle.vr_rules.proofs.complete.complete_routes.Goals as goal

-- the routes have the lists ..
taken : (c : After-is_complete) → c.in-Some.routes.lists ≡ c.args.lists.now
taken c = subst (λ o. IfSome o (λ routes. routes.lists ≡ c.args.lists.now)) c.in-Some.is c.in_ok-routes.ensures.lists

-- .. and their marks tell whether these are valid
decided : (c : After-is_complete) → c.is_complete.result ≡ is_valid c.args.lookups.now.closed.model.now c.args.lists.now
decided c =
    complete-is-valid c.args.lookups.now.closed.model.now c.args.lookups.now.closed.well_formed c.args.lists.now c.in-Some.routes.lists
    c.in_ok-marks.marks.items c.deref.result.now c.is_complete.result c.requires (taken c) c.in_ok-marks.ensures c.deref.ensures.value
    c.is_complete.ensures

pub returns-then-is_complete-clause-lists : goal.returns-then-is_complete-clause-lists
returns-then-is_complete-clause-lists c =
    let after = (goal.at.returns-then-is_complete-clause-lists c).After-is_complete in
    ap Some (taken after) ∙ sym (ap (λ b. cond b (Some c.args.lists.now) None) (sym (decided after) ∙ c.if-is_complete.true))

pub returns-else-is_complete-clause-lists : goal.returns-else-is_complete-clause-lists
returns-else-is_complete-clause-lists c =
    sym (ap (λ b. cond b (Some c.args.lists.now) None)
    (sym (decided (goal.at.returns-else-is_complete-clause-lists c).After-is_complete) ∙ c.if-is_complete.false))
