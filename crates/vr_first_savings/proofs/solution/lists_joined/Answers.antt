use Rattle.std.proofs.Common.{◌≡◌, ◌∙◌, ◌++◌, List, ℕ, ap, length, subst, take}
use Rattle.std.proofs.lemmas.Result.{IfOk-weaker}
use Rattle.std.specs.Prelude.{IfOk, IsTrue}
use Rattle.vr_model.specs.routes.Routes.{are_lists}
use Rattle.vr_model.specs.first.Items.{empty_lists}
use Rattle.vr_model.specs.first.SavingsJoins.{merged, ranked}
use Rattle.vr_first_savings.proofs.RankLemmas.{AreApart-ranked, are_lists-first}
use Rattle.vr_first_savings.proofs.solution.lists_joined.Goals as goal

pub returns-clause-savings : goal.returns-clause-savings
returns-clause-savings c =
    let model = c.args.lookups.now.closed.model.now in
    let joined = c.in_ok-routes.ensures.merged ∙ ap (λ singles. merged model (length singles) singles) c.in_ok-singles.ensures.singles in
    subst (λ l. IfOk c.lists_of.result (λ lists. lists.items ≡ l))
    (ap (λ routes. take (length model.vehicles) (routes ++ empty_lists model))
    (c.in_ok-ranked.ensures ∙ (λ i. ranked (c.nodes-nodes.ensures i) (c.deref.ensures.value i)) ∙ ap (ranked model) joined))
    c.lists_of.ensures

pub returns-clause-lists : goal.returns-clause-lists
returns-clause-lists c =
    let model = c.args.lookups.now.closed.model.now in
    let routes : List (List ℕ) = c.in_ok-routes.routes.items in
    let same = c.in_ok-ranked.ensures ∙ (λ i. ranked (c.nodes-nodes.ensures i) (c.deref.ensures.value i)) in
    IfOk-weaker c.lists_of.result _ (λ lists. IsTrue (are_lists model lists.items))
    (λ lists is. ap (are_lists model) (is ∙ ap (λ routes. take (length model.vehicles) (routes ++ empty_lists model)) same)
    ∙ are_lists-first model (ranked model routes) (AreApart-ranked model routes c.in_ok-routes.ensures.apart))
    c.lists_of.ensures
