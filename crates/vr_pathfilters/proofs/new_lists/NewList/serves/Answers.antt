use Rattle.std.proofs.Common.{◌∙◌, ℕ, List, ap, subst}
use Rattle.std.specs.Prelude.{◌==◌, nat_lt, IsTrue}
use Rattle.vr_model.specs.routes.Routes.{is_distinct}
use Rattle.vr_lists.proofs.PlaceLemmas.{serves-in_order, serves-not_in_order}
use Rattle.vr_pathfilters.proofs.new_lists.NewList.serves.Goals as goal

pub returns-then-pickup-delivery : goal.returns-then-pickup-delivery
returns-then-pickup-delivery c =
    let distinct = subst (λ (l : List ℕ). IsTrue (is_distinct l)) c.self.view_is c.self.invariant.distinct in
    ap (nat_lt c.place-delivery.result) c.len.ensures
    ∙ serves-in_order c.args.self.now c.args.pair c.place-pickup.result c.place-delivery.result
    c.place-pickup.ensures c.place-delivery.ensures distinct c.if-pickup-delivery.true

pub returns-else-pickup-delivery : goal.returns-else-pickup-delivery
returns-else-pickup-delivery c =
    let distinct = subst (λ (l : List ℕ). IsTrue (is_distinct l)) c.self.view_is c.self.invariant.distinct in
    ap (λ n. c.place-delivery.result == n) c.len-else-pickup-delivery.ensures
    ∙ serves-not_in_order c.args.self.now c.args.pair c.place-pickup.result c.place-delivery.result
    c.place-pickup.ensures c.place-delivery.ensures distinct c.if-pickup-delivery.false
