use Rattle.std.proofs.Common.{◌≡◌, ◌∙◌, ◌++◌, ◌∷◌, [], List, length, ap, sym, subst, arith}
use Rattle.std.specs.Prelude.{ℤ}
use Rattle.vr_routes.specs.Pieces.{part_at}
use Rattle.vr_costfilter.specs.PlanCosts.{cost_after, AreCostsAfter, ArePlansLike, KeptPlans}
use Rattle.vr_costfilter.proofs.CostLemmas.{costs-after-push}
use Rattle.vr_costfilter.proofs.KnownLemmas.{still-valid}
use Rattle.vr_costfilter.proofs.PlanLemmas.{plans-like, read-cost}
use Rattle.vr_costfilter.proofs.plan_cost.PlanCost.write_next.Goals as goal

pub cost_after-requires-clause-change : goal.cost_after-requires-clause-change
cost_after-requires-clause-change c =
    let h = c.requires.change in
    still-valid h c.loop-k.invariant.like.model (plans-like c.args.self.now c.loop-k.self c.args.routes.now h.stands c.loop-k.invariant.like)

pub loop-k-preserved : goal.loop-k-preserved
loop-k-preserved c =
    let i = c.loop-k.invariant in
    let e = c.in_ok-cost.ensures in
    let old : List ℤ = c.self-in-loop-k.inside.next.items in
    let same = c.self-in-loop-k.view_is ∙ e.stays in
    let costs = subst (AreCostsAfter c.args.self.now.model c.args.routes.now.lists c.args.change.now c.loop-k.k)
    (sym (ap (λ (s : KeptPlans). s.next) same)) i.next in
    let value = e.value ∙ ap (λ m. cost_after m c.args.routes.now.lists (part_at c.args.change.now c.loop-k.k)) i.like.model in
    let new : c.push.new.self.items ≡ old ++ c.in_ok-cost.cost ∷ [] = c.push.ensures.items ∙ ap (λ x. old ++ x ∷ []) (read-cost c.in_ok-cost.cost e.range) in
    record {
      like = record {
        model = ap (λ s. s.model) same ∙ i.like.model;
        costs = ap (λ s. s.costs) same ∙ i.like.costs;
        cumuls = ap (λ s. s.cumuls) same ∙ i.like.cumuls;
      };
      unprepared = ap (λ s. s.is_prepared) same ∙ i.unprepared;
      next = costs-after-push c.args.self.now.model c.args.routes.now.lists c.args.change.now
          c.loop-k.k old c.push.new.self.items c.in_ok-cost.cost costs value e.range new;
    }

pub returns-clause-next : goal.returns-clause-next
returns-clause-next c =
    let i = c.loop-k.invariant in
    let parts = c.args.change.now in
    let all : c.loop-k.k ≡ length parts = omega (arith, c.parts-k-end.ensures.value, c.loop-k-test.false, c.loop-k.auto.k-end) in
    subst (λ m. AreCostsAfter m c.args.routes.now.lists parts (length parts) c.loop-k.self.next) (sym i.like.model)
    (subst (λ n. AreCostsAfter c.args.self.now.model c.args.routes.now.lists parts n c.loop-k.self.next) all i.next)

pub returns-in_err-cost-clause-like : goal.returns-in_err-cost-clause-like
returns-in_err-cost-clause-like c = subst (ArePlansLike c.args.self.now) (sym c.cost_after.ensures.stays) c.loop-k.invariant.like
