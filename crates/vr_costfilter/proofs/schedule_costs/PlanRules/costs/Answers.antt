use Rattle.std.proofs.Common.{◌≡◌, ◌∙◌, ◌+◌, ◌++◌, ◌∷◌, [], ℕ, List, length, length-append, ap, sym, subst, arith}
use Rattle.std.specs.Prelude.{IsTrue, ℤ, pos}
use Rattle.vr_model.specs.routes.Routes.{route}
use Rattle.vr_model.specs.routes.Rules.{is_valid}
use Rattle.vr_model.specs.declared.records.Model.{Model}
use Rattle.vr_costfilter.specs.PlanCosts.{plans_cost, AreCosts, IsPlanCost}
use Rattle.vr_costfilter.proofs.PlanLemmas.{read-cost}
use Rattle.vr_parts.proofs.RowLemmas.{rows-push}
use Rattle.vr_parts.proofs.PartLemmas.{small}
use Rattle.vr_costfilter.proofs.KnownLemmas.{tour-of}
use Rattle.vr_costfilter.proofs.PartLemmas.{list-of}
use Rattle.vr_costfilter.proofs.schedule_costs.PlanRules.costs.Goals as goal

pub invariant_of-tour : goal.invariant_of-tour
invariant_of-tour c =
    let m = c.self.inside.lookups.closed.model.now in
    let well = c.self.inside.lookups.closed.well_formed in
    let lists : List (List ℕ) = c.args.routes.now.lists in
    let valid = subst (λ m. IsTrue (is_valid m lists)) (sym c.self.view_is) c.requires in
    let many = (small m well lists valid).many in
    let end = c.vehicles-v-end.ensures.value in
    let low = c.loop-v-test.true in
    record {
      sound = tour-of m c.loop-v.v (route lists c.loop-v.v) (omega (arith, many, end, low))
          (list-of m well lists valid c.loop-v.v) c.list.result.now c.list.ensures.value;
    }

pub loop-v-preserved : goal.loop-v-preserved
loop-v-preserved c =
    let i = c.loop-v.invariant in
    let v = c.loop-v.v in
    let model : Model = c.args.self.now in
    let lists : List (List ℕ) = c.args.routes.now.lists in
    let e = c.in_ok-cost.ensures in
    let cost : ℤ = c.in_ok-cost.cost in
    let old : List ℤ = c.loop-v.costs.items in
    let value : cost ≡ plans_cost model v (route lists v) =
    e.value ∙ ap (λ (m : Model). plans_cost m v c.list.result.now) c.self.view_is ∙ ap (plans_cost model v) c.list.ensures.value in
    let new : c.push.new.self.items ≡ old ++ cost ∷ [] = c.in_ok-push.ensures.items ∙ ap (λ x. old ++ x ∷ []) (read-cost cost e.range) in
    record {
      many = ap length new ∙ length-append old (cost ∷ []) ∙ ap (λ n. n + 1) i.many;
      each = rows-push (λ u x. x ≡ plans_cost model u (route lists u)) (pos 0) old c.push.new.self.items cost v i.many i.each value new;
      range = rows-push (λ u x. IsPlanCost x) (pos 0) old c.push.new.self.items cost v i.many i.range e.range new;
    }

pub returns : goal.returns
returns c =
    let end = c.vehicles-v-end.ensures.value in
    let high = c.loop-v-test.false in
    let low = c.loop-v.auto.v-end in
    let all : c.loop-v.v ≡ length c.args.routes.now.lists = omega (arith, end, high, low) in
    subst (λ n. AreCosts c.args.self.now c.args.routes.now.lists n c.loop-v.costs.items) all c.loop-v.invariant
