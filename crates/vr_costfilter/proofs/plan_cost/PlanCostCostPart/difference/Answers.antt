use Rattle.std.proofs.Common.{◌≡◌, ◌∙◌, ◌<◌, ℕ, List, refl, ap, sym, subst, arith}
use Rattle.std.proofs.lemmas.Int.{ints}
use Rattle.std.specs.Prelude.{ℤ, ◌-ℤ◌}
use Rattle.vr_model.specs.tables.Numbers.{number_at}
use Rattle.vr_model.specs.routes.Routes.{route}
use Rattle.vr_routes.specs.Pieces.{joined, part_at, changed}
use Rattle.vr_costfilter.specs.PlanCosts.{plans_cost}
use Rattle.vr_parts.proofs.SumLemmas.{sum-step, sum-whole}
use Rattle.vr_costfilter.proofs.CostLemmas.{next-cost, old-cost}
use Rattle.vr_costfilter.proofs.PlanLemmas.{plans-over}
use Rattle.vr_costfilter.proofs.plan_cost.PlanCostCostPart.difference.Goals as goal

pub overflow_sub-total : goal.overflow_sub-total
overflow_sub-total c =
    let e = c.in_ok-make_ready.ensures in
    let low = subst (λ n. c.loop-k.k < n) c.parts-k-end.ensures.value c.loop-k-test.true in
    let a = (next-cost c.make_ready.new.self c.args.routes.now c.args.change.now e.ready.costed c.args.self.now.model
    e.like.model c.loop-k.k low c.vehicle.result c.vehicle.ensures (number_at c.deref.result.now c.loop-k.k)
    (ap (λ l. number_at l c.loop-k.k) (c.deref.ensures.0 ∙ ap (λ s. s.next) c.self.view_is))).range in
    let b =
    (old-cost c.args.self.now c.args.routes.now c.args.change.now c.requires.stands c.requires.made.makes.parts_are c.loop-k.k low c.self.inside.costs.items
    (ap (λ s. s.costs) c.self.view_is ∙ e.like.costs) c.vehicle.result c.vehicle.ensures c.index.result.now c.index.ensures).range in
    omega (arith, ints, a.low, a.high, b.low, b.high)

pub overflow_add-total : goal.overflow_add-total
overflow_add-total c =
    let e = c.in_ok-make_ready.ensures in
    let low = subst (λ n. c.loop-k.k < n) c.parts-k-end.ensures.value c.loop-k-test.true in
    let a = (next-cost c.make_ready.new.self c.args.routes.now c.args.change.now e.ready.costed c.args.self.now.model
    e.like.model c.loop-k.k low c.vehicle.result c.vehicle.ensures (number_at c.deref.result.now c.loop-k.k)
    (ap (λ l. number_at l c.loop-k.k) (c.deref.ensures.0 ∙ ap (λ s. s.next) c.self.view_is))).range in
    let b =
    (old-cost c.args.self.now c.args.routes.now c.args.change.now c.requires.stands c.requires.made.makes.parts_are c.loop-k.k low c.self.inside.costs.items
    (ap (λ s. s.costs) c.self.view_is ∙ e.like.costs) c.vehicle.result c.vehicle.ensures c.index.result.now c.index.ensures).range in
    let i = c.loop-k.invariant.range in
    omega (arith, ints, a.low, a.high, b.low, b.high, i.low, i.high, c.loop-k.total-is, c.parts-k-end.ensures.few, c.loop-k-test.true)

pub loop-k-preserved : goal.loop-k-preserved
loop-k-preserved c =
    let lists : List (List ℕ) = c.args.routes.now.lists in
    let part = part_at c.args.change.now c.loop-k.k in
    let e = c.in_ok-make_ready.ensures in
    let low = subst (λ n. c.loop-k.k < n) c.parts-k-end.ensures.value c.loop-k-test.true in
    let after = next-cost c.make_ready.new.self c.args.routes.now c.args.change.now e.ready.costed c.args.self.now.model
    e.like.model c.loop-k.k low c.vehicle.result c.vehicle.ensures (number_at c.deref.result.now c.loop-k.k)
    (ap (λ l. number_at l c.loop-k.k) (c.deref.ensures.0 ∙ ap (λ s. s.next) c.self.view_is)) in
    let before = old-cost c.args.self.now c.args.routes.now c.args.change.now c.requires.stands c.requires.made.makes.parts_are c.loop-k.k low
    c.self.inside.costs.items (ap (λ s. s.costs) c.self.view_is ∙ e.like.costs) c.vehicle.result c.vehicle.ensures c.index.result.now c.index.ensures in
    let a = after.range in
    let b = before.range in
    let i = c.loop-k.invariant in
    let total = c.loop-k.total-is in
    let few = c.parts-k-end.ensures.few in
    let less = c.loop-k-test.true in
    let f = plans_cost c.args.self.now.model in
    let change : ℤ = number_at c.deref.result.now c.loop-k.k -ℤ c.index.result.now in
    let value : change ≡ f c.vehicle.result (joined lists part.pieces) -ℤ f c.vehicle.result (route lists c.vehicle.result) =
    omega (arith, ints, after.value, before.value) in
    let next = sum-step f lists c.args.change.now c.loop-k.k c.vehicle.result part.pieces
    c.loop-k.total change low c.vehicle.ensures refl (sym total ∙ i.total) value in
    record {
      total = omega (arith, ints, next, a.low, a.high, b.low, b.high, i.range.low, i.range.high, total, few, less);
      range = record {
        low = omega (arith, ints, a.low, a.high, b.low, b.high, i.range.low, i.range.high, total, few, less);
        high = omega (arith, ints, a.low, a.high, b.low, b.high, i.range.low, i.range.high, total, few, less);
      };
    }

pub returns-clause-exact : goal.returns-clause-exact
returns-clause-exact c =
    let model = c.args.self.now.model in
    let lists : List (List ℕ) = c.args.routes.now.lists in
    let parts = c.args.change.now in
    let many = c.parts-k-end.ensures.value in
    let end = c.loop-k-test.false in
    let w = sum-whole (plans_cost model) lists parts c.requires.made.makes.parts_are c.loop-k.k _ (omega (arith, many, end)) c.loop-k.invariant.total in
    let x = plans-over model lists in
    let y = plans-over model (changed lists parts) in
    omega (arith, ints, w, x, y)

pub returns-then-is_idle-clause-exact : goal.returns-then-is_idle-clause-exact
returns-then-is_idle-clause-exact c =
    let lists : List (List ℕ) = c.args.routes.now.lists in
    let same = c.is_idle.ensures.alike c.if-is_idle.true lists (changed lists c.args.change.now) c.requires.stands.valid c.requires.valid in
    omega (arith, ints, same)

pub make_ready-requires : goal.make_ready-requires
make_ready-requires c = record { change = record { stands = c.requires.stands; made = c.requires.made; valid = c.requires.valid } }
