use Rattle.std.proofs.Common.{◌∙◌, ◌<◌, ℕ, List, ap, sym, subst, arith}
use Rattle.std.proofs.lemmas.Int.{ints}
use Rattle.std.proofs.lemmas.List.{take_all}
use Rattle.std.specs.Prelude.{◌-ℤ◌, ◌≤ℤ◌}
use Rattle.vr_model.specs.tables.Numbers.{total_by}
use Rattle.vr_model.specs.routes.Routes.{route}
use Rattle.vr_model.specs.declared.records.Model.{Model}
use Rattle.vr_routes.specs.Pieces.{ListAfter, changed, joined, part_at}
use Rattle.vr_routes.specs.Tours.{Tours}
use Rattle.vr_earliest.specs.declared.earlies.Early.{Early}
use Rattle.vr_costfilter.specs.EarlyParts.{AreEarlyInRange, AreEarlyParts}
use Rattle.vr_costfilter.specs.PlanCosts.{plans_cost, soft_and_span, spans_least, ArePlansKnown, KeptPlans}
use Rattle.vr_costfilter.proofs.CostLemmas.{old-cost}
use Rattle.vr_costfilter.proofs.KnownLemmas.{early-range}
use Rattle.vr_costfilter.proofs.PlanLemmas.{idle-where}
use Rattle.vr_parts.specs.Sums.{part_less}
use Rattle.vr_costfilter.proofs.LeastSpanLemmas.{change-idle, change-least, least-idle, less-more}
use Rattle.vr_costfilter.proofs.plan_cost.PlanCost.least.Goals as goal

-- what is told of the lists after the change
told-of : (kept : KeptPlans) (rows : List (List Early)) (parts : List ListAfter) (tours : Tours)
    → ArePlansKnown kept rows parts tours → AreEarlyParts kept.model tours.lists parts rows
told-of kept rows parts tours h =
    record { well_formed = h.stands.well_formed; as_many = h.stands.as_many; parts_are = h.made.makes.parts_are; earlies = h.earlies }

pub least-requires-clause-earlies : goal.least-requires-clause-earlies
least-requires-clause-earlies c =
    let s = c.args.self.now in
    let tours : Tours = c.requires.0 in
    let told = told-of s c.args.earlies.now c.args.change.now tours c.requires.1 in
    subst (λ (m : Model). AreEarlyInRange m c.args.change.now c.args.earlies.now)
    (sym (ap (λ s. s.model) c.self.view_is)) (early-range s.model tours.lists c.args.change.now c.args.earlies.now told)

pub overflow_sub-least : goal.overflow_sub-least
overflow_sub-least c =
    let low = subst (λ n. c.loop-k.k < n) c.parts-k-end.ensures.value c.loop-k-test.true in
    let b = (old-cost c.args.self.now c.requires.0 c.args.change.now c.requires.1.stands c.requires.1.made.makes.parts_are c.loop-k.k low
    c.self.inside.costs.items (ap (λ s. s.costs) c.self.view_is) c.vehicle-v.result c.vehicle-v.ensures c.index.result.now c.index.ensures).range in
    let r = c.least.ensures.range in
    omega (arith, ints, b.low, b.high, r.low, r.high)

pub overflow_add-least : goal.overflow_add-least
overflow_add-least c =
    let low = subst (λ n. c.loop-k.k < n) c.parts-k-end.ensures.value c.loop-k-test.true in
    let b = (old-cost c.args.self.now c.requires.0 c.args.change.now c.requires.1.stands c.requires.1.made.makes.parts_are c.loop-k.k low
    c.self.inside.costs.items (ap (λ s. s.costs) c.self.view_is) c.vehicle-v.result c.vehicle-v.ensures c.index.result.now c.index.ensures).range in
    let r = c.least.ensures.range in
    let i = c.loop-k.invariant.range in
    omega (arith, ints, b.low, b.high, r.low, r.high, i.low, i.high, c.loop-k.least-is, c.parts-k-end.ensures.few, c.loop-k-test.true)

pub loop-k-preserved : goal.loop-k-preserved
loop-k-preserved c =
    let model = c.args.self.now.model in
    let k = c.loop-k.k in
    let low = subst (λ n. k < n) c.parts-k-end.ensures.value c.loop-k-test.true in
    let part = part_at c.args.change.now k in
    let b = (old-cost c.args.self.now c.requires.0 c.args.change.now c.requires.1.stands c.requires.1.made.makes.parts_are k low
    c.self.inside.costs.items (ap (λ s. s.costs) c.self.view_is) c.vehicle-v.result c.vehicle-v.ensures c.index.result.now c.index.ensures).range in
    let r = c.least.ensures.range in
    let i = c.loop-k.invariant in
    let same = c.loop-k.least-is in
    let few = c.parts-k-end.ensures.few in
    let less = c.loop-k-test.true in
    record {
      sum = λ tours h.
          let lists : List (List ℕ) = tours.lists in
          let seen = ap (λ (s : KeptPlans). s.model) c.self.view_is in
          let now = old-cost c.args.self.now tours c.args.change.now h.stands h.made.makes.parts_are k low c.self.inside.costs.items
          (ap (λ s. s.costs) c.self.view_is) c.vehicle-v.result c.vehicle-v.ensures c.index.result.now c.index.ensures in
          let old = now.value ∙ ap (λ w. plans_cost model w (route lists w)) c.vehicle-v.ensures in
          let told = subst (λ (m : Model). AreEarlyParts m lists c.args.change.now c.args.earlies.now)
          (sym seen) (told-of c.args.self.now c.args.earlies.now c.args.change.now tours h) in
          let new = c.least.ensures.value lists told ∙ ap (λ m. spans_least m part.vehicle (joined lists part.pieces)) seen in
          let next = less-more (spans_least model) (plans_cost model) lists c.args.change.now k low in
          let before = i.sum tours h in
          omega (arith, ints, next, new, old, before, b.low, b.high, r.low, r.high, i.range.low, i.range.high, same, few, less);
      range = record {
        low = omega (arith, ints, b.low, b.high, r.low, r.high, i.range.low, i.range.high, same, few, less);
        high = omega (arith, ints, b.low, b.high, r.low, r.high, i.range.low, i.range.high, same, few, less);
      };
    }

pub returns-clause-range : goal.returns-clause-range
returns-clause-range c =
    let r = c.loop-k.invariant.range in
    let few = c.parts-k-end.ensures.few in
    let end = c.loop-k.auto.k-end in
    record { low = omega (arith, ints, few, end, r.low); high = omega (arith, ints, few, end, r.high) }

pub returns-clause-value : goal.returns-clause-value
returns-clause-value c tours h =
    let model = c.args.self.now.model in
    let many = c.parts-k-end.ensures.value in
    let end = c.loop-k-test.false in
    c.loop-k.invariant.sum tours h
    ∙ ap (total_by (part_less (spans_least model) (plans_cost model) tours.lists)) (take_all c.loop-k.k c.args.change.now (omega (arith, many, end)))

pub returns-clause-least : goal.returns-clause-least
returns-clause-least c tours h valid =
    let model = c.args.self.now.model in
    let lists : List (List ℕ) = tours.lists in
    let least = change-least model h.stands.well_formed lists c.args.change.now h.made.makes.parts_are h.stands.as_many valid in
    subst (λ x. x ≤ℤ (soft_and_span model (changed lists c.args.change.now) -ℤ soft_and_span model lists)) (sym (returns-clause-value c tours h)) least

pub returns-then-is_idle-clause-value : goal.returns-then-is_idle-clause-value
returns-then-is_idle-clause-value c tours h =
    sym (least-idle c.args.self.now.model (idle-where c.args.self.now.model (sym c.is_idle.ensures.idle ∙ c.if-is_idle.true)) tours.lists c.args.change.now)

pub returns-then-is_idle-clause-least : goal.returns-then-is_idle-clause-least
returns-then-is_idle-clause-least c tours h valid =
    change-idle c.args.self.now.model (idle-where c.args.self.now.model (sym c.is_idle.ensures.idle ∙ c.if-is_idle.true))
    tours.lists (changed tours.lists c.args.change.now)
