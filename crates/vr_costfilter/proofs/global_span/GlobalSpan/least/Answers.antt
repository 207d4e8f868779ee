use Rattle.std.proofs.Common.{◌∙◌, [], ℕ, List, refl, ap, sym, subst, arith}
use Rattle.std.proofs.lemmas.Int.{ints}
use Rattle.vr_model.specs.declared.records.Model.{Model}
use Rattle.vr_routes.specs.Pieces.{ListAfter, changed}
use Rattle.vr_routes.specs.Tours.{Tours}
use Rattle.vr_earliest.specs.declared.earlies.Early.{Early}
use Rattle.vr_costfilter.specs.EarlyParts.{AreEarlyInRange, AreEarlyParts}
use Rattle.vr_costfilter.specs.declared.orders.SortedEnds.{SortedEnds}
use Rattle.vr_costfilter.specs.GlobalCosts.{AreAllOrders, AreSpansKnown, KeptSpans}
use Rattle.vr_costfilter.specs.Spreads.{global_least}
use Rattle.vr_costfilter.proofs.GlobalLemmas.{none-costs, none-pays, ranged-alone, ranged-same}
use Rattle.vr_costfilter.proofs.KnownLemmas.{early-range}
use Rattle.vr_costfilter.proofs.SpreadLemmas.{least-holds, none-least}
use Rattle.vr_costfilter.proofs.global_span.GlobalSpan.least.Goals as goal

-- what is told of the lists after the change
told-of : (kept : KeptSpans) (rows : List (List Early)) (parts : List ListAfter) (tours : Tours)
    → AreSpansKnown kept rows parts tours → AreEarlyParts kept.model tours.lists parts rows
told-of kept rows parts tours h =
    record { well_formed = h.stands.well_formed; as_many = h.stands.as_many; parts_are = h.made.makes.parts_are; earlies = h.earlies }

pub least-requires-clause-earlies : goal.least-requires-clause-earlies
least-requires-clause-earlies c =
    let s = c.args.self.now in
    let tours : Tours = c.requires.0 in
    let told = told-of s c.args.earlies.now c.args.change.now tours c.requires.1 in
    subst (λ (m : Model). AreEarlyInRange m c.args.change.now c.args.earlies.now)
    (sym (ap (λ s. s.model) c.self.view_is)) (early-range s.model tours.lists c.args.change.now c.args.earlies.now told)

pub least-requires-clause-orders : goal.least-requires-clause-orders
least-requires-clause-orders c =
    let s = c.args.self.now in
    ranged-same s.model c.self.inside.rules s.orders c.deref.result.now [] []
    (ap (λ s. s.model) c.self.view_is) (c.deref.ensures.value ∙ ap (λ s. s.orders) c.self.view_is) refl
    (ranged-alone s.model c.requires.0.lists s.orders c.requires.1.stands.orders)

pub returns-then-is_idle-clause-value : goal.returns-then-is_idle-clause-value
returns-then-is_idle-clause-value c tours h =
    let model = c.args.self.now.model in
    let none = none-pays model (sym c.is_idle.ensures.idle ∙ c.if-is_idle.true) in
    let a = none-least model none tours.lists c.args.change.now in
    let b = none-costs model none tours.lists in
    omega (arith, ints, a, b)

pub returns-then-is_idle-clause-least : goal.returns-then-is_idle-clause-least
returns-then-is_idle-clause-least c tours h valid =
    let same = c.is_idle.ensures.alike c.if-is_idle.true tours.lists (changed tours.lists c.args.change.now) h.stands.valid valid in
    omega (arith, ints, same)

pub returns-clause-value : goal.returns-clause-value
returns-clause-value c tours h =
    let lists : List (List ℕ) = tours.lists in
    let parts = c.args.change.now in
    let model = ap (λ (s : KeptSpans). s.model) c.self.view_is in
    let told = subst (λ (m : Model). AreEarlyParts m lists parts c.args.earlies.now) (sym model) (told-of c.args.self.now c.args.earlies.now parts tours h) in
    let seen = subst (λ (m : Model). AreAllOrders m lists c.deref.result.now) (sym model)
    (subst (λ (os : List SortedEnds). AreAllOrders c.args.self.now.model lists os)
    (sym (c.deref.ensures.value ∙ ap (λ s. s.orders) c.self.view_is)) h.stands.orders) in
    let least = c.least.ensures.value lists told seen ∙ ap (λ m. global_least m lists parts) model in
    let cost = ap (λ s. s.cost) c.self.view_is in
    let r = c.least.ensures.range in
    let s = h.stands.range in
    omega (arith, ints, least, cost, h.stands.cost, r.low, r.high, s.low, s.high)

pub returns-clause-least : goal.returns-clause-least
returns-clause-least c tours h valid =
    let value = returns-clause-value c tours h in
    let least = least-holds c.args.self.now.model h.stands.well_formed tours.lists c.args.change.now h.made.makes.parts_are valid in
    omega (arith, ints, value, least)

pub returns-clause-range : goal.returns-clause-range
returns-clause-range c =
    let cost = ap (λ s. s.cost) c.self.view_is in
    let r = c.least.ensures.range in
    let s = c.requires.1.stands.range in
    record { low = omega (arith, ints, cost, r.low, r.high, s.low, s.high); high = omega (arith, ints, cost, r.low, r.high, s.low, s.high) }
