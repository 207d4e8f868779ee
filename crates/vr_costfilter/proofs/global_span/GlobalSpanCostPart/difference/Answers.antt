use Rattle.std.proofs.Common.{◌∙◌, ℕ, List, ap, sym, subst, arith}
use Rattle.std.proofs.lemmas.Int.{ints}
use Rattle.vr_routes.specs.Pieces.{changed}
use Rattle.vr_model.specs.declared.records.Model.{Model}
use Rattle.vr_costfilter.specs.GlobalCosts.{global_cost_of, IsGlobalCost, KeptSpans}
use Rattle.vr_costfilter.proofs.GlobalLemmas.{ranged-next, rows-like, stands-like}
use Rattle.vr_costfilter.proofs.global_span.GlobalSpanCostPart.difference.Goals as goal

pub returns-then-is_idle-clause-exact : goal.returns-then-is_idle-clause-exact
returns-then-is_idle-clause-exact c =
    let lists : List (List ℕ) = c.args.routes.now.lists in
    let same = c.is_idle.ensures.alike c.if-is_idle.true lists (changed lists c.args.change.now) c.requires.stands.valid c.requires.valid in
    omega (arith, ints, same)

pub returns-in_err-write_next-clause-stands : goal.returns-in_err-write_next-clause-stands
returns-in_err-write_next-clause-stands c = stands-like c.args.self.now c.write_next.new.self c.args.routes.now c.requires.stands c.write_next.ensures.like

pub cost_after-requires : goal.cost_after-requires
cost_after-requires c =
    let later : KeptSpans = c.write_next.new.self in
    let parts = c.args.change.now in
    let rows = rows-like c.args.self.now later c.args.routes.now parts
    (record { stands = c.requires.stands; made = c.requires.made; valid = c.requires.valid })
    c.in_ok-write_next.ensures.like c.in_ok-write_next.ensures.next in
    ranged-next later.model c.args.routes.now.lists parts later.orders later.next rows

pub returns-clause-exact : goal.returns-clause-exact
returns-clause-exact c =
    let lists : List (List ℕ) = changed c.args.routes.now.lists c.args.change.now in
    let like = c.in_ok-write_next.ensures.like in
    let view = c.self.view_is in
    let rows = rows-like c.args.self.now c.write_next.new.self c.args.routes.now c.args.change.now
    (record { stands = c.requires.stands; made = c.requires.made; valid = c.requires.valid }) like c.in_ok-write_next.ensures.next in
    let after = c.cost_after.ensures.value c.args.routes.now.lists rows ∙ ap (λ (m : Model). global_cost_of m lists) like.model in
    let before = ap (λ s. s.cost) view ∙ like.cost ∙ c.requires.stands.cost in
    let a = c.cost_after.ensures.range in
    let b = subst IsGlobalCost (sym (ap (λ s. s.cost) view ∙ like.cost)) c.requires.stands.range in
    omega (arith, ints, after, before, a.low, a.high, b.low, b.high)

pub returns-clause-stands : goal.returns-clause-stands
returns-clause-stands c =
    stands-like c.args.self.now c.write_next.new.self c.args.routes.now c.requires.stands c.write_next.ensures.like

pub returns-clause-range : goal.returns-clause-range
returns-clause-range c =
    let like = c.in_ok-write_next.ensures.like in
    let view = c.self.view_is in
    let a = c.cost_after.ensures.range in
    let b = subst IsGlobalCost (sym (ap (λ s. s.cost) view ∙ like.cost)) c.requires.stands.range in
    record { low = omega (arith, ints, a.low, a.high, b.low, b.high); high = omega (arith, ints, a.low, a.high, b.low, b.high) }

pub write_next-requires : goal.write_next-requires
write_next-requires c = record { change = record { stands = c.requires.stands; made = c.requires.made; valid = c.requires.valid } }
