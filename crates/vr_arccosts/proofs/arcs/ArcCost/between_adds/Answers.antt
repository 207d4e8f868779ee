use Rattle.std.proofs.Common.{◌≡◌, ◌∙◌, ◌<◌, ◌≤◌, ℕ, List, length, ap, sym, subst, arith}
use Rattle.std.proofs.lemmas.Int.{ints}
use Rattle.std.specs.Prelude.{slice_range, All}
use Rattle.vr_model.specs.routes.Routes.{route}
use Rattle.vr_model.specs.declared.records.Model.{Model}
use Rattle.vr_routes.specs.Pieces.{joined}
use Rattle.vr_arccosts.specs.Along.{between_cost, AreAlong, HaveAlong, StandsAlong}
use Rattle.vr_arccosts.specs.declared.lines.Along.{Along}
use Rattle.vr_arccosts.proofs.LineLemmas.{along-at}
use Rattle.vr_arccosts.proofs.MoveLemmas.{pieces-below, pieces-within}
use Rattle.vr_parts.proofs.PartLemmas.{small}
use Rattle.vr_arccosts.proofs.PathLemmas.{cost-between}
use Rattle.vr_arccosts.proofs.arcs.ArcCost.between_adds.Goals as goal

pub invariant_of-of : goal.invariant_of-of
invariant_of-of c =
    let s = subst (λ k. StandsAlong k c.args.routes.now) (sym c.self.view_is) c.requires.stands in
    let model = c.self.inside.model.now in
    let lists : List (List ℕ) = c.args.routes.now.lists in
    let kept : List Along = c.deref.result.now in
    let have : HaveAlong model c.args.v lists kept = record {
      nodes = (small model s.well_formed lists s.valid).below c.args.v;
      as_many = s.as_many;
      many = ap length c.deref.ensures.value ∙ s.many;
      along = subst (AreAlong model lists) (sym c.deref.ensures.value) s.along;
    } in
    let costs = c.costs_of-costs.ensures in
    record {
      have = subst (λ (m : Model). HaveAlong m c.costs_of-costs.result.vehicle lists kept) (ap (λ k. k.model) c.self.view_is ∙ sym costs.model)
          (subst (λ u. HaveAlong model u lists kept) (sym costs.vehicle) have);
    }

pub invariant_of-gap : goal.invariant_of-gap
invariant_of-gap c = record {
  order = c.requires.order;
  place = subst (λ u. c.args.behind ≤ length (route c.args.routes.now.lists u)) (sym c.costs_of-costs.ensures.vehicle) c.requires.place;
}

pub cost_along-requires-clause-within : goal.cost_along-requires-clause-within
cost_along-requires-clause-within c = pieces-within c.args.self.now.model c.args.routes.now.lists c.args.pieces.now c.requires.known

pub cost_along-requires-clause-nodes : goal.cost_along-requires-clause-nodes
cost_along-requires-clause-nodes c =
    let model : Model = c.args.self.now.model in
    let lists : List (List ℕ) = c.args.routes.now.lists in
    let s = small model c.requires.stands.well_formed lists c.requires.stands.valid in
    subst (λ (m : Model). All (λ node. node < m.nodes) (joined lists c.args.pieces.now))
    (sym c.costs_of-costs.ensures.model) (pieces-below model lists s.below c.args.pieces.now c.requires.known)

pub returns-clause-value : goal.returns-clause-value
returns-clause-value c =
    let s = subst (λ k. StandsAlong k c.args.routes.now) (sym c.self.view_is) c.requires.stands in
    let model : c.self.inside.model.now ≡ c.args.self.now.model = ap (λ s. s.model) c.self.view_is in
    let lists : List (List ℕ) = c.args.routes.now.lists in
    let v = c.args.v in
    let front = c.args.front in
    let behind = c.args.behind in
    let list : List ℕ = route lists v in
    let middle : List ℕ = joined lists c.args.pieces.now in
    let many = s.many in
    let as_many = s.as_many in
    let kept = along-at c.self.inside.model.now lists c.self.inside.along.items v
    c.index.result.now s.along (omega (arith, many, as_many)) c.requires.vehicle c.index.ensures in
    let a = c.cost_along.ensures in
    let b = c.stretch-before.ensures in
    let costs = c.costs_of-costs.ensures in
    let u = c.costs_of-costs.result.vehicle in
    let after = a.value
    ∙ (ap (λ (m : Model). between_cost m u (route lists u) front behind middle) costs.model
    ∙ ap (λ u. between_cost c.args.self.now.model u (route lists u) front behind middle) costs.vehicle) in
    let before = b.value c.self.inside.model.now v list kept ∙ ap (λ m. between_cost m v list front behind (slice_range list front behind)) model in
    let change = cost-between c.args.self.now.model v list middle front behind c.requires.order c.requires.place in
    omega (arith, ints, a.range.low, a.range.high, b.range.at_least, b.range.at_most, after, before, change)
