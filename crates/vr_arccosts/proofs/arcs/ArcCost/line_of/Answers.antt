use Rattle.std.proofs.Common.{◌∙◌, ℕ, List, ap, subst, sym, arith}
use Rattle.vr_model.specs.routes.Routes.{route}
use Rattle.vr_model.specs.declared.records.Model.{Model}
use Rattle.vr_arccosts.specs.Along.{StandsAlong}
use Rattle.vr_arccosts.specs.Runs.{IsLine}
use Rattle.vr_arccosts.proofs.LineLemmas.{along-at}
use Rattle.vr_parts.proofs.PartLemmas.{small}
use Rattle.vr_arccosts.proofs.arcs.ArcCost.line_of.Goals as goal

pub invariant_of-result : goal.invariant_of-result
invariant_of-result c =
    let s = subst (λ k. StandsAlong k c.args.routes.now) (sym c.self.view_is) c.requires.stands in
    let lists : List (List ℕ) = c.args.routes.now.lists in
    let v = c.args.v in
    let few = small c.self.inside.model.now s.well_formed lists s.valid in
    let many = s.many in
    let as_many = s.as_many in
    let is : IsLine c.self.inside.model.now v (route lists v) c.index.result.now = record {
      nodes = few.below v;
      few = few.few v;
      sums = along-at c.self.inside.model.now lists c.self.inside.along.items v c.index.result.now
          s.along (omega (arith, many, as_many)) c.requires.vehicle c.index.ensures;
    } in
    record {
      sound = subst (λ (m : Model). IsLine m c.costs_of.result.vehicle c.list.result.now c.index.result.now)
          (ap (λ k. k.model) c.self.view_is ∙ sym c.costs_of.ensures.model)
          (subst (λ n. IsLine c.self.inside.model.now n c.list.result.now c.index.result.now) (sym c.costs_of.ensures.vehicle)
          (subst (λ l. IsLine c.self.inside.model.now v l c.index.result.now) (sym c.list.ensures.value) is));
    }
