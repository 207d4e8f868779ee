use Rattle.std.proofs.Common.{◌∙◌, ◌<◌, ◌≤◌, ℕ, List, length, refl, ap, sym, subst, arith}
use Rattle.std.proofs.lemmas.Int.{ints}
use Rattle.std.specs.Prelude.{◌-ℤ◌, All}
use Rattle.vr_model.specs.routes.Routes.{route}
use Rattle.vr_routes.specs.declared.pieces.Piece.{Piece}
use Rattle.vr_routes.specs.Pieces.{no_part, part_at}
use Rattle.vr_routes.proofs.PartLemmas.{has_ends}
use Rattle.vr_parts.proofs.SpliceLemmas.{may_be_spliced, spliced_is}
use Rattle.vr_parts.proofs.SumLemmas.{sum-step, sum-whole}
use Rattle.vr_parts.proofs.PartLemmas.{small, below-after}
use Rattle.vr_parts.proofs.lists.added_by.Goals as goal

pub list_adds-total-requires-clause-as_many : goal.list_adds-total-requires-clause-as_many
list_adds-total-requires-clause-as_many g c =
    let s = small (g.C.ListCost.of_model c.args.cost.now) c.requires.well_formed c.args.routes.now.lists c.requires.valid in
    s.many

pub splice-requires-clause-ends : goal.splice-requires-clause-ends
splice-requires-clause-ends g c =
    has_ends c.args.routes.now.lists c.args.change.now c.requires.made.makes.parts_are
    c.loop-k.k (subst (λ n. c.loop-k.k < n) c.parts-k-end.ensures.value c.loop-k-test.true)

pub list_adds-total-requires-clause-splice : goal.list_adds-total-requires-clause-splice
list_adds-total-requires-clause-splice g c =
    let parts = c.args.change.now in
    let low = subst (λ n. c.loop-k.k < n) c.parts-k-end.ensures.value c.loop-k-test.true in
    let few = subst (λ (pieces : List Piece). length pieces ≤ 8) c.pieces-few.ensures.value c.pieces-few.ensures.few in
    may_be_spliced (part_at parts c.loop-k.k) c.splice.ensures.vehicle (c.splice.ensures.ends c.args.routes.now.lists c.requires.made.makes.parts_are)
    (c.requires.made.makes.parts_are.each_vehicle c.loop-k.k no_part low) few

pub list_adds-total-requires-clause-nodes : goal.list_adds-total-requires-clause-nodes
list_adds-total-requires-clause-nodes g c =
    let model = g.C.ListCost.of_model c.args.cost.now in
    let low = subst (λ n. c.loop-k.k < n) c.parts-k-end.ensures.value c.loop-k-test.true in
    let nodes = below-after model c.args.routes.now c.requires.of_model c.requires.valid c.args.change.now c.requires.made c.loop-k.k low in
    subst (All (λ node. node < model.nodes))
    (spliced_is (part_at c.args.change.now c.loop-k.k) c.splice.ensures.vehicle
    (c.splice.ensures.ends c.args.routes.now.lists c.requires.made.makes.parts_are)) nodes

pub list_adds-total-requires-clause-old_nodes : goal.list_adds-total-requires-clause-old_nodes
list_adds-total-requires-clause-old_nodes g c =
    let s = small (g.C.ListCost.of_model c.args.cost.now) c.requires.well_formed c.args.routes.now.lists c.requires.valid in
    s.below c.splice.result.vehicle

pub loop-k-preserved : goal.loop-k-preserved
loop-k-preserved g c =
    let f = g.C.ListCost.list_cost (g.C.ListCost.of_model c.args.cost.now) in
    let lists : List (List ℕ) = c.args.routes.now.lists in
    let k = c.loop-k.k in
    let p = c.list_adds-total.ensures in
    let i = c.loop-k.invariant in
    let low = subst (λ n. k < n) c.parts-k-end.ensures.value c.loop-k-test.true in
    let v = c.splice.result.vehicle in
    let value = p.value ∙ ap (λ list. f v list -ℤ f v (route lists v))
    (sym
    (spliced_is (part_at c.args.change.now k) c.splice.ensures.vehicle (c.splice.ensures.ends c.args.routes.now.lists c.requires.made.makes.parts_are))) in
    let next = sum-step f lists c.args.change.now k v (part_at c.args.change.now k).pieces c.loop-k.total
    c.list_adds-total.result low c.splice.ensures.vehicle refl (sym c.loop-k.total-is ∙ i.total) value in
    let is = c.loop-k.total-is in
    let few = c.parts-k-end.ensures.few in
    let less = c.loop-k-test.true in
    record {
      total = omega (arith, ints, next, is, i.range.low, i.range.high, p.range.low, p.range.high, few, less);
      range = record {
        low = omega (arith, ints, is, i.range.low, i.range.high, p.range.low, p.range.high, few, less);
        high = omega (arith, ints, is, i.range.low, i.range.high, p.range.low, p.range.high, few, less);
      };
    }

pub returns-clause-value : goal.returns-clause-value
returns-clause-value g c =
    let many = c.parts-k-end.ensures.value in
    let end = c.loop-k-test.false in
    sum-whole (g.C.ListCost.list_cost (g.C.ListCost.of_model c.args.cost.now)) c.args.routes.now.lists
    c.args.change.now c.requires.made.makes.parts_are c.loop-k.k _ (omega (arith, many, end)) c.loop-k.invariant.total

pub returns-clause-range : goal.returns-clause-range
returns-clause-range g c =
    let few = c.parts-k-end.ensures.few in
    let end = c.loop-k.auto.k-end in
    let r = c.loop-k.invariant.range in
    record { low = omega (arith, ints, few, end, r.low); high = omega (arith, ints, few, end, r.high) }
