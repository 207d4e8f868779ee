use Rattle.std.proofs.Common.{◌≡◌, ℕ, arith, of_z, rules, subst, sym, to_z, w64}
use Rattle.vr_model.specs.routes.Routes.{route}
use Rattle.vr_lists.proofs.VisitLists.{visits-below}
use Rattle.vr_reach.specs.Lists.{IsTour}
use Rattle.vr_first_insert.specs.Kept.{candidate_at, BestAddsAtLeast}
use Rattle.vr_first_insert.specs.Placings.{MayHold}
use Rattle.vr_first_insert.proofs.RowLemmas.{list_at}
use Rattle.vr_first_insert.proofs.ToldLemmas.{best-adds}
use Rattle.vr_first_insert.proofs.best_in_lists.adds_at_least.Goals as goal

pub invariant_of-list : goal.invariant_of-list
invariant_of-list c =
    let model = c.args.on.now.items.lookups.now.closed.model.now in
    let lists = c.args.on.now.lists.now in
    let v : ℕ = c.args.v in
    let list : c.as_slice-nodes.result.now ≡ route lists v = list_at lists v c.as_slice-nodes.result.now
    c.index-lists-v.result c.as_slice-nodes.ensures c.index-lists-v.is c.requires.there in
    let may = c.requires.may_hold v c.requires.there in
    let tour : IsTour model c.as_slice-nodes.result.now = subst (IsTour model) (sym list) (record { visits = may.visits; distinct = may.distinct }) in
    let low = c.requires.there in
    let many = c.requires.asked.vehicles in
    record { there = omega (arith, low, many); tour = tour; below = visits-below model c.as_slice-nodes.result.now tour.visits }

pub invariant_of-of : goal.invariant_of-of
invariant_of-of c =
    let lists = c.args.on.now.lists.now in
    let v : ℕ = c.args.v in
    let list : c.as_slice-nodes.result.now ≡ route lists v = list_at lists v c.as_slice-nodes.result.now
    c.index-lists-v.result c.as_slice-nodes.ensures c.index-lists-v.is c.requires.there in
    record {
      may_hold =
          subst (λ list. MayHold c.args.on.now.items.lookups.now.closed.model.now list (candidate_at c.args.on.now.items.candidates.now c.args.i).item)
          (sym list) (c.requires.may_hold v c.requires.there);
    }

pub returns : goal.returns
returns c =
    let model = c.args.on.now.items.lookups.now.closed.model.now in
    let lists = c.args.on.now.lists.now in
    let v : ℕ = c.args.v in
    let candidate = candidate_at c.args.on.now.items.candidates.now c.args.i in
    let list : c.as_slice-nodes.result.now ≡ route lists v = list_at lists v c.as_slice-nodes.result.now
    c.index-lists-v.result c.as_slice-nodes.ensures c.index-lists-v.is c.requires.there in
    let fits : to_z w64 (of_z w64 c.least_in.result) ≡ c.least_in.result = search rules in
    subst (BestAddsAtLeast model v (route lists v) candidate) (sym fits)
    (subst (λ l. BestAddsAtLeast model v l candidate c.least_in.result) list
    (best-adds model v c.as_slice-nodes.result.now candidate c.least_in.result c.least_in.ensures))
