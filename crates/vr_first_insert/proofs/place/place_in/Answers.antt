use Rattle.std.proofs.Common.{◌≡◌, ◌∙◌, ℕ, [], ap, sym, subst, arith, length}
use Rattle.std.proofs.lemmas.List.{get_or_default}
use Rattle.vr_model.specs.moves.Moves.{with_route}
use Rattle.vr_model.specs.routes.Routes.{route}
use Rattle.vr_lists.proofs.VisitLists.{visits-below, visits-few}
use Rattle.vr_reach.specs.Lists.{IsTour}
use Rattle.vr_rules.proofs.PlacingLemmas.{built-count, built-visits, built-distinct}
use Rattle.vr_first_insert.specs.Placings.{placed, AreWithin}
use Rattle.vr_first_insert.proofs.PlacedLemmas.{IsAdded-placed}
use Rattle.vr_first_insert.proofs.place.place_in.Goals as goal

pub write_placed-requires-clause-within : goal.write_placed-requires-clause-within
write_placed-requires-clause-within c =
    let lists = c.args.lists.now in
    let v : ℕ = c.args.choice.vehicle in
    let before : c.as_slice-before.result.now ≡ route lists v = c.as_slice-before.ensures
    ∙ get_or_default lists v c.index-lists-v.result [] c.requires.may.vehicle in
    subst (λ list. AreWithin list c.args.choice.placing) (sym before) c.requires.may.within

pub write_placed-requires-clause-few : goal.write_placed-requires-clause-few
write_placed-requires-clause-few c =
    let model = c.args.lookups.now.closed.model.now in
    let lists = c.args.lists.now in
    let v : ℕ = c.args.choice.vehicle in
    let before : c.as_slice-before.result.now ≡ route lists v = c.as_slice-before.ensures
    ∙ get_or_default lists v c.index-lists-v.result [] c.requires.may.vehicle in
    let long = ap length before in
    omega (
      arith,
      long,
      visits-few model (route lists v) (built-visits model lists v c.requires.built) (built-distinct model lists v c.requires.built),
      c.args.lookups.now.closed.well_formed.number_of_nodes.1,
    )

pub invariant_of-list : goal.invariant_of-list
invariant_of-list c =
    let model = c.args.lookups.now.closed.model.now in
    let lists = c.args.lists.now in
    let v : ℕ = c.args.choice.vehicle in
    let placing = c.args.choice.placing in
    let may = c.requires.may in
    let before : c.as_slice-before.result.now ≡ route lists v = c.as_slice-before.ensures ∙ get_or_default lists v c.index-lists-v.result [] may.vehicle in
    let written = c.as_slice-nodes.ensures ∙ c.in_ok-write_placed.ensures ∙ ap (λ list. placed list placing) before in
    let added = IsAdded-placed model lists v placing c.requires.built may.vehicle may.is_item may.inactive may.within in
    let tour : IsTour model c.as_slice-nodes.result.now = subst (IsTour model) (sym written) (record { visits = added.visits; distinct = added.distinct }) in
    let count = built-count model lists c.requires.built in
    let there = may.vehicle in
    record { there = omega (arith, there, count); tour = tour; below = visits-below model c.as_slice-nodes.result.now tour.visits }

pub returns-clause-lists : goal.returns-clause-lists
returns-clause-lists c =
    let lists = c.args.lists.now in
    let v : ℕ = c.args.choice.vehicle in
    let before : c.as_slice-before.result.now ≡ route lists v = c.as_slice-before.ensures
    ∙ get_or_default lists v c.index-lists-v.result [] c.requires.may.vehicle in
    c.in_ok-change_list.ensures.lists
    ∙ ap (with_route lists v) (c.as_slice-nodes.ensures ∙ c.in_ok-write_placed.ensures ∙ ap (λ list. placed list c.args.choice.placing) before)
