use Rattle.std.proofs.Common.{◌∙◌, ◌<◌, ℕ, List, ap, sym, subst, arith, length, length-set}
use Rattle.vr_model.specs.routes.Routes.{route}
use Rattle.vr_model.specs.first.Items.{items}
use Rattle.vr_model.specs.first.CheapestInsertion.{rebuilt}
use Rattle.vr_reach.specs.Lists.{IsTour}
use Rattle.vr_lists.proofs.VisitLists.{visits-below}
use Rattle.vr_rules.specs.Placing.{AreBuilt, AreMarks}
use Rattle.vr_rules.proofs.PlacingLemmas.{built-count, built-distinct, built-visits}
use Rattle.vr_first_insert.proofs.KeepingLemmas.{all-taken, taken-more}
use Rattle.vr_first_insert.proofs.keeper.insert_into.Goals as goal

pub take_list-requires-clause-there : goal.take_list-requires-clause-there
take_list-requires-clause-there c =
    let count = built-count c.args.items.now.lookups.now.closed.model.now c.args.routes.now.lists c.requires.built in
    let many = c.loop-v.invariant.vehicles in
    omega (arith, c.loop-v-test.true, c.vehicles-v-end.ensures.value, count, many)

pub invariant_of-new : goal.invariant_of-new
invariant_of-new c =
    let model = c.args.items.now.lookups.now.closed.model.now in
    let lists = c.args.routes.now.lists in
    let v : ℕ = c.loop-v.v in
    let count = built-count model lists c.requires.built in
    let tour : IsTour model c.list.result.now = subst (IsTour model) (sym c.list.ensures.value)
    (record { visits = built-visits model lists v c.requires.built; distinct = built-distinct model lists v c.requires.built }) in
    record {
      there = omega (arith, c.loop-v-test.true, c.vehicles-v-end.ensures.value, count);
      tour = tour;
      below = visits-below model c.list.result.now tour.visits;
    }

pub take_list-requires-clause-known : goal.take_list-requires-clause-known
take_list-requires-clause-known c =
    let count = built-count c.args.items.now.lookups.now.closed.model.now c.args.routes.now.lists c.requires.built in
    let many = c.loop-v.invariant.vehicles in
    let known = c.loop-v.invariant.known.many in
    omega (arith, c.loop-v-test.true, c.vehicles-v-end.ensures.value, count, many, known)

pub loop-v-preserved : goal.loop-v-preserved
loop-v-preserved c =
    let lists : List (List ℕ) = c.loop-v.lists in
    let v : ℕ = c.loop-v.v in
    let others = c.args.routes.now.lists in
    let list = c.list.result.now in
    let count = built-count c.args.items.now.lookups.now.closed.model.now others c.requires.built in
    let many = c.loop-v.invariant.vehicles in
    let there : v < length lists = omega (arith, c.loop-v-test.true, c.vehicles-v-end.ensures.value, count, many) in
    let is = c.in_ok-take_list.ensures.lists in
    record {
      vehicles = ap length is ∙ length-set lists v list ∙ many;
      taken = λ w low. ap (λ lists. route lists w) is ∙ taken-more lists others v list there c.list.ensures.value c.loop-v.invariant.taken w low;
      kept = c.in_ok-take_list.ensures.kept;
      known = c.in_ok-take_list.ensures.known c.args.items.now.candidates.now c.loop-v.invariant.known;
    }

pub insert_all-requires : goal.insert_all-requires
insert_all-requires c =
    let model = c.args.items.now.lookups.now.closed.model.now in
    let others = c.args.routes.now.lists in
    let so_far = c.loop-v.invariant in
    let many = so_far.vehicles ∙ sym (built-count model others c.requires.built) in
    let same = all-taken c.loop-v.lists others c.loop-v.v many (omega (arith, c.loop-v-test.false, c.vehicles-v-end.ensures.value)) so_far.taken in
    record {
      items_are = c.requires.items_are;
      kept = so_far.kept;
      built = subst (AreBuilt model) (sym same) c.requires.built;
      marks = subst (λ lists. AreMarks model.nodes lists c.args.marks.now) (sym same) c.requires.marks;
      rows = so_far.known;
    }

pub returns-clause-rebuilt : goal.returns-clause-rebuilt
returns-clause-rebuilt c =
    let model = c.args.items.now.lookups.now.closed.model.now in
    let others = c.args.routes.now.lists in
    let many = c.loop-v.invariant.vehicles ∙ sym (built-count model others c.requires.built) in
    let same = all-taken c.loop-v.lists others c.loop-v.v many (omega (arith, c.loop-v-test.false, c.vehicles-v-end.ensures.value)) c.loop-v.invariant.taken in
    c.in_ok-insert_all.ensures.rebuilt ∙ ap (rebuilt model (length (items model))) same
