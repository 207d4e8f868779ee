use Rattle.std.proofs.Common.{◌≡◌, ◌∙◌, ap, ap₂, sym, subst, arith, length}
use Rattle.std.proofs.lemmas.Int.{ints}
use Rattle.std.proofs.lemmas.List.{length-set}
use Rattle.std.specs.Prelude.{IsTrue, ◌-ℤ◌}
use Rattle.vr_model.specs.tables.Tables.{visits}
use Rattle.vr_model.specs.routes.Costs.{assigned, parts_at, penalty_part, sum_of}
use Rattle.vr_model.specs.routes.Routes.{is_active, route}
use Rattle.vr_model.specs.moves.Moves.{with_route}
use Rattle.vr_model.specs.first.CheapestInsertion.{inserted}
use Rattle.vr_model.proofs.routes.Lists.{are_lists-count}
use Rattle.vr_routes.specs.Seats.{IsOnce}
use Rattle.vr_rules.specs.Placing.{AreBuilt}
use Rattle.vr_rules.proofs.TotalLemmas.{sum-is_cost}
use Rattle.vr_ruin.specs.Known.{AreKnownRoutes}
use Rattle.vr_ruin.specs.Offers.{paid_cost}
use Rattle.vr_ruin.specs.Placings.{insertion_of}
use Rattle.vr_parts.proofs.RowLemmas.{written as written_over}
use Rattle.vr_ruin.proofs.TrialLemmas.{may_write_once, may_write_visits, written_is}
use Rattle.vr_ruin.proofs.trial.Trial.price_by_schedules.Goals.{After-as_slice}
use Rattle.vr_ruin.proofs.trial.Trial.price_by_schedules.Goals as goal

-- what is written is the list with the item
written : (c : After-as_slice)
    → with_route c.assign.new.self.lists c.args.offer.vehicle c.as_slice.result.now ≡ inserted c.args.self.now.lists (insertion_of c.args.offer)
written c =
    written_is c.args.self.now.lists c.assign.new.self.lists c.args.offer c.as_slice.result.now
    c.list.result.now (c.as_slice.ensures ∙ c.in_ok-write_placed.ensures)
    (c.list.ensures.value ∙ ap (λ r. route r.lists c.args.offer.vehicle) (sym c.assign.ensures))
    (ap (λ r. r.lists) c.assign.ensures ∙ ap (λ t. t.lists) c.self.view_is)

pub set_list-requires-clause-visits : goal.set_list-requires-clause-visits
set_list-requires-clause-visits c = λ node active.
    let at = (goal.at.set_list-requires-clause-visits c).After-as_slice in
    may_write_visits c.args.self.now.model (inserted c.args.self.now.lists (insertion_of c.args.offer)) c.assign.new.self.visits
    (ap (λ r. r.visits) c.assign.ensures ∙ c.self.invariant.visits_are ∙ ap (λ t. visits t.model) c.self.view_is) c.requires.offer.built node
    (subst (λ ls. IsTrue (is_active ls node)) (written at) active)

pub set_list-requires-clause-once : goal.set_list-requires-clause-once
set_list-requires-clause-once c =
    let at = (goal.at.set_list-requires-clause-once c).After-as_slice in
    subst IsOnce (sym (written at)) (may_write_once c.args.self.now.model (inserted c.args.self.now.lists (insertion_of c.args.offer)) c.requires.offer.built)

pub set_list-requires-clause-room : goal.set_list-requires-clause-room
set_list-requires-clause-room c =
    ap length c.deref_mut.ensures.value ∙ c.self.invariant.room_many
    ∙ sym (are_lists-count c.self.inside.asker c.self.inside.routes.lists c.self.invariant.built.are_lists)
    ∙ ap (λ r. length r.lists) (sym c.assign.ensures)

pub invariant_of-self-2 : goal.invariant_of-self-2
invariant_of-self-2 c =
    let same = c.in_ok-parts.ensures.model in
    let before = ap (λ r. r.lists) c.assign.ensures in
    record {
      visits_are = c.self.invariant.visits_are ∙ ap visits (sym same);
      built = subst (λ m. AreBuilt m c.self.inside.routes.lists) (sym same) c.self.invariant.built;
      known_are = subst (λ m. AreKnownRoutes m c.self.inside.known.items) (sym same) c.self.invariant.known_are;
      spare_visits = c.in_ok-set_list.ensures.visits ∙ ap (λ r. r.visits) c.assign.ensures ∙ c.self.invariant.visits_are ∙ ap visits (sym same);
      room_many = ap length
          (written_over c.self.inside.room.items c.set_list.new.room c.self.inside.room.len
          (c.in_ok-set_list.ensures.room ∙ ap length c.deref_mut.ensures.value) (sym c.deref_mut.ensures.len ∙ ap length c.deref_mut.ensures.value))
          ∙ c.in_ok-set_list.ensures.room ∙ ap length c.deref_mut.ensures.value ∙ c.self.invariant.room_many ∙ ap (λ m. length m.vehicles) (sym same);
      spare_many = ap length c.in_ok-set_list.ensures.lists ∙ length-set c.assign.new.self.lists c.args.offer.vehicle c.as_slice.result.now ∙ ap length before
          ∙ are_lists-count c.self.inside.asker c.self.inside.routes.lists c.self.invariant.built.are_lists ∙ ap (λ m. length m.vehicles) (sym same);
    }

pub returns-clause-price : goal.returns-clause-price
returns-clause-price c =
    let at = (goal.at.returns-clause-price c).After-as_slice in
    let model = c.args.self.now.model in
    let after = inserted c.args.self.now.lists (insertion_of c.args.offer) in
    let value : c.paid_of.result ≡ paid_cost model after =
    c.paid_of.ensures.value ∙ ap (λ parts. sum_of parts -ℤ parts.penalty) c.in_ok-parts.ensures.parts
    ∙ ap₂ (λ m ls. sum_of (parts_at m (assigned m ls)) -ℤ penalty_part m ls) (ap (λ t. t.model) c.self.view_is) (c.in_ok-set_list.ensures.lists ∙ written at)
    ∙ ap (λ x. x -ℤ penalty_part model after) (sum-is_cost model after) in
    omega (arith, ints, value, c.requires.paid, c.paid_of.ensures.range.low, c.paid_of.ensures.range.high, c.requires.range.low, c.requires.range.high)

pub returns-clause-price_range : goal.returns-clause-price_range
returns-clause-price_range c = record {
  low = omega (arith, ints, c.paid_of.ensures.range.low, c.paid_of.ensures.range.high, c.requires.range.low, c.requires.range.high);
  high = omega (arith, ints, c.paid_of.ensures.range.low, c.paid_of.ensures.range.high, c.requires.range.low, c.requires.range.high);
}
