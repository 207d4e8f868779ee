use Rattle.std.proofs.Common.{◌≡◌, ◌∙◌, ap, length, sym, subst}
use Rattle.std.specs.Prelude.{IsTrue}
use Rattle.vr_model.specs.tables.Tables.{visits}
use Rattle.vr_model.specs.routes.Routes.{is_active}
use Rattle.vr_model.specs.moves.Moves.{with_route}
use Rattle.vr_model.specs.first.CheapestInsertion.{inserted}
use Rattle.vr_routes.specs.Seats.{IsOnce}
use Rattle.vr_ruin.specs.Placings.{insertion_of}
use Rattle.vr_rules.proofs.PlacingLemmas.{built-count}
use Rattle.vr_ruin.proofs.TrialLemmas.{may_write_once, may_write_visits, written_is}
use Rattle.vr_ruin.proofs.trial.Trial.make.Goals.{After-as_slice}
use Rattle.vr_ruin.proofs.trial.Trial.make.Goals as goal

-- what is written is the list with the item
written : (c : After-as_slice)
    → with_route c.self.inside.routes.lists c.args.offer.vehicle c.as_slice.result.now ≡ inserted c.args.self.now.lists (insertion_of c.args.offer)
written c =
    written_is c.args.self.now.lists c.self.inside.routes.lists c.args.offer c.as_slice.result.now c.list.result.now
    (c.as_slice.ensures ∙ c.in_ok-write_placed.ensures) c.list.ensures.value (ap (λ t. t.lists) c.self.view_is)

pub set_list-requires-clause-visits : goal.set_list-requires-clause-visits
set_list-requires-clause-visits c = λ node active.
    let at = (goal.at.set_list-requires-clause-visits c).After-as_slice in
    may_write_visits c.args.self.now.model (inserted c.args.self.now.lists (insertion_of c.args.offer)) c.self.inside.routes.visits
    (c.self.invariant.visits_are ∙ ap (λ t. visits t.model) c.self.view_is) c.requires.offer.built node
    (subst (λ ls. IsTrue (is_active ls node)) (written at) active)

pub set_list-requires-clause-once : goal.set_list-requires-clause-once
set_list-requires-clause-once c =
    let at = (goal.at.set_list-requires-clause-once c).After-as_slice in
    subst IsOnce (sym (written at)) (may_write_once c.args.self.now.model (inserted c.args.self.now.lists (insertion_of c.args.offer)) c.requires.offer.built)

pub set_list-requires-clause-room : goal.set_list-requires-clause-room
set_list-requires-clause-room c =
    ap length c.deref_mut.ensures.value ∙ c.self.invariant.room_many ∙ sym (built-count c.self.inside.asker c.self.inside.routes.lists c.self.invariant.built)
