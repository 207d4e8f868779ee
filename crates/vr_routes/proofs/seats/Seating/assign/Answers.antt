use Rattle.std.proofs.Common.{◌≡◌, ◌∙◌, ◌<◌, ℕ, List, length, sym, subst, arith}
use Rattle.std.specs.Prelude.{All, slice_set}
use Rattle.vr_routes.specs.Seats.{IsOnce}
use Rattle.vr_routes.proofs.FinalLemmas.{list_below}
use Rattle.vr_routes.proofs.ListsLemmas.{done_or_left, filled_once}
use Rattle.vr_routes.proofs.TourLemmas.{lists_agree}
use Rattle.vr_routes.proofs.seats.Seating.assign.Goals as goal

pub set_list-requires : goal.set_list-requires
set_list-requires c =
    let whole : List (List ℕ) = c.args.other.now.lists in
    let now : List (List ℕ) = c.loop-v.self.lists in
    let v : ℕ = c.loop-v.v in
    let low : v < length whole = omega (arith, c.loop-v-test.true, c.vehicles-v-end.ensures) in
    let many : length now ≡ length whole = c.loop-v.invariant.many ∙ c.clear_all.ensures.many ∙ c.requires.many in
    record {
      vehicle = omega (arith, low, many);
      nodes = subst (λ n. All (λ node. node < n) c.list.result.now) (sym (c.loop-v.invariant.nodes ∙ c.clear_all.ensures.nodes))
          (list_below c.args.self.now.nodes whole c.requires.once c.requires.nodes v low c.list.result.now (sym c.list.ensures.value));
      once = subst (λ l. IsOnce (slice_set now v l)) (sym c.list.ensures.value)
          (filled_once whole now v many low (done_or_left whole now v c.loop-v.invariant.done c.loop-v.invariant.left) c.requires.once);
    }

pub returns-clause-lists : goal.returns-clause-lists
returns-clause-lists c =
    let now : List (List ℕ) = c.loop-v.self.lists in
    let whole : List (List ℕ) = c.args.other.now.lists in
    let many : length now ≡ length whole = c.loop-v.invariant.many ∙ c.clear_all.ensures.many ∙ c.requires.many in
    lists_agree now whole many (λ v low. c.loop-v.invariant.done v (omega (arith, low, many, c.loop-v-test.false, c.vehicles-v-end.ensures)))
