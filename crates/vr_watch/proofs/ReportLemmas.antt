-- Reports after one event more.
use Rattle.std.proofs.Common.{◌≡◌, ◌∙◌, ℕ, ◌+◌, Bool, true, false, List, [], ◌∷◌, refl, ap, ap₂, arith, zero-add, one-add}
use Rattle.std.specs.Prelude.{ℤ, Option, Some, None}
use Rattle.vr_model.specs.declared.search.Event.{Event}
use Rattle.vr_model.specs.declared.search.Kind.{Kind}
use Rattle.vr_watch.specs.Reports.{capped_count, event_count, is_move_event, is_round, costs, least_with, tally_line, Tallied, noted, none_noted, tallied}
use Rattle.vr_watch.specs.Reports.{tallied_after}

-- a counter that stands still may be capped as often as one likes
counted_on : (n k more : ℕ) → capped_count (capped_count (n + k) + more) ≡ capped_count (n + (k + more))
counted_on n k more = Prim.grind arith

-- what is counted one by one is counted
numbers : (is_such : Kind → Bool) (event : Event) (later : List Event)
    → event_count is_such (event ∷ []) + event_count is_such later ≡ event_count is_such (event ∷ later)
numbers is_such event later = go (is_such event.kind) refl
  where
    go : (b : Bool) → is_such event.kind ≡ b → event_count is_such (event ∷ []) + event_count is_such later ≡ event_count is_such (event ∷ later)
    go true e = rw (e, event_count) (one-add (event_count is_such later))
    go false e = rw (e, event_count) (zero-add (event_count is_such later))

least_on : (best : Option ℤ) (cost : ℤ) (more : List ℤ) → least_with (Some (least_with best (cost ∷ []))) more ≡ least_with best (cost ∷ more)
least_on None cost more = refl
least_on (Some x) cost more = refl

-- an event that was noted counts as the first of those that follow
pub noted_first : (so_far : Tallied) (event : Event) (later : List Event) → tallied_after (noted so_far event) later ≡ tallied_after so_far (event ∷ later)
noted_first so_far event later =
    let moves = counted_on so_far.moves (event_count is_move_event (event ∷ [])) (event_count is_move_event later)
    ∙ ap (λ n. capped_count (so_far.moves + n)) (numbers is_move_event event later) in
    let rounds = counted_on so_far.rounds (event_count is_round (event ∷ [])) (event_count is_round later)
    ∙ ap (λ n. capped_count (so_far.rounds + n)) (numbers is_round event later) in
    let best = least_on so_far.best event.cost (costs later) in
    ap₂ (λ m r. tally_line m r (least_with (noted so_far event).best (costs later))) moves rounds
    ∙ ap (tally_line (capped_count (so_far.moves + event_count is_move_event (event ∷ later)))
    (capped_count (so_far.rounds + event_count is_round (event ∷ later)))) best

-- a new tally reports on the events that follow, and on nothing else
pub tallied_from_none : (events : List Event) → tallied_after none_noted events ≡ tallied events
tallied_from_none events = ap₂ (λ m r. tally_line (capped_count m) (capped_count r) (least_with None (costs events)))
    (zero-add (event_count is_move_event events)) (zero-add (event_count is_round events))
