-- What watchers report of the events that they noted.
use Rattle.std.specs.Prelude.{ℕ, ◌+◌, ◌-◌, ◌^◌, Bool, true, false, List, [], ◌∷◌, ◌++◌, length, filter, map}
use Rattle.std.specs.Prelude.{flat_map, fold, min, codes, decimal, ℤ, Option, Some, None}
use Rattle.std.specs.Fmt.{signed_decimal}
use Rattle.std.specs.Int.{int_min}
use Rattle.vr_model.specs.routes.Costs.{least}
use Rattle.vr_model.specs.declared.search.Event.{Event}
use Rattle.vr_model.specs.declared.search.Kind.{Kind}
use Rattle.vr_model.specs.declared.search.Kind.TheVariants.{First, Move, Round}

-- ---- the trace

-- the word of a kind of events
abbrev pub kind_word : Kind → List ℕ
kind_word First = codes "first"
kind_word Move = codes "move"
kind_word Round = codes "round"

-- the line of an event: the tries so far, the word of its kind, and the cost
abbrev pub event_line : Event → List ℕ
event_line event =
    decimal event.tries ++ (codes " " ++ (kind_word event.kind
    ++ (codes " " ++ (signed_decimal event.cost ++ codes "\n"))))

-- the lines of events in order
abbrev pub traced : List Event → List ℕ
traced events = flat_map event_line events

-- ---- the tally

-- a counter of 64 bits, which stays at its last value
abbrev pub capped_count : ℕ → ℕ
capped_count n = min n (2 ^ 64 - 1)

-- a move was made, or a cut kept
abbrev pub is_move_event : Kind → Bool
is_move_event First = false
is_move_event Move = true
is_move_event Round = false

-- penalties were raised
abbrev pub is_round : Kind → Bool
is_round First = false
is_round Move = false
is_round Round = true

-- how many events are of such kinds
abbrev pub event_count : (Kind → Bool) → List Event → ℕ
event_count is_such events = length (filter (λ event. is_such event.kind) events)

-- the costs of events in order
abbrev pub costs : List Event → List ℤ
costs events = map (λ event. event.cost) events

-- the line of a tally: how many moves and rounds, and the least cost
abbrev pub tally_line : ℕ → ℕ → ℤ → List ℕ
tally_line moves rounds best =
    codes "moves " ++ (decimal moves ++ (codes " rounds " ++ (decimal rounds
    ++ (codes " best " ++ (signed_decimal best ++ codes "\n")))))

-- the line of a tally of events
abbrev pub tallied : List Event → List ℕ
tallied events =
    tally_line (capped_count (event_count is_move_event events)) (capped_count (event_count is_round events))
    (least (costs events))

-- ---- a tally that has noted events

-- how many moves and rounds were noted, and the least cost noted, none before the first event
pub record Tallied : Type 0 where
  pub moves : ℕ
  pub rounds : ℕ
  pub best : Option ℤ

-- nothing was noted
abbrev pub none_noted : Tallied
none_noted = record { moves = 0; rounds = 0; best = None }

-- the least of a number, if there is one, and some more
abbrev pub least_with : Option ℤ → List ℤ → ℤ
least_with None xs = least xs
least_with (Some x) xs = fold int_min x xs

-- after one event more
abbrev pub noted : Tallied → Event → Tallied
noted so_far event = record {
  moves = capped_count (so_far.moves + event_count is_move_event (event ∷ []));
  rounds = capped_count (so_far.rounds + event_count is_round (event ∷ []));
  best = Some (least_with so_far.best (event.cost ∷ []));
}

-- the line of a tally after more events
abbrev pub tallied_after : Tallied → List Event → List ℕ
tallied_after so_far events =
    let moves = capped_count (so_far.moves + event_count is_move_event events) in
    let rounds = capped_count (so_far.rounds + event_count is_round events) in
    tally_line moves rounds (least_with so_far.best (costs events))

-- ---- a stopper

-- a stopper that has this many events left to take reports nothing after any events
abbrev pub silent : ℕ → List Event → List ℕ
silent left later = []
