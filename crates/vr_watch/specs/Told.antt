-- What watchers have been told of the events of a search. `after` gives what the report of a watcher would be
-- after more events; the watchers are `old` before a call and `new` after it.
use Rattle.std.specs.Prelude.{◌≡◌, ℕ, ◌≤◌, List, ◌∷◌, ◌++◌, map, take, drop, length}
use Rattle.vr_model.specs.declared.search.Event.{Event}

-- a watcher was told this event, and nothing else
abbrev pub Hears : {W : Type 0} → (W → List Event → List ℕ) → W → W → Event → Type 0
Hears after old new event = (later : List Event) → after new later ≡ after old (event ∷ later)

-- a watcher was told nothing
abbrev pub HearsNothing : {W : Type 0} → (W → List Event → List ℕ) → W → W → Type 0
HearsNothing after old new = (later : List Event) → after new later ≡ after old later

-- what the reports of all watchers would be after these events
abbrev pub reports : {W : Type 0} → (W → List Event → List ℕ) → List W → List Event → List (List ℕ)
reports after watchers events = map (λ w. after w events) watchers

-- each watcher was told these events, in order, and nothing else
pub record Reported {W : Type 0} (after : W → List Event → List ℕ) (old new : List W) (events : List Event) :
    Type 0 where
  pub heard : (later : List Event) → reports after new later ≡ reports after old (events ++ later)

-- some watchers at the front, as many as `front` says, were told this event, and the others were not
pub record ReportedToSome {W : Type 0} (after : W → List Event → List ℕ) (old new : List W) (event : Event) :
    Type 0 where
  pub front : ℕ
  pub heard : (later : List Event) →
      reports after new later ≡ reports after (take front old) (event ∷ later) ++ reports after (drop front old) later

-- Of these events each watcher was told those in front. Of the event in hand, if there was one, some watchers at the
-- front were told, as many as `front` says.
pub record ReportedInPart {W : Type 0} (after : W → List Event → List ℕ) (old new : List W) (events : List Event) :
    Type 0 where
  pub told : List Event
  pub hand : List Event
  pub left : List Event
  pub whole : events ≡ told ++ (hand ++ left)
  pub one : length hand ≤ 1
  pub front : ℕ
  pub heard : (later : List Event) → reports after new later
      ≡ reports after (take front old) (told ++ (hand ++ later)) ++ reports after (drop front old) (told ++ later)
