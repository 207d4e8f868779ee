-- What is known of items in lists.
use Rattle.std.specs.Prelude.{◌≡◌, ℕ, ◌<◌, ◌≤◌, ⊤, Bool, true, false, not, List, [], length, ℤ, ◌≤ℤ◌}
use Rattle.std.specs.Prelude.{cond, slice_index_or, slice_set, IfSome, Option, Some, None}
use Rattle.vr_model.specs.tables.Numbers.{is_lex_less}
use Rattle.vr_model.specs.routes.Routes.{route}
use Rattle.vr_model.specs.first.Choosing.{better}
use Rattle.vr_model.specs.declared.records.Model.{Model}
use Rattle.vr_rules.specs.declared.items.Item.{Item}
use Rattle.vr_rules.specs.declared.items.Item.TheVariants.{Visit, PickupAndDelivery}
use Rattle.vr_rules.specs.declared.items.Candidate.{Candidate}
use Rattle.vr_first_insert.specs.declared.choice.InsertionChoice.{InsertionChoice}
use Rattle.vr_first_insert.specs.declared.known_best.Bound.{Bound}
use Rattle.vr_first_insert.specs.declared.known_best.KnownItem.{KnownItem}
use Rattle.vr_first_insert.specs.declared.known_best.KnownItem.TheVariants.{Nothing, AtLeast, Best}
use Rattle.vr_first_insert.specs.Increases.{pair_increase}
use Rattle.vr_first_insert.specs.Placings.{key_of, best_in, may_improve, VisitAddsAtLeast}

-- the better of two choices, the first of equal ones
abbrev pub better_choice : Option InsertionChoice → InsertionChoice → Option InsertionChoice
better_choice best next = better key_of best next

-- the better of the best so far and what is known to be best
abbrev pub best_of : KnownItem → Option InsertionChoice → Option InsertionChoice
best_of Nothing best = best
best_of (AtLeast bound) best = best
best_of (Best None) best = best
best_of (Best (Some next)) best = better_choice best next

-- what is known tells the best beside the best so far: it is the best in the list, or none there is better
abbrev pub is_settled : KnownItem → ℕ → Option InsertionChoice → Bool
is_settled Nothing class best = false
is_settled (AtLeast bound) class best = not (may_improve best class bound.least)
is_settled (Best found) class best = true

-- what is known of an item of a class leaves the best so far as it is: no insertion into the list is better
abbrev pub leaves_best : KnownItem → ℕ → Option InsertionChoice → Bool
leaves_best Nothing class best = false
leaves_best (AtLeast bound) class best = not (may_improve best class bound.least)
leaves_best (Best None) class best = true
leaves_best (Best (Some next)) class best = not (may_improve best next.class next.increase)

-- an item adds at least this much, whatever place of the list of vehicle v it is put before
abbrev pub AddsAtLeast : Model → ℕ → List ℕ → Item → ℤ → Type 0
AddsAtLeast model v list (Visit node) least = VisitAddsAtLeast model v list node least
AddsAtLeast model v list (PickupAndDelivery pickup delivery) least = (s t : ℕ) → s ≤ length list → t ≤ length list
    → least ≤ℤ pair_increase model v list pickup delivery s t

-- the best choice of a candidate in the list of vehicle v, if there is one, adds at least this much
abbrev pub BestAddsAtLeast : Model → ℕ → List ℕ → Candidate → ℤ → Type 0
BestAddsAtLeast model v list candidate least = IfSome (best_in model v list candidate None)
    (λ choice. least ≤ℤ choice.increase)

-- what a search tells of the best in a list, when it began with this best, or with nothing. If it found a better one,
-- that is the best of the list. If not, the best of the list adds no less than this. A search that began with nothing
-- found the best.
abbrev pub known_by_search : Option InsertionChoice → Option InsertionChoice → KnownItem
known_by_search None found = Best found
known_by_search (Some best) None = Best None
known_by_search (Some best) (Some next) = cond (is_lex_less (key_of next) (key_of best)) (Best (Some next))
    (AtLeast (record { least = best.increase; searched = true }))

-- what a search for an item begins with: the best so far for a pair whose bound no search told, and else nothing
abbrev pub begun_with : Item → Bool → Option InsertionChoice → Option InsertionChoice
begun_with item true best = None
begun_with (Visit node) false best = None
begun_with (PickupAndDelivery pickup delivery) false best = best

-- what a search of the list of vehicle v tells of a candidate that begins with this best, or with nothing
abbrev pub sought : Model → ℕ → List ℕ → Candidate → Option InsertionChoice → KnownItem
sought model v list candidate best = known_by_search best (best_in model v list candidate best)

-- what is known of a candidate with a known bound, once it was asked whether it is better than the best so far. If the
-- bound is not better, it is the bound; else it is what a search tells.
abbrev pub known_once_tried : Model → ℕ → List ℕ → Candidate → Bound → Option InsertionChoice → KnownItem
known_once_tried model v list candidate bound best = cond (may_improve best candidate.class bound.least)
    (sought model v list candidate (begun_with candidate.item bound.searched best)) (AtLeast bound)

-- what is known of a candidate in the list of vehicle v is so
abbrev pub IsCandidateKnown : Model → ℕ → List ℕ → Candidate → KnownItem → Type 0
IsCandidateKnown model v list candidate Nothing = ⊤
IsCandidateKnown model v list candidate (AtLeast bound) = BestAddsAtLeast model v list candidate bound.least
IsCandidateKnown model v list candidate (Best best) = best ≡ best_in model v list candidate None

-- row v of rows
abbrev pub known_row : List (List KnownItem) → ℕ → List KnownItem
known_row rows v = slice_index_or rows v []

-- the candidate that is read if there is none
abbrev pub unread : Candidate
unread = record { item = Visit 0; class = 0 }

-- candidate i
abbrev pub candidate_at : List Candidate → ℕ → Candidate
candidate_at candidates i = slice_index_or candidates i unread

-- what is known of each candidate in the list of vehicle v is so
pub record AreCandidatesKnown (model : Model) (v : ℕ) (list : List ℕ) (candidates : List Candidate)
    (row : List KnownItem) : Type 0 where
  pub many : length row ≡ length candidates
  pub each : (i : ℕ) → i < length candidates
      → IsCandidateKnown model v list (candidate_at candidates i) (slice_index_or row i Nothing)

-- the same of each list
pub record AreKnownRows (model : Model) (lists : List (List ℕ)) (candidates : List Candidate)
    (rows : List (List KnownItem)) : Type 0 where
  pub many : length rows ≡ length lists
  pub each : (v : ℕ) → v < length lists → AreCandidatesKnown model v (route lists v) candidates (known_row rows v)

-- nothing is known of any candidate in the list of vehicle v any more
pub record IsForgotten (v : ℕ) (rows after : List (List KnownItem)) : Type 0 where
  pub row : List KnownItem
  pub many : length row ≡ length (known_row rows v)
  pub nothing : (i : ℕ) → slice_index_or row i Nothing ≡ Nothing
  pub rows_are : after ≡ slice_set rows v row
