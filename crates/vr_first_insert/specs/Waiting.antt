-- Items in no list, and what is known of the best insertion of each into any list.
use Rattle.std.specs.Prelude.{◌≡◌, ℕ, ◌<◌, ◌-◌, ◌^◌, ⊤, Bool, false, not, cond, nat_le, nat_lt, List, [], ◌∷◌, ◌++◌}
use Rattle.std.specs.Prelude.{length, map, filter, take}
use Rattle.std.specs.Prelude.{slice_index_or, Option, Some, None, ℤ, pos}
use Rattle.std.specs.List.{All}
use Rattle.vr_model.specs.first.Items.{first_node, unplaced}
use Rattle.vr_model.specs.routes.Routes.{is_active, route}
use Rattle.vr_model.specs.declared.records.Model.{Model}
use Rattle.vr_rules.specs.declared.items.Candidate.{Candidate}
use Rattle.vr_rules.specs.Placing.{is_marked, item_nodes}
use Rattle.vr_first_insert.specs.declared.choice.InsertionChoice.{InsertionChoice}
use Rattle.vr_first_insert.specs.declared.waiting.WaitingItem.{WaitingItem}
use Rattle.vr_first_insert.specs.Kept.{candidate_at, BestAddsAtLeast}
use Rattle.vr_first_insert.specs.Placings.{may_improve}

-- items of a class come after the best so far, whatever they add
abbrev pub comes_later : Option InsertionChoice → ℕ → Bool
comes_later None class = false
comes_later (Some best) class = nat_lt best.class class

-- by what an item of a class adds at least, if that is known, no insertion of it is better than the best so far
abbrev pub is_passed_over : Option InsertionChoice → ℕ → Option ℤ → Bool
is_passed_over best class None = comes_later best class
is_passed_over best class (Some least) = not (may_improve best class least)

-- what is known of an item of a class once all lists were asked. It is told by the better of the best so far and the
-- best insertion of the item.
abbrev pub least_told : Option InsertionChoice → ℕ → Option ℤ → Option ℤ
least_told None class before = Some (pos (2 ^ 63 - 1))
least_told (Some best) class before = cond (nat_le class best.class) (Some best.increase) before

-- the best insertion of a candidate into each list, if there is one, adds at least this much, if that is known
abbrev pub IsLeastAnywhere : Model → List (List ℕ) → Candidate → Option ℤ → Type 0
IsLeastAnywhere model lists candidate None = ⊤
IsLeastAnywhere model lists candidate (Some least) = (v : ℕ) → v < length lists
    → BestAddsAtLeast model v (route lists v) candidate least

-- the same of all lists but that of vehicle v
abbrev pub IsLeastElsewhere : Model → List (List ℕ) → ℕ → Candidate → Option ℤ → Type 0
IsLeastElsewhere model lists v candidate None = ⊤
IsLeastElsewhere model lists v candidate (Some least) = (w : ℕ) → w < length lists → (w ≡ v → ⊥)
    → BestAddsAtLeast model w (route lists w) candidate least

-- a waiting item is a candidate, and what is known of it is so
pub record IsWaiting (model : Model) (lists : List (List ℕ)) (candidates : List Candidate)
    (waiting : WaitingItem) : Type 0 where
  pub there : waiting.number < length candidates
  pub least : IsLeastAnywhere model lists (candidate_at candidates waiting.number) waiting.least

-- the same after the list of vehicle v has changed
pub record IsWaitingElsewhere (model : Model) (lists : List (List ℕ)) (v : ℕ) (candidates : List Candidate)
    (waiting : WaitingItem) : Type 0 where
  pub there : waiting.number < length candidates
  pub least : IsLeastElsewhere model lists v (candidate_at candidates waiting.number) waiting.least

-- the item that is read if there is none
abbrev pub unread_waiting : WaitingItem
unread_waiting = record { number = 0; least = None }

-- waiting item k
abbrev pub waiting_at : List WaitingItem → ℕ → WaitingItem
waiting_at waiting k = slice_index_or waiting k unread_waiting

-- the candidates that wait
abbrev pub waiting_candidates : List Candidate → List WaitingItem → List Candidate
waiting_candidates candidates waiting = map (λ item. candidate_at candidates item.number) waiting

-- those of some candidates that are in no list
abbrev pub unplaced_of : List (List ℕ) → List Candidate → List (List ℕ)
unplaced_of lists candidates = filter (λ item. not (is_active lists (first_node item)))
    (map (λ candidate. item_nodes candidate.item) candidates)

-- a candidate that is not marked
abbrev pub is_unmarked : List Bool → Candidate → Bool
is_unmarked marks candidate = not (is_marked marks (first_node (item_nodes candidate.item)))

-- those of the first candidates that are not marked wait, and nothing is known of them
pub record AreFirstWaiting (candidates : List Candidate) (marks : List Bool) (count : ℕ)
    (waiting : List WaitingItem) : Type 0 where
  pub each : (k : ℕ) → k < length waiting → (waiting_at waiting k).number < length candidates
  pub nothing : (k : ℕ) → k < length waiting → (waiting_at waiting k).least ≡ None
  pub unmarked : waiting_candidates candidates waiting ≡ filter (is_unmarked marks) (take count candidates)

-- candidate i waits beside others, unless it is marked
abbrev pub with_waiting : List Candidate → List Bool → ℕ → List WaitingItem → List WaitingItem
with_waiting candidates marks i waiting = cond (is_unmarked marks (candidate_at candidates i))
    (waiting ++ record { number = i; least = None } ∷ []) waiting

-- what is known of the waiting items is so, and all items in no list wait
pub record AreWaiting (model : Model) (lists : List (List ℕ)) (candidates : List Candidate)
    (waiting : List WaitingItem) : Type 0 where
  pub each : All (IsWaiting model lists candidates) waiting
  pub all : unplaced_of lists (waiting_candidates candidates waiting) ≡ unplaced model lists
