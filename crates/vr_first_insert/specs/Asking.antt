-- What is put into lists, and the lists that are asked.
use Rattle.std.specs.Prelude.{◌≡◌, ℕ, ◌<◌, true, Bool, List, Option, IsTrue, length}
use Rattle.std.specs.List.{All, list_all}
use Rattle.vr_model.specs.first.Items.{first_node}
use Rattle.vr_model.specs.routes.Routes.{route}
use Rattle.vr_model.specs.declared.records.Model.{Model}
use Rattle.vr_rules.specs.declared.items.Candidate.{Candidate}
use Rattle.vr_rules.specs.Placing.{fits_by, item_nodes, AreBuilt, AreCandidates, AreMarks}
use Rattle.vr_first_insert.specs.declared.choice.InsertionChoice.{InsertionChoice}
use Rattle.vr_first_insert.specs.declared.list_rows.ListRows.{ListRows}
use Rattle.vr_first_insert.specs.declared.known_best.KnownItem.{KnownItem}
use Rattle.vr_first_insert.specs.declared.best_in_lists.Items.{Items}
use Rattle.vr_first_insert.specs.declared.best_in_lists.AskedLists.{AskedLists}
use Rattle.vr_first_insert.specs.Kept.{candidate_at, AreCandidatesKnown, AreKnownRows}
use Rattle.vr_first_insert.specs.KeptRows.{AreKeptRows}
use Rattle.vr_first_insert.specs.Placings.{best_in, best_in_lists, may_be_placed, MayHold}
use Rattle.vr_first_insert.specs.Ready.{AreReady}
use Rattle.vr_first_insert.specs.declared.waiting.WaitingItem.{WaitingItem}
use Rattle.vr_first_insert.specs.Waiting.{waiting_at, IsWaiting, IsWaitingElsewhere}

-- the model whose items they are
abbrev pub items_model : Items → Model
items_model items = items.lookups.now.closed.model.now

-- all items of a model
abbrev pub AreItems : Items → Type 0
AreItems items = AreCandidates (items_model items) items.candidates.now

-- a list for each vehicle, which it may drive; what is kept is of these lists
pub record AreAsked (on : AskedLists) : Type 0 where
  pub ready : AreReady (items_model on.items) on.lists.now on.list_rows.now
  pub vehicles : length on.lists.now ≡ length (items_model on.items).vehicles

-- each list may hold candidate i
abbrev pub MayBeHeld : AskedLists → ℕ → Type 0
MayBeHeld on i = (v : ℕ) → v < length on.lists.now
    → MayHold (items_model on.items) (route on.lists.now v) (candidate_at on.items.candidates.now i).item

-- the best beside candidate i in the list of vehicle v
abbrev pub best_asked : AskedLists → ℕ → ℕ → Option InsertionChoice → Option InsertionChoice
best_asked on v i = best_in (items_model on.items) v (route on.lists.now v) (candidate_at on.items.candidates.now i)

-- the best beside candidate i in each list
abbrev pub best_asked_of_each : AskedLists → ℕ → Option InsertionChoice → Option InsertionChoice
best_asked_of_each on i = best_in_lists (items_model on.items) on.lists.now (candidate_at on.items.candidates.now i)
    (length on.lists.now)

-- a row has what is known of the candidates in the list of vehicle v
abbrev pub AreKnownIn : AskedLists → ℕ → List KnownItem → Type 0
AreKnownIn on v = AreCandidatesKnown (items_model on.items) v (route on.lists.now v) on.items.candidates.now

-- the same of each list
abbrev pub AreKnownInEach : AskedLists → List (List KnownItem) → Type 0
AreKnownInEach on = AreKnownRows (items_model on.items) on.lists.now on.items.candidates.now

-- the list of vehicle v may be asked for candidate i: the row has what is known of the candidates in it
pub record MayAsk (on : AskedLists) (v i : ℕ) (known : List KnownItem) : Type 0 where
  pub asked : AreAsked on
  pub candidate : i < length on.items.candidates.now
  pub may_hold : MayBeHeld on i
  pub there : v < length on.lists.now
  pub row : AreKnownIn on v known

-- the same of each list
pub record MayAskEach (on : AskedLists) (i : ℕ) (known : List (List KnownItem)) : Type 0 where
  pub asked : AreAsked on
  pub candidate : i < length on.items.candidates.now
  pub may_hold : MayBeHeld on i
  pub rows : AreKnownInEach on known

-- whether an item may count can be told. Each node has its mark, no group has more marked nodes than it may have, and
-- the item begins with one of the nodes.
pub record MayCount (items : Items) (marked : List Bool) (candidate : Candidate) : Type 0 where
  pub marks : length marked ≡ (items_model items).nodes
  pub fit : IsTrue (list_all (fits_by marked) (items_model items).groups)
  pub first : first_node (item_nodes candidate.item) < (items_model items).nodes

-- waiting item k
abbrev pub waiting_candidate : AskedLists → List WaitingItem → ℕ → Candidate
waiting_candidate on waiting k = candidate_at on.items.candidates.now (waiting_at waiting k).number

-- what is known of the waiting items is so
abbrev pub AreWaitingFor : AskedLists → List WaitingItem → Type 0
AreWaitingFor on = All (IsWaiting (items_model on.items) on.lists.now on.items.candidates.now)

-- the best so far may be compared with waiting item k: each list may be asked for the item if it counts
pub record MayWeigh (on : AskedLists) (marked : List Bool) (k : ℕ) (known : List (List KnownItem))
    (waiting : List WaitingItem) : Type 0 where
  pub asked : AreAsked on
  pub marks : length marked ≡ (items_model on.items).nodes
  pub fit : IsTrue (list_all (fits_by marked) (items_model on.items).groups)
  pub place : k < length waiting
  pub first : first_node (item_nodes (waiting_candidate on waiting k).item) < (items_model on.items).nodes
  pub may_hold : may_be_placed (items_model on.items) marked (waiting_candidate on waiting k) ≡ true
      → MayBeHeld on (waiting_at waiting k).number
  pub rows : AreKnownInEach on known
  pub waits : AreWaitingFor on waiting

-- open lists, with the marks of their nodes, may be asked for each item that is in none of them
pub record MayAskUnplaced (on : AskedLists) (marked : List Bool) : Type 0 where
  pub asked : AreAsked on
  pub items_are : AreItems on.items
  pub built : AreBuilt (items_model on.items) on.lists.now
  pub marks : AreMarks (items_model on.items).nodes on.lists.now marked

-- the list of vehicle v, which has changed, may be asked for what a waiting item adds at least
pub record MayLower (on : AskedLists) (marked : List Bool) (v : ℕ) (item : WaitingItem) : Type 0 where
  pub may_ask : MayAskUnplaced on marked
  pub there : v < length on.lists.now
  pub waits : IsWaitingElsewhere (items_model on.items) on.lists.now v on.items.candidates.now item

-- the list of vehicle v may be asked for what each waiting item adds at least. It has changed, the lists are open, and
-- the rows and the marks are those of the lists.
pub record MayLowerEach (items : Items) (list_rows : List ListRows) (marked : List Bool) (lists : List (List ℕ))
    (v : ℕ) (waiting : List WaitingItem) : Type 0 where
  pub items_are : AreItems items
  pub kept : AreKeptRows (items_model items) lists list_rows
  pub built : AreBuilt (items_model items) lists
  pub marks : AreMarks (items_model items).nodes lists marked
  pub there : v < length lists
  pub waits : All (IsWaitingElsewhere (items_model items) lists v items.candidates.now) waiting

-- items may be inserted into lists. The lists are open; their rows, the marks of their nodes and what is known of the
-- items in them are those of the lists.
pub record MayInsert (items : Items) (list_rows : List ListRows) (marked : List Bool) (lists : List (List ℕ))
    (known : List (List KnownItem)) : Type 0 where
  pub items_are : AreItems items
  pub kept : AreKeptRows (items_model items) lists list_rows
  pub built : AreBuilt (items_model items) lists
  pub marks : AreMarks (items_model items).nodes lists marked
  pub rows : AreKnownRows (items_model items) lists items.candidates.now known

-- other open lists may be taken over, whose nodes are marked, and items be inserted into them
pub record MayTakeOver (items : Items) (others : List (List ℕ)) (list_rows : List ListRows) (lists : List (List ℕ))
    (marked : List Bool) (known : List (List KnownItem)) : Type 0 where
  pub items_are : AreItems items
  pub vehicles : length lists ≡ length (items_model items).vehicles
  pub kept : AreKeptRows (items_model items) lists list_rows
  pub rows : AreKnownRows (items_model items) lists items.candidates.now known
  pub built : AreBuilt (items_model items) others
  pub marks : AreMarks (items_model items).nodes others marked
