-- What may be put into the list of a vehicle, as it is handed along.
use Rattle.std.specs.Prelude.{◌≡◌, ℕ, ◌+◌, ◌≤◌, ℤ, List, Option, insert, length}
use Rattle.vr_first_insert.specs.declared.choice.InsertionChoice.{InsertionChoice}
use Rattle.vr_first_insert.specs.declared.choice.Placing.TheVariants.{One, Two}
use Rattle.vr_first_insert.specs.declared.list_rows.ListRows.{ListRows}
use Rattle.vr_first_insert.specs.declared.probes.Probes.{Probes}
use Rattle.vr_first_insert.specs.declared.known_best.Bound.{Bound}
use Rattle.vr_first_insert.specs.declared.known_best.KnownItem.{KnownItem}
use Rattle.vr_first_insert.specs.declared.vehicle_list.LookedUpList.{LookedUpList}
use Rattle.vr_first_insert.specs.declared.vehicle_list.CandidateIn.{CandidateIn}
use Rattle.vr_first_insert.specs.declared.vehicle_list.VisitIn.{VisitIn}
use Rattle.vr_first_insert.specs.declared.vehicle_list.PairIn.{PairIn}
use Rattle.vr_first_insert.specs.Kept.{sought, known_once_tried, IsCandidateKnown}
use Rattle.vr_first_insert.specs.Placings.{best_in, pair_choice, placed, visit_choice, weigh, AreLeastAhead}
use Rattle.vr_first_insert.specs.KeptRows.{list_model}
use Rattle.vr_first_insert.specs.Probes.{AreReachedAt}
use Rattle.vr_first_insert.specs.Ready.{IsListReady}

-- the vehicle may drive its list, and what is kept is that of the list
abbrev pub IsReadyList : LookedUpList → List ListRows → Type 0
IsReadyList list = IsListReady (list_model list) list.vehicle list.nodes.now

-- the better of the best so far and a choice in the list
abbrev pub weigh_in : LookedUpList → Option InsertionChoice → InsertionChoice → Option InsertionChoice
weigh_in list = weigh (list_model list) list.nodes.now

-- the visit before place t
abbrev pub visit_before : VisitIn → ℕ → InsertionChoice
visit_before visit = visit_choice (list_model visit.list) visit.list.vehicle visit.list.nodes.now visit.class
    visit.node

-- the pair before places s and t
abbrev pub pair_before : PairIn → ℕ → ℕ → InsertionChoice
pair_before pair = pair_choice (list_model pair.list) pair.list.vehicle pair.list.nodes.now pair.class pair.pickup
    pair.delivery

-- the best beside a candidate in its list
abbrev pub best_of_candidate : CandidateIn → Option InsertionChoice → Option InsertionChoice
best_of_candidate of = best_in (list_model of.list) of.list.vehicle of.list.nodes.now of.candidate

-- what a search of the list tells that begins with this best, or with nothing
abbrev pub sought_in : CandidateIn → Option InsertionChoice → KnownItem
sought_in of = sought (list_model of.list) of.list.vehicle of.list.nodes.now of.candidate

-- what is known once the candidate was asked whether it is better than the best so far
abbrev pub tried_in : CandidateIn → Bound → Option InsertionChoice → KnownItem
tried_in of = known_once_tried (list_model of.list) of.list.vehicle of.list.nodes.now of.candidate

-- what is known of the candidate is so
abbrev pub IsKnownOf : CandidateIn → KnownItem → Type 0
IsKnownOf of = IsCandidateKnown (list_model of.list) of.list.vehicle of.list.nodes.now of.candidate

-- a visit before place t may be tested: the list is ready, and the list with the visit is written
pub record MayTestVisit (visit : VisitIn) (t : ℕ) (written : List ℕ) : Type 0 where
  pub ready : IsReadyList visit.list visit.list_rows.now
  pub within : t ≤ length visit.list.nodes.now
  pub longer : written ≡ placed visit.list.nodes.now (One visit.node t)

-- a pair before places s and t may be tested. As for a visit, the list is ready and the list with the pair is written.
-- What the list with the pickup reaches at the node before the delivery is known.
pub record MayTestPair (pair : PairIn) (s t : ℕ) (probes : Probes) (written : List ℕ) : Type 0 where
  pub ready : IsReadyList pair.list pair.list_rows.now
  pub order : s ≤ t
  pub within : t ≤ length pair.list.nodes.now
  pub here : AreReachedAt (list_model pair.list) pair.list.vehicle (insert pair.list.nodes.now s pair.pickup)
      (t + 1) probes
  pub longer : written ≡ placed pair.list.nodes.now (Two pair.pickup pair.delivery s t)

-- the same of a pair with its pickup before some place, its delivery before place t
pub record MayTestDelivery (pair : PairIn) (t : ℕ) (probes : Probes) (written : List ℕ) : Type 0 where
  pub s : ℕ
  pub may_test : MayTestPair pair s t probes written

-- the list is ready, and the least that the delivery of a pair adds before its last places is known
pub record IsReadyPair (pair : PairIn) (least : List ℤ) : Type 0 where
  pub ready : IsReadyList pair.list pair.list_rows.now
  pub ahead : AreLeastAhead (list_model pair.list) pair.list.vehicle pair.list.nodes.now pair.delivery least
