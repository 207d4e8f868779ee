-- What an arc with breaks inside asks of the cumuls at its two ends.
use Rattle.std.specs.Prelude.{◌≡◌, ℕ, ◌≤◌, ◌^◌, ◌↔◌, IsTrue, List, ℤ, pos, neg_ℤ, ◌+ℤ◌, ◌-ℤ◌, ◌≤ℤ◌}
use Rattle.std.specs.Int.{int_max, int_min}
use Rattle.vr_spans.specs.declared.runs.Run.{Run}
use Rattle.vr_spans.specs.Runs.{has}
use Rattle.vr_model.specs.tables.Numbers.{horizon, within}
use Rattle.vr_model.specs.declared.records.BreakRow.{BreakRow}
use Rattle.vr_steps.specs.declared.hops.Hop.{Hop}
use Rattle.vr_steps.specs.declared.chains.Chain.{Chain}
use Rattle.vr_steps.specs.declared.passages.Passage.{Passage}
use Rattle.vr_steps.specs.Arcs.{Leads, breaks_between}
use Rattle.vr_steps.specs.Levels.{level_at}

-- the cumul y at the begin and the cumul x at the end are as the passage asks
pub record MeetsPassage (passage : Passage) (y x : ℤ) : Type 0 where
  pub until : y ≤ℤ passage.until
  pub from : passage.from ≤ℤ x
  pub least : (y +ℤ passage.least) ≤ℤ x
  pub greatest : x ≤ℤ (y +ℤ passage.greatest)

-- the numbers of a passage are such that sets can be moved by them
pub record IsOpen (passage : Passage) : Type 0 where
  pub in_order : passage.least ≤ℤ passage.greatest
  pub near_least : neg_ℤ (pos (2 ^ 50)) ≤ℤ passage.least
  pub near_greatest : passage.greatest ≤ℤ pos (2 ^ 50)
  pub until_low : pos 0 ≤ℤ passage.until
  pub until_high : passage.until ≤ℤ horizon
  pub from_low : pos 0 ≤ℤ passage.from
  pub from_high : passage.from ≤ℤ horizon

-- the cumuls up to one, and from one on
abbrev pub upto : ℤ → Run
upto last = record { lo = pos 0; hi = last }

abbrev pub onward : ℤ → Run
onward first = record { lo = first; hi = horizon }

-- an arc with these breaks inside leads from one cumul to another exactly if the passage lets them through
pub record IsPassage (hop : Hop) (rows : List BreakRow) (passage : Passage) : Type 0 where
  pub open_way : IsOpen passage
  pub exact : (y x : ℤ) → Leads hop rows y x
      ↔ (IsTrue (within (pos 0) horizon y) × IsTrue (within (pos 0) horizon x) × MeetsPassage passage y x)

-- an arc with these breaks inside leads nowhere
abbrev pub LeadsNowhere : Hop → List BreakRow → Type 0
LeadsNowhere hop rows = (y x : ℤ) → Leads hop rows y x → ⊥

-- the numbers of a passage over the breaks of a chain
pub record IsOver (hop : Hop) (chain : Chain) (passage : Passage) : Type 0 where
  pub least : passage.least ≡ chain.total +ℤ int_max hop.visit hop.transit
  pub greatest : passage.greatest ≡ hop.transit +ℤ hop.slack
  pub until : passage.until ≡ int_min horizon (chain.latest -ℤ hop.visit)
  pub from : passage.from ≡ int_max chain.first_end (pos 0)

-- of a passage over the breaks of a chain the least is no more than the greatest, and some cumul may be at each end
pub record HasWay (hop : Hop) (chain : Chain) : Type 0 where
  pub in_order : (chain.total +ℤ int_max hop.visit hop.transit) ≤ℤ (hop.transit +ℤ hop.slack)
  pub until : hop.visit ≤ℤ chain.latest
  pub from : chain.first_end ≤ℤ horizon

-- the cumuls of next to which an arc with these breaks inside leads from those of a set
abbrev pub ArrivesAt : List Run → Hop → List BreakRow → List Run → ℤ → Type 0
ArrivesAt from hop rows next x = IsTrue (has next x) × ((y : ℤ) × IsTrue (has from y) × Leads hop rows y x)

-- the cumuls of here from which an arc with these breaks inside leads to those of a set
abbrev pub DepartsAt : List Run → Hop → List BreakRow → List Run → ℤ → Type 0
DepartsAt to hop rows here y = IsTrue (has here y) × ((x : ℤ) × IsTrue (has to x) × Leads hop rows y x)

-- the cumuls of next to which the arc leads from the levels of k breaks or more, with b breaks taken by its end
abbrev pub AreArrivals : List (List Run) → Hop → List Run → List BreakRow → ℕ → ℕ → List Run → Type 0
AreArrivals from hop next breaks k b set = (x : ℤ)
    → IsTrue (has set x) ↔ (IsTrue (has next x)
    × ((a : ℕ) × (k ≤ a) × (a ≤ b) × (y : ℤ) × IsTrue (has (level_at from a) y)
    × Leads hop (breaks_between breaks a b) y x))

-- the cumuls of here from which the arc leads to the levels of k breaks or fewer, with a breaks taken before it
abbrev pub AreDepartures : List (List Run) → Hop → List Run → List BreakRow → ℕ → ℕ → List Run → Type 0
AreDepartures to hop here breaks a k set = (y : ℤ)
    → IsTrue (has set y) ↔ (IsTrue (has here y)
    × ((b : ℕ) × (a ≤ b) × (b ≤ k) × (x : ℤ) × IsTrue (has (level_at to b) x)
    × Leads hop (breaks_between breaks a b) y x))
