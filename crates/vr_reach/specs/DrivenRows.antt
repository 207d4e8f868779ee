-- The levels of a list that a vehicle drives.
use Rattle.std.specs.Prelude.{ℕ, List}
use Rattle.vr_spans.specs.declared.runs.Run.{Run}
use Rattle.vr_reach.specs.declared.driven.Driven.{Driven}
use Rattle.vr_reach.specs.KnownRows.{AreFirstRows, AreLastRows, AreReachedRows, AreReachingRows, IsReachingFrom}
use Rattle.vr_reach.specs.Standing.{IsReachedAt}

-- the levels are what a list that is driven reaches at stop k
abbrev pub IsReachedOn : Driven → ℕ → List (List Run) → Type 0
IsReachedOn of k levels = IsReachedAt of.closed.model.now of.d of.v of.list.now k levels

-- the levels are what the end of a list that is driven is reached from at stop k
abbrev pub IsReachingOn : Driven → ℕ → List (List Run) → Type 0
IsReachingOn of k levels = IsReachingFrom of.closed.model.now of.d of.v of.list.now k levels

-- the levels are what a list that is driven reaches at each stop
abbrev pub AreReachedOn : Driven → List (List (List Run)) → Type 0
AreReachedOn of rows = AreReachedRows of.closed.model.now of.d of.v of.list.now rows

-- the levels are what the end of a list that is driven is reached from at each stop
abbrev pub AreReachingOn : Driven → List (List (List Run)) → Type 0
AreReachingOn of rows = AreReachingRows of.closed.model.now of.d of.v of.list.now rows

-- the first n levels are what it reaches at its first n stops
abbrev pub AreFirstOn : Driven → ℕ → List (List (List Run)) → Type 0
AreFirstOn of n rows = AreFirstRows of.closed.model.now of.d of.v of.list.now n rows

-- the last n levels are what its end is reached from at its last n stops
abbrev pub AreLastOn : Driven → ℕ → List (List (List Run)) → Type 0
AreLastOn of n rows = AreLastRows of.closed.model.now of.d of.v of.list.now n rows
