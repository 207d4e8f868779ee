-- How often each arc was penalised, row by row.
use Rattle.std.specs.Prelude.{◌≡◌, ℕ, ◌+◌, ◌*◌, ◌≤◌, Bool, false, ◌&&◌, cond, nat_lt, List, length, slice_index_or}
use Rattle.vr_model.specs.search.GuidedSearches.{Penalties, no_penalties}

-- the counts of n nodes
pub record Counts : Type 0 where
  pub nodes : ℕ
  pub counts : List ℕ

-- how often the arc from one node to another was penalised, 0 if there are no such nodes
abbrev pub counted : Counts → Penalties
counted c origin target =
    cond (nat_lt origin c.nodes && nat_lt target c.nodes) (slice_index_or c.counts (origin * c.nodes + target) 0) 0

-- counts of n nodes, none of them above 0 if no arc was penalised
pub record AreCounts (n : ℕ) (counts : List ℕ) (any : Bool) : Type 0 where
  pub square : length counts ≡ n * n
  pub none : any ≡ false → counted (record { nodes = n; counts = counts }) ≡ no_penalties

-- no arc was penalised more often than `most`
pub record AtMost (most : ℕ) (p : Penalties) : Type 0 where
  pub each : (origin target : ℕ) → p origin target ≤ most

-- a count for each arc between this many nodes, and no arc was penalised more often than `most`
pub record AreUpTo (nodes most : ℕ) (c : Counts) : Type 0 where
  pub covers : c.nodes ≡ nodes
  pub few : AtMost most (counted c)
