-- Runs: sets of numbers in their normal form, as lists of runs in order. The twin of this file is `Runs` of the crate
-- of sets of numbers. It has the same normal form, over its own type of runs and its own bounds. Neither crate uses the
-- other; if both are there, the law at the end joins them.
use Rattle.std.specs.Prelude.{◌≡◌, Bool, List, [], ◌∷◌, length, ℤ, pos, ◌+ℤ◌, ◌≤ℤ◌, IsTrue}
use Rattle.std.specs.List.{list_any}
use Rattle.vr_model.specs.tables.Numbers.{within, horizon}
use Rattle.vr_model.specs.schedules.Weights.{runs}

-- how a type of runs is read: the least and the greatest number of a run
pub record RunEnds (R : Type 0) : Type 0 where
  pub lo : R → ℤ
  pub hi : R → ℤ

-- The runs are not empty, and at least one number is missing between neighbours. The first begins at `low` or later,
-- and the last ends at `top` or before.
abbrev pub IsNormalFrom : {R : Type 0} → RunEnds R → ℤ → ℤ → List R → Type 0
IsNormalFrom ends low top [] = Unit {0}
IsNormalFrom ends low top (run ∷ rest) =
    (low ≤ℤ ends.lo run) × (ends.lo run ≤ℤ ends.hi run) × (ends.hi run ≤ℤ top)
    × IsNormalFrom ends (ends.hi run +ℤ pos 2) top rest

-- x lies in one of the runs
abbrev pub in_runs : {R : Type 0} → RunEnds R → List R → ℤ → Bool
in_runs ends rs x = list_any (λ run. within (ends.lo run) (ends.hi run) x) rs

-- a set of numbers in bottom..=top has these runs as its normal form
pub record AreRunsOf {R : Type 0} (ends : RunEnds R) (bottom top : ℤ) (has : ℤ → Bool) (rs : List R) : Type 0 where
  pub normal : IsNormalFrom ends bottom top rs
  pub same : (x : ℤ) → has x ≡ in_runs ends rs x

-- a set of numbers in 0..=horizon has as many runs as its normal form is long, whatever bounds the form is in
abbrev pub RunsAsLongAsForm : Type 0 → Type 0
RunsAsLongAsForm R = (ends : RunEnds R) (bottom top : ℤ) (has : ℤ → Bool) (rs : List R)
    → AreRunsOf ends bottom top has rs → ((x : ℤ) → IsTrue (has x) → IsTrue (within (pos 0) horizon x))
    → runs has ≡ length rs
