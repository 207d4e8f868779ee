-- Lists of runs: the numbers that they have, and the one normal form of a set.
use Rattle.std.specs.Prelude.{◌≡◌, ℕ, ◌^◌, Bool, true, false, not, ◌&&◌, ◌||◌, List, [], ◌∷◌, length, ℤ, pos, neg_ℤ}
use Rattle.std.specs.Prelude.{◌+ℤ◌, ◌-ℤ◌, ◌≤ℤ◌, int_le}
use Rattle.std.specs.Ordering.{int_eq}
use Rattle.std.specs.List.{list_any}
use Rattle.vr_spans.specs.declared.runs.Run.{Run}

-- the ends of every run of a set lie between this number and its negative
abbrev pub limit : ℤ
limit = pos (2 ^ 40)

-- the ways over which a set is reached lie between this number and its negative
abbrev pub farthest : ℤ
farthest = pos (2 ^ 60)

-- whether x is one of the run's numbers
abbrev pub in_run : Run → ℤ → Bool
in_run r x = int_le r.lo x && int_le x r.hi

-- whether x is in some run
abbrev pub has : List Run → ℤ → Bool
has [] x = false
has (r ∷ rs) x = in_run r x || has rs x

-- The runs are not empty, and they end at the limit or before. The first begins at m or later, and each later one
-- leaves out a number after the one before.
abbrev pub IsNormalFrom : ℤ → List Run → Type 0
IsNormalFrom m [] = Unit {0}
IsNormalFrom m (r ∷ rs) = (m ≤ℤ r.lo) × (r.lo ≤ℤ r.hi) × (r.hi ≤ℤ limit) × IsNormalFrom (r.hi +ℤ pos 2) rs

-- the normal form of a set
abbrev pub IsNormal : List Run → Type 0
IsNormal rs = IsNormalFrom (neg_ℤ limit) rs

-- a run that has a number, with its ends within the limits
abbrev pub IsRun : Run → Type 0
IsRun r = (neg_ℤ limit ≤ℤ r.lo) × (r.lo ≤ℤ r.hi) × (r.hi ≤ℤ limit)

-- whether x lies within the limits
abbrev pub in_limits : ℤ → Bool
in_limits x = int_le (neg_ℤ limit) x && int_le x limit

-- the numbers of the set stay within the limits when they are moved by first, and when they are moved by last
abbrev pub StaysWithin : ℤ → ℤ → List Run → Type 0
StaysWithin first last rs = (x : ℤ) → has rs x ≡ true → (neg_ℤ limit ≤ℤ (x +ℤ first)) × ((x +ℤ last) ≤ℤ limit)

-- x is a number of the set plus one of the numbers from first to last
abbrev pub IsStretched : ℤ → ℤ → List Run → ℤ → Type 0
IsStretched first last rs x = (y : ℤ) × (has rs y ≡ true) × ((y +ℤ first) ≤ℤ x) × (x ≤ℤ (y +ℤ last))

-- x is a number of the set, and no other is below it
pub record IsLeast (rs : List Run) (x : ℤ) : Type 0 where
  pub among : has rs x ≡ true
  pub least : (y : ℤ) → has rs y ≡ true → x ≤ℤ y

-- x is a number of the set, and no other is above it
pub record IsGreatest (rs : List Run) (x : ℤ) : Type 0 where
  pub among : has rs x ≡ true
  pub greatest : (y : ℤ) → has rs y ≡ true → y ≤ℤ x

-- the numbers rise, and none is below m
abbrev pub RisesFrom : ℤ → List ℤ → Type 0
RisesFrom m [] = Unit {0}
RisesFrom m (x ∷ xs) = (m ≤ℤ x) × RisesFrom (x +ℤ pos 1) xs

-- exactly n numbers pass the test: these places, each named once
pub record IsCount (test : ℤ → Bool) (n : ℕ) : Type 0 where
  pub places : List ℤ
  pub rising : (m : ℤ) × RisesFrom m places
  pub all : (x : ℤ) → test x ≡ list_any (λ y. int_eq y x) places
  pub count : length places ≡ n

-- x is in the set, and the number below it is not: a run of neighbours begins at x
abbrev pub begins : List Run → ℤ → Bool
begins rs x = has rs x && not (has rs (x -ℤ pos 1))

-- some number is in both sets
abbrev pub ShareANumber : List Run → List Run → Type 0
ShareANumber xs ys = (x : ℤ) × (has xs x ≡ true) × (has ys x ≡ true)

-- x is in both sets, and no lesser number is
pub record IsLeastShared (xs ys : List Run) (x : ℤ) : Type 0 where
  pub first : has xs x ≡ true
  pub second : has ys x ≡ true
  pub least : (y : ℤ) → has xs y ≡ true → has ys y ≡ true → x ≤ℤ y
