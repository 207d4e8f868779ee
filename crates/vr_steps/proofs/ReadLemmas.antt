-- Numbers of 64 bits that are read as they are.
use Rattle.std.proofs.Common.{◌≡◌, ◌∙◌, ◌^◌, true, false, ℤ, pos, neg_ℤ, ◌+ℤ◌, ◌-ℤ◌, ◌≤ℤ◌, int_lt, SFits, sym, subst, ap, ap₂, to_z, of_z, w64, arith}
use Rattle.std.specs.Int.{int_max}
use Rattle.std.proofs.lemmas.Int.{ints, clamps, to_z-of_z}
use Rattle.vr_model.specs.tables.WellFormed.{IsBreak, IsIn}
use Rattle.vr_model.specs.declared.records.BreakRow.{BreakRow}
use Rattle.vr_steps.specs.Arcs.{IsSoundHop}
use Rattle.vr_steps.specs.Chains.{IsSmall}
use Rattle.vr_steps.specs.declared.chains.Chain.{Chain}
use Rattle.vr_steps.specs.declared.hops.Hop.{Hop}

-- a number that is far within 64 bits
abbrev pub IsWide : ℤ → Type 0
IsWide x = IsIn (neg_ℤ (pos (2 ^ 60))) (pos (2 ^ 60)) x

-- a number as it is read from its 64 bits
abbrev pub read : ℤ → ℤ
read x = to_z w64 (of_z w64 x)

pub as_read : (x : ℤ) → IsWide x → read x ≡ x
as_read x wide = omega (arith, ints, wide)

-- what a call gave fits
pub kept : (x : ℤ) → SFits w64 x → read x ≡ x
kept x fits = to_z-of_z w64 x fits

pub sum_read : (a b : ℤ) → IsWide a → IsWide b → read (read a +ℤ read b) ≡ a +ℤ b
sum_read a b x y = omega (arith, ints, x, y)

pub sums_read : (a b c : ℤ) → IsWide a → IsWide b → IsWide c → read (read (read a +ℤ read b) +ℤ read c) ≡ (a +ℤ b) +ℤ c
sums_read a b c x y z = let first = sum_read a b x y in omega (arith, ints, first, x, y, z)

pub difference_read : (a b : ℤ) → IsWide a → IsWide b → read (read a -ℤ read b) ≡ a -ℤ b
difference_read a b x y = omega (arith, ints, x, y)

pub sum_fits : (a b : ℤ) → IsWide a → IsWide b → SFits w64 (read a +ℤ read b)
sum_fits a b x y = omega (arith, ints, x, y)

pub sums_fit : (a b c : ℤ) → IsWide a → IsWide b → IsWide c → SFits w64 (read (read a +ℤ read b) +ℤ read c)
sums_fit a b c x y z = let first = sum_read a b x y in omega (arith, ints, first, x, y, z)

max_wide : (a b : ℤ) → IsWide a → IsWide b → IsWide (int_max a b)
max_wide a b x y = record { at_least = omega (arith, ints, clamps, x, y); at_most = omega (arith, ints, clamps, x, y) }

-- a sum with the greater of two numbers: it fits, and is read as it is
pub longest_fits : (n m a b : ℤ) → m ≡ int_max (read a) (read b) → IsWide n → IsWide a → IsWide b → SFits w64 (read n +ℤ read m)
longest_fits n m a b is w x y = let e = is ∙ ap₂ int_max (as_read a x) (as_read b y) in sum_fits n m w (subst IsWide (sym e) (max_wide a b x y))

pub longest_read : (n m a b : ℤ) → m ≡ int_max (read a) (read b) → IsWide n → IsWide a → IsWide b → read (read n +ℤ read m) ≡ n +ℤ int_max a b
longest_read n m a b is w x y =
    let e = is ∙ ap₂ int_max (as_read a x) (as_read b y) in
    sum_read n m w (subst IsWide (sym e) (max_wide a b x y)) ∙ ap (λ m. n +ℤ m) e

-- what a test of numbers that were read says of the numbers
pub not_below : (r s a b : ℤ) → int_lt r s ≡ false → r ≡ a → s ≡ b → b ≤ℤ a
not_below r s a b above e f = omega (arith, ints, above, e, f)

pub is_below : (r s a b : ℤ) → int_lt r s ≡ true → r ≡ a → s ≡ b → b ≤ℤ a → ⊥
is_below r s a b below e f low = omega (arith, ints, below, e, f, low)

-- ---- the numbers of breaks, of chains and of arcs

pub break_wide : (row : BreakRow) → IsBreak row → IsWide row.from × IsWide row.to × IsWide row.duration
break_wide row is = (
  record { at_least = omega (arith, ints, is); at_most = omega (arith, ints, is) },
  record { at_least = omega (arith, ints, is); at_most = omega (arith, ints, is) },
  record { at_least = omega (arith, ints, is); at_most = omega (arith, ints, is) },
)

pub chain_wide : (chain : Chain) → IsSmall chain → IsWide chain.total × IsWide chain.latest × IsWide chain.first_end
chain_wide chain is = (
  record { at_least = omega (arith, ints, is); at_most = omega (arith, ints, is) },
  record { at_least = omega (arith, ints, is); at_most = omega (arith, ints, is) },
  record { at_least = omega (arith, ints, is); at_most = omega (arith, ints, is) },
)

pub hop_wide : (hop : Hop) → IsSoundHop hop → IsWide hop.transit × IsWide hop.slack × IsWide hop.visit
hop_wide hop is = (
  record { at_least = omega (arith, ints, is); at_most = omega (arith, ints, is) },
  record { at_least = omega (arith, ints, is); at_most = omega (arith, ints, is) },
  record { at_least = omega (arith, ints, is); at_most = omega (arith, ints, is) },
)
