-- Sets of small numbers.
use Rattle.std.proofs.Common.{◌≡◌, zero, suc, true, List, [], ◌∷◌, ℤ, pos, ◌≤ℤ◌, inl, inr, arith}
use Rattle.std.specs.Prelude.{All}
use Rattle.std.proofs.lemmas.Int.{ints}
use Rattle.std.proofs.lemmas.Bool.{or_cases}
use Rattle.vr_spans.specs.declared.runs.Run.{Run}
use Rattle.vr_spans.specs.Runs.{has, in_run}
use Rattle.vr_spans.specs.ShortRuns.{IsShort}

-- the numbers of short runs lie in 0..=100
pub short_numbers : (runs : List Run) → All IsShort runs → (x : ℤ) → has runs x ≡ true → (pos 0 ≤ℤ x) × (x ≤ℤ pos 100)
short_numbers [] short x is = absurd (cc)
short_numbers (r ∷ rs) short x is =
    let first = short 0 r (omega arith) in
    elim (or_cases (in_run r x) (has rs x) is) [
      | inl here ↦ (grind (arith, ints, here, first.least), grind (arith, ints, here, first.greatest))
      | inr later ↦ short_numbers rs (λ k d lt. short (suc k) d (omega arith)) x later
    ]

-- five short runs
pub five_short : (a b c d e : Run) → IsShort a → IsShort b → IsShort c → IsShort d → IsShort e → All IsShort (a ∷ b ∷ c ∷ d ∷ e ∷ [])
five_short a b c d e first second third fourth fifth zero other lt = first
five_short a b c d e first second third fourth fifth (suc zero) other lt = second
five_short a b c d e first second third fourth fifth (suc (suc zero)) other lt = third
five_short a b c d e first second third fourth fifth (suc (suc (suc zero))) other lt = fourth
five_short a b c d e first second third fourth fifth (suc (suc (suc (suc zero)))) other lt = fifth
five_short a b c d e first second third fourth fifth (suc (suc (suc (suc (suc k))))) other lt = absurd (omega (arith, lt))
