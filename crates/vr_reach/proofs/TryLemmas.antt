-- How far walks without a break go, one after another.
use Rattle.std.proofs.Common.{◌≡◌, ◌∙◌, ℕ, zero, suc, ◌+◌, ◌-◌, ◌*◌, ◌≤◌, ap, arith}
use Rattle.std.proofs.Math.Nat.{mul-le-mul_right}

one_more : (k n : ℕ) → 1 ≤ k → (k - 1) * n + n ≡ k * n
one_more zero n low = absurd (omega (arith, low))
one_more (suc k) n low =
    let before : suc k - 1 ≡ k = omega arith in
    let here : k * n + n ≡ suc k * n = omega arith in
    ap (λ i. i * n + n) before ∙ here

-- the walk with k breaks taken before it, behind those with fewer
pub try_more : (b k n old : ℕ) {now new : ℕ} → 1 ≤ k → now ≤ old + (k - 1) * n → new ≤ now + n → new ≤ old + k * n
try_more b k n old low before here = let one = one_more k n low in omega (arith, one, before, here)

-- some of the walks are within all of them
pub some_tries : (b k n old : ℕ) {now : ℕ} → k ≤ b → now ≤ old + k * n → now ≤ old + b * n
some_tries b k n old few is = let le = mul-le-mul_right n few in omega (arith, le, is)

-- the walk with no break taken before it
pub first_try : (b n old : ℕ) {new : ℕ} → new ≤ old + n → new ≤ old + suc b * n
first_try b n old is = let all : suc b * n ≡ b * n + n = omega arith in omega (arith, all, is)

-- that walk, and those with some
pub all_tries : (b n old : ℕ) {now new : ℕ} → now ≤ old + n → new ≤ now + b * n → new ≤ old + suc b * n
all_tries b n old first rest = let all : suc b * n ≡ b * n + n = omega arith in omega (arith, all, first, rest)
