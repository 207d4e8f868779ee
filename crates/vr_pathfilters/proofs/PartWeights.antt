-- The weights of the parts of a change, added up.
use Rattle.std.proofs.Common.{◌≡◌, ◌≢◌, ◌⊎◌, inl, inr, ℕ, zero, suc, ◌+◌, ◌<◌, ◌≤◌, true, false, cond, List, [], ◌∷◌, length, take, sum_by, refl, sym, ap, ap₂}
use Rattle.std.proofs.Common.{◌∙◌, arith}
use Rattle.std.specs.Prelude.{◌==◌, All}
use Rattle.std.specs.List.{AllPairs, range_with_len}
use Rattle.std.proofs.lemmas.Bool.Decides.{eqb_tells}
use Rattle.std.proofs.lemmas.List.Sums.{sum_by-cons, sum_by_more, sum_by-take-le}
use Rattle.vr_model.specs.deciding.Testing.{eq_of_test, test_of_eq}
use Rattle.vr_model.proofs.tables.Tests.{fails}
use Rattle.vr_model.specs.tables.Numbers.{below}
use Rattle.vr_model.specs.routes.Routes.{route, vehicles}
use Rattle.vr_routes.specs.Pieces.{ListAfter, joined, changed, part_at, no_part}
use Rattle.vr_routes.specs.Changes.{AreParts}
use Rattle.vr_routes.proofs.CommitLemmas.{as_many_lists}
use Rattle.vr_routes.proofs.PartLemmas.{part_is}

-- a measure that is 0 at v
abbrev without : (ℕ → ℕ) → ℕ → ℕ → ℕ
without f v i = cond (i == v) 0 (f i)

other_than : (f : ℕ → ℕ) (v i : ℕ) → i ≢ v → without f v i ≡ f i
other_than f v i other = ap (λ b. cond b 0 (f i)) (fails (i == v) (λ t. other (eq_of_test i v t)))

none_at : (f : ℕ → ℕ) (v i : ℕ) → i ≡ v → without f v i ≡ 0
none_at f v i e = ap (λ b. cond b 0 (f i)) (test_of_eq i v e)

beyond : (f : ℕ → ℕ) (v a n : ℕ) → v < a → sum_by (without f v) (range_with_len a n) ≡ sum_by f (range_with_len a n)
beyond f v a zero low = refl
beyond f v a (suc n) low =
    sum_by-cons (without f v) a (range_with_len (a + 1) n)
    ∙ (ap₂ (λ x y. x + y) (other_than f v a (λ e. omega (arith, e, low))) (beyond f v (a + 1) n (omega (arith, low)))
    ∙ sym (sum_by-cons f a (range_with_len (a + 1) n)))

taken_out : (f : ℕ → ℕ) (v a n : ℕ) → a ≤ v → v < a + n → sum_by (without f v) (range_with_len a n) + f v ≡ sum_by f (range_with_len a n)
taken_out f v a zero low high = absurd (omega (arith, low, high))
taken_out f v a (suc n) low high = by (λ other. taken_out f v (a + 1) n (omega (arith, other, low)) (omega (arith, high))) (eqb_tells a v)
  where
    here : sum_by (without f v) (range_with_len a (suc n)) ≡ without f v a + sum_by (without f v) (range_with_len (a + 1) n)
    here = sum_by-cons (without f v) a (range_with_len (a + 1) n)

    there : sum_by f (range_with_len a (suc n)) ≡ f a + sum_by f (range_with_len (a + 1) n)
    there = sum_by-cons f a (range_with_len (a + 1) n)

    by : (a ≢ v → sum_by (without f v) (range_with_len (a + 1) n) + f v ≡ sum_by f (range_with_len (a + 1) n))
        → (((a == v) ≡ true) × (a ≡ v)) ⊎ (((a == v) ≡ false) × (a ≢ v))
        → sum_by (without f v) (range_with_len a (suc n)) + f v ≡ sum_by f (range_with_len a (suc n))
    by more (inl at) =
        let zero_here = none_at f v a at.1 in
        let rest = beyond f v (a + 1) n (let e = at.1 in omega (arith, e)) in
        let same = ap f at.1 in
        first (f a) (f v) (sum_by f (range_with_len (a + 1) n)) here there zero_here rest same
      where
        first : (fa fv rest : ℕ) {whole part z r : ℕ} → part ≡ z + r → whole ≡ fa + rest → z ≡ 0 → r ≡ rest → fa ≡ fv → part + fv ≡ whole
        first fa fv rest p q z r s = omega (arith, p, q, z, r, s)
    by more (inr other) =
        let same = other_than f v a other.1 in
        let rest = more other.1 in
        next (f a) (f v) (sum_by (without f v) (range_with_len (a + 1) n)) (sum_by f (range_with_len (a + 1) n)) here there same rest
      where
        next : (fa fv r s : ℕ) {whole part x : ℕ} → part ≡ x + r → whole ≡ fa + s → x ≡ fa → r + fv ≡ s → part + fv ≡ whole
        next fa fv r s p q x e = omega (arith, p, q, x, e)

same_without : (f : ℕ → ℕ) (v : ℕ) (parts : List ListAfter) → ((k : ℕ) → k < length parts → (part_at parts k).vehicle ≢ v)
    → sum_by (λ p. without f v p.vehicle) parts ≡ sum_by (λ p. f p.vehicle) parts
same_without f v [] apart = refl
same_without f v (p ∷ ps) apart =
    sum_by-cons (λ p. without f v p.vehicle) p ps
    ∙ (ap₂ (λ x y. x + y) (other_than f v p.vehicle (apart 0 (omega arith))) (same_without f v ps (λ k low. apart (suc k) (omega (arith, low))))
    ∙ sym (sum_by-cons (λ p. f p.vehicle) p ps))

-- a sum over different vehicles is within that over all
over_parts : (f : ℕ → ℕ) (n : ℕ) (parts : List ListAfter) → AllPairs (λ p q. p.vehicle ≢ q.vehicle) parts
    → All (λ p. p.vehicle < n) parts → sum_by (λ p. f p.vehicle) parts ≤ sum_by f (below n)
over_parts f n [] apart each = omega arith
over_parts f n (p ∷ ps) apart each =
    let rest = over_parts (without f p.vehicle) n ps (λ i j d order low. apart (suc i) (suc j) d (omega (arith, order)) (omega (arith, low)))
    (λ k d low. each (suc k) d (omega (arith, low))) in
    let same = same_without f p.vehicle ps (λ k low e. apart 0 (suc k) no_part (omega arith) (omega (arith, low)) (sym e)) in
    let out = taken_out f p.vehicle 0 n (omega arith) (let h = each 0 no_part (omega arith) in omega (arith, h)) in
    let here = sum_by-cons (λ p. f p.vehicle) p ps in
    by (f p.vehicle) (sum_by (without f p.vehicle) (below n)) here same rest out
  where
    by : (fv less : ℕ) {whole all tail tail' : ℕ} → whole ≡ fv + tail → tail' ≡ tail → tail' ≤ less → less + fv ≡ all → whole ≤ all
    by fv less a b c d = omega (arith, a, b, c, d)

-- what is told of the list of a vehicle and of the one that a change gives it
abbrev pub told_after : (ℕ → List ℕ → List ℕ → ℕ) → List (List ℕ) → List ListAfter → ℕ → ℕ
told_after told lists parts v = told v (route lists v) (route (changed lists parts) v)

-- the same of all vehicles
abbrev pub told_of_all : (ℕ → List ℕ → List ℕ → ℕ) → List (List ℕ) → List (List ℕ) → ℕ
told_of_all told lists after = sum_by (λ v. told v (route lists v) (route after v)) (vehicles after)

module _ (told : ℕ → List ℕ → List ℕ → ℕ) (lists : List (List ℕ)) (parts : List ListAfter) (are : AreParts lists parts) where
  told_of_part : (k : ℕ) → k < length parts → told (part_at parts k).vehicle (route lists (part_at parts k).vehicle) (joined lists (part_at parts k).pieces)
      ≡ told_after told lists parts (part_at parts k).vehicle
  told_of_part k low = ap (told (part_at parts k).vehicle (route lists (part_at parts k).vehicle)) (sym (part_is lists parts are k low))

  parts_within : sum_by (λ p. told_after told lists parts p.vehicle) parts ≤ told_of_all told lists (changed lists parts)
  parts_within = over_parts (told_after told lists parts) (length (changed lists parts)) parts are.apart
      (λ k e low. let n = as_many_lists lists parts in let h = are.each_vehicle k e low in omega (arith, n, h))

  -- the parts before place k, with part k
  part_more : (k : ℕ) → k < length parts → sum_by (λ p. told_after told lists parts p.vehicle) (take (k + 1) parts)
      ≡ sum_by (λ p. told_after told lists parts p.vehicle) (take k parts) + told_after told lists parts (part_at parts k).vehicle
  part_more k low = sum_by_more (λ p. told_after told lists parts p.vehicle) parts k no_part low

  -- what is counted of the parts before place k, and then of part k
  pub count_more : (k : ℕ) → k < length parts → (start : ℕ) {now new : ℕ} → now ≤ start + sum_by (λ p. told_after told lists parts p.vehicle) (take k parts)
      → new ≤ now + told (part_at parts k).vehicle (route lists (part_at parts k).vehicle) (joined lists (part_at parts k).pieces)
      → new ≤ start + sum_by (λ p. told_after told lists parts p.vehicle) (take (k + 1) parts)
  count_more k low start before here =
      more start (sum_by (λ p. told_after told lists parts p.vehicle) (take k parts))
      (told_after told lists parts (part_at parts k).vehicle) before here (told_of_part k low) (part_more k low)
    where
      more : (start before here : ℕ) {now new sum part : ℕ} → now ≤ start + before → new ≤ now + part → part ≡ here → sum ≡ before + here → new ≤ start + sum
      more start before here a b c d = omega (arith, a, b, c, d)

  -- and it is within that of all lists
  pub count_within : (k start : ℕ) {new : ℕ} → new ≤ start + sum_by (λ p. told_after told lists parts p.vehicle) (take k parts)
      → new ≤ start + told_of_all told lists (changed lists parts)
  count_within k start is =
      let some = sum_by-take-le (λ p. told_after told lists parts p.vehicle) parts k in
      within start (sum_by (λ p. told_after told lists parts p.vehicle) (take k parts))
      (sum_by (λ p. told_after told lists parts p.vehicle) parts) (told_of_all told lists (changed lists parts)) is some parts_within
    where
      within : (start some all whole : ℕ) {new : ℕ} → new ≤ start + some → some ≤ all → all ≤ whole → new ≤ start + whole
      within start some all whole a b c = omega (arith, a, b, c)

  -- what is counted of the parts before place k, and then of part k, is within that of all lists
  pub count_with : (k : ℕ) → k < length parts → (start : ℕ) {now new : ℕ} → now ≤ start + sum_by (λ p. told_after told lists parts p.vehicle) (take k parts)
      → new ≤ now + told (part_at parts k).vehicle (route lists (part_at parts k).vehicle) (joined lists (part_at parts k).pieces)
      → new ≤ start + told_of_all told lists (changed lists parts)
  count_with k low start before here = count_within (k + 1) start (count_more k low start before here)
