-- Counts and places in a list that keeps the front and the end of another one.
use Rattle.std.proofs.Common.{◌≡◌, ◌∙◌, ◌⊎◌, inl, inr, ℕ, ◌+◌, ◌-◌, ◌<◌, ◌≤◌, List, ◌++◌, Bool, false, length, take, drop, sym, ap, arith}
use Rattle.std.specs.Prelude.{IsTrue, count_by, slice_index}
use Rattle.std.proofs.lemmas.Bool.{cases_lt}
use Rattle.std.proofs.lemmas.List.{length-take-le, take-append-le, take-take, take_all}
use Rattle.std.proofs.lemmas.List.Sums.{sum_by-append}
use Rattle.std.proofs.Math.Seq.{take-add, take-append-add}
use Rattle.vr_model.specs.routes.Routes.{holds, is_distinct}
use Rattle.vr_model.specs.routes.Rules.{place_of}
use Rattle.vr_model.proofs.routes.Lists.{held_at}
use Rattle.vr_model.proofs.tables.Tests.{clash}
use Rattle.vr_reach.specs.Spliced.{AreSeams, spliced}
use Rattle.vr_reach.proofs.Splicing.{at_back, at_front, at_middle, long, shares_front}
use Rattle.vr_pathfilters.proofs.Counting.{once}
use Rattle.vr_pathfilters.proofs.Places.{place_found, place_is}

-- of the first nodes of two lists joined
count_joined : (f : ℕ → Bool) (xs ys : List ℕ) → count_by f (xs ++ ys) ≡ count_by f xs + count_by f ys
count_joined f xs ys = sum_by-append (λ x. once (f x)) xs ys

-- of the first nodes, and of some behind them
pub count_split : (f : ℕ → Bool) (k j : ℕ) (xs : List ℕ) → count_by f (take (k + j) xs) ≡ count_by f (take k xs) + count_by f (take j (drop k xs))
count_split f k j xs = ap (count_by f) (take-add k j xs) ∙ count_joined f (take k xs) (take j (drop k xs))

pub count_rises : (f : ℕ → Bool) (k m : ℕ) (xs : List ℕ) → k ≤ m → count_by f (take k xs) ≤ count_by f (take m xs)
count_rises f k m xs low =
    let e : k + (m - k) ≡ m = omega (arith, low) in
    let split = sym (ap (λ i. count_by f (take i xs)) e) ∙ count_split f k (m - k) xs in
    omega (arith, split)

module _ (f : ℕ → Bool) (old middle : List ℕ) (front behind : ℕ) (seams : AreSeams (length old) front behind) where
  abbrev new : List ℕ
  new = spliced old front behind middle

  kept : length (take front old) ≡ front
  kept = length-take-le front old (let a = seams.order in let b = seams.high in omega (arith, a, b))

  pub in_front : (k : ℕ) → k ≤ front → count_by f (take k new) ≡ count_by f (take k old)
  in_front k low =
      ap (count_by f) (sym (take-take k front new low) ∙ (ap (take k) (sym (shares_front old middle front behind seams).same) ∙ take-take k front old low))

  from_front : (k : ℕ) → take (front + k) new ≡ take front old ++ take k (middle ++ drop behind old)
  from_front k = ap (λ n. take (n + k) new) (sym kept) ∙ take-append-add (take front old) (middle ++ drop behind old) k

  pub in_middle : (j : ℕ) → j ≤ length middle → count_by f (take (front + j) new) ≡ count_by f (take front old) + count_by f (take j middle)
  in_middle j low =
      ap (count_by f) (from_front j ∙ ap (λ xs. take front old ++ xs) (take-append-le j middle (drop behind old) low))
      ∙ count_joined f (take front old) (take j middle)

  pub at_end_of_middle : count_by f (take (front + length middle) new) ≡ count_by f (take front old) + count_by f middle
  at_end_of_middle = in_middle (length middle) (omega arith)
      ∙ ap (λ xs. count_by f (take front old) + count_by f xs) (take_all (length middle) middle (omega arith))

  pub in_back : (j : ℕ) → count_by f (take (front + length middle + j) new) + count_by f (take behind old)
      ≡ count_by f (take (behind + j) old) + count_by f (take (front + length middle) new)
  in_back j =
      let e : front + (length middle + j) ≡ front + length middle + j = omega arith in
      let a = sym (ap (λ n. count_by f (take n new)) e)
      ∙ (ap (count_by f) (from_front (length middle + j) ∙ ap (λ xs. take front old ++ xs) (take-append-add middle (drop behind old) j))
      ∙ (count_joined f (take front old) (middle ++ take j (drop behind old))
      ∙ ap (λ n. count_by f (take front old) + n) (count_joined f middle (take j (drop behind old))))) in
      let b = count_split f behind j old in
      let c = at_end_of_middle in
      omega (arith, a, b, c)

-- ---- places

module _ (old middle : List ℕ) (front behind : ℕ) (seams : AreSeams (length old) front behind)
    (distinct_old : IsTrue (is_distinct old)) (distinct : IsTrue (is_distinct (spliced old front behind middle))) where
  abbrev changed : List ℕ
  changed = spliced old front behind middle

  -- a node of the front stands where it stood, and one of the end as far behind the new nodes as behind the old ones
  abbrev pub IsKeptPlace : ℕ → ℕ → Type 0
  IsKeptPlace now before = ((now < front) × (before ≡ now)) ⊎ ((j : ℕ) × (now ≡ front + length middle + j) × (before ≡ behind + j) × (behind + j < length old))

  pub back_place : (x j : ℕ) → place_of old x ≡ behind + j → behind + j < length old → place_of changed x ≡ front + length middle + j
  back_place x j at low =
      let n = long old middle front behind seams in
      let k : ℕ = front + length middle + j in
      let same : k - front - length middle + behind ≡ place_of old x = omega (arith, at) in
      sym (place_is changed x k distinct (omega (arith, n, low))
      (at_back old middle front behind seams k (omega arith) (omega arith) ∙ (ap (slice_index old) same ∙ place_found old x (omega (arith, at, low)))))

  pub kept_front : (x : ℕ) → place_of changed x < front → place_of old x ≡ place_of changed x
  kept_front x low =
      let n = long old middle front behind seams in
      let order = seams.order in
      let high = seams.high in
      sym (place_is old x (place_of changed x) distinct_old (omega (arith, low, order, high))
      (sym (at_front old middle front behind seams (place_of changed x) low) ∙ place_found changed x (omega (arith, n, low))))

  pub kept_back : (x j : ℕ) → place_of changed x ≡ front + length middle + j
      → place_of changed x < length changed → (place_of old x ≡ behind + j) × (behind + j < length old)
  kept_back x j now low =
      let k : ℕ = place_of changed x in
      let n = long old middle front behind seams in
      let high = seams.high in
      let same : k - front - length middle + behind ≡ behind + j = omega (arith, now) in
      let low_too : behind + j < length old = omega (arith, low, n, now, high) in (
        sym (place_is old x (behind + j) distinct_old low_too
            (ap (slice_index old) (sym same)
            ∙ (sym (at_back old middle front behind seams k (omega (arith, now)) (omega (arith, now))) ∙ place_found changed x low))),
        low_too,
      )

  -- a node that is not one of the new ones
  pub kept_place : (x : ℕ) → place_of changed x < length changed → holds middle x ≡ false → IsKeptPlace (place_of changed x) (place_of old x)
  kept_place x low none =
      let k : ℕ = place_of changed x in
      let at = place_found changed x low in
      elim (cases_lt k front) [
        | inl before ↦ inl (before, kept_front x before)
        | inr past ↦ elim (cases_lt (k - front) (length middle)) [
          | inl inside ↦
              absurd (clash (holds middle x) (held_at middle x (k - front) inside (sym (at_middle old middle front behind seams k past inside) ∙ at)) none)
          | inr later ↦ (
              let j : ℕ = k - front - length middle in
              let now : k ≡ front + length middle + j = omega (arith, past, later) in
              let before = kept_back x j now low in
              inr (j, now, before.0, before.1))
        ]
      ]
