-- Questions about runs of moves, each of which is followed by a try.
use Rattle.std.proofs.Common.{◌≡◌, ◌∙◌, ℕ, suc, ◌+◌, ◌<◌, ◌≤◌, ◌^◌, Bool, true, List, ◌∷◌, cond, length, refl, sym, ap, subst, arith, inl, inr}
use Rattle.std.specs.Prelude.{Option, Some, None, filter}
use Rattle.std.proofs.lemmas.Bool.{cases_lt}
use Rattle.vr_model.specs.tables.Numbers.{from_to}
use Rattle.vr_model.specs.declared.neighbours.Move.{Move}
use Rattle.vr_known.specs.Nests.{run_of}
use Rattle.vr_known.specs.Passing.{any_of, capped, tries_taken, tries_within, IsFirst, Looked}
use Rattle.vr_known.proofs.NestLemmas.{from_to_step, run_takes}

pub within_rises : (limit i k : ℕ) → i ≤ k → tries_within limit i ≤ tries_within limit k
within_rises limit i k low = Prim.grind arith

within_next : (limit i : ℕ) → i < limit → limit < 2 ^ 64 → tries_within limit (i + 1) ≡ tries_within limit i + 1
within_next limit i low fits = Prim.grind arith

-- passing over moves uses no less tries, where none was taken before
pub within_more : (limit i n k : ℕ) → k ≡ capped (i + n) → tries_within limit (i + 0) ≤ tries_within limit k
within_more limit i n k e = Prim.grind arith

-- at least one move was passed over
within_one : (limit i n k more : ℕ) → 1 ≤ n → k ≡ capped (i + n) → tries_within limit (i + 1) ≤ tries_within limit (k + more)
within_one limit i n k more some e = Prim.grind arith

-- or one is left
within_left : (limit i n k : ℕ) → k ≡ capped (i + n) → tries_within limit (i + 1) ≤ tries_within limit (k + 1)
within_left limit i n k e = Prim.grind arith

-- the first of a range is one of those that are counted
count_some : (passes : ℕ → Bool) (a b : ℕ) → a < b → passes a ≡ true → 1 ≤ length (filter passes (from_to a b))
count_some passes a b low there =
    let more : List ℕ = filter passes (from_to (a + 1) b) in
    let e : length (filter passes (from_to a b)) ≡ suc (length more) = ap (λ l. length (filter passes l)) (from_to_step a b low)
    ∙ ap (λ t. length (cond t (a ∷ more) more)) there in
    omega (arith, e)

-- a question from a number on that has a move is followed by a try: that move is passed over, or left to be taken
pub followed_by : (limit : ℕ) (passes : ℕ → Bool) (f : ℕ → Move) (next first end count many counted : ℕ) → next < end → passes next ≡ true → next ≤ first
    → many ≡ length (filter passes (from_to next first)) → counted ≡ capped (count + many)
    → tries_within limit (count + 1) ≤ tries_within limit (counted + any_of (run_of passes f first end))
followed_by limit passes f next first end count many counted low there order number counts = elim (cases_lt next first) [
  | inl further ↦ (let some = count_some passes next first further there in
      within_one limit count many counted (any_of (run_of passes f first end)) (omega (arith, some, number)) counts)
  | inr high ↦ (
      let same : next ≡ first = omega (arith, order, high) in
      let one : any_of (run_of passes f first end) ≡ 1 = subst (λ k. any_of (run_of passes f k end) ≡ 1)
      same (ap any_of (run_takes passes f next end low there)) in
      subst (λ n. tries_within limit (count + 1) ≤ tries_within limit (counted + n)) (sym one) (within_left limit count many counted counts)
      )
]

-- the move that is left is the one that is taken
pub tried_first : (moves left : List Move) (result : Option Move) → IsFirst moves result left → any_of moves ≡ tries_taken result
tried_first moves left None first = ap any_of first.0
tried_first moves left (Some mv) first = ap any_of first

module _ {J : Type 0} (can_ask : J → Type 0) (judged looked : J → ℕ) (limit : ℕ) where
  -- nothing was asked
  pub looked_none : (judge : J) (count counted : ℕ) → can_ask judge
      → tries_within limit count ≤ tries_within limit counted → Looked can_ask judged looked limit judge count judge counted
  looked_none judge count counted ready more = record { ready = ready; judges_none = refl; followed = omega (arith, more) }

  -- one question before the limit
  pub looked_once : (a b : J) (count : ℕ) → can_ask b → judged b ≡ judged a → looked b ≤ looked a + 1
      → count < limit → limit < 2 ^ 64 → Looked can_ask judged looked limit a count b (count + 1)
  looked_once a b count ready same most low fits = let one = within_next limit count low fits in
      record { ready = ready; judges_none = same; followed = omega (arith, most, one) }

  -- one after the other
  pub looked_more : (a b c : J) (i k n : ℕ) → Looked can_ask judged looked limit a i b k
      → Looked can_ask judged looked limit b k c n → Looked can_ask judged looked limit a i c n
  looked_more a b c i k n p q = let first = p.followed in let second = q.followed in
      record { ready = q.ready; judges_none = q.judges_none ∙ p.judges_none; followed = omega (arith, first, second) }

  -- more was tried
  pub looked_further : (a b : J) (i k n : ℕ) → tries_within limit k ≤ tries_within limit n
      → Looked can_ask judged looked limit a i b k → Looked can_ask judged looked limit a i b n
  looked_further a b i k n more p = let first = p.followed in
      record { ready = p.ready; judges_none = p.judges_none; followed = omega (arith, first, more) }
