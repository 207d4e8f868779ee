-- A set has as many runs as its normal form is long.
use Rattle.std.proofs.Common.{◌≡◌, ℕ, zero, suc, ◌+◌, Bool, true, false, cond, ◌&&◌, not, List, [], ◌∷◌, length, refl, ◌∙◌, ap, ap₂, subst, inl, inr, arith}
use Rattle.std.proofs.Common.{◌⊎◌, zero-add}
use Rattle.std.specs.Prelude.{ℤ, pos, ◌+ℤ◌, ◌-ℤ◌, ◌≤ℤ◌, ◌<ℤ◌, int_le, ◌||◌, nat_abs, IsTrue}
use Rattle.std.proofs.lemmas.Int.{ints}
use Rattle.vr_model.specs.tables.Numbers.{within, horizon}
use Rattle.vr_model.specs.schedules.Runs.{RunEnds, IsNormalFrom, in_runs, RunsAsLongAsForm}
use Rattle.vr_model.specs.schedules.Weights.{runs_from, runs}
use Rattle.vr_model.specs.deciding.Testing.{test_of_le, test_of_within, within_is, or_left, or_right}

int_cases : (x y : ℤ) → (x <ℤ y) ⊎ (y ≤ℤ x)
int_cases x y = Prim.grind (arith, ints)

not_le : (x y : ℤ) → y <ℤ x → int_le x y ≡ false
not_le x y h = Prim.grind (arith, ints)

not_within : (lo hi x : ℤ) → x <ℤ lo → within lo hi x ≡ false
not_within lo hi x h = let e : int_le lo x ≡ false = not_le lo x h in ap (λ b. b && int_le x hi) e

within_high : (lo hi x : ℤ) → lo ≤ℤ x → within lo hi x ≡ int_le x hi
within_high lo hi x h = let e : int_le lo x ≡ true = test_of_le lo x h in ap (λ b. b && int_le x hi) e

count_step : (has : ℤ → Bool) (s n : ℕ) (b c : Bool) → has (pos s) ≡ b → has (pos s -ℤ pos 1) ≡ c
    → runs_from has s (suc n) ≡ cond (b && not c) 1 0 + runs_from has (s + 1) n
unfolding runs_from
count_step has s n b c e f = ap₂ (λ u v. cond (u && not v) 1 0 + runs_from has (s + 1) n) e f

at_next : (has : ℤ → Bool) (s : ℕ) (b : Bool) → has (pos s) ≡ b → has (pos (s + 1) -ℤ pos 1) ≡ b
at_next has s b e = let i : pos (s + 1) -ℤ pos 1 ≡ pos s = omega (arith, ints) in ap has i ∙ e

module _ {R : Type 0} (ends : RunEnds R) where
  -- the numbers from s on, where s - 1 is not in the set
  pub record Outside (has : ℤ → Bool) (s n : ℕ) (rs : List R) : Type 0 where
    pub normal : IsNormalFrom ends (pos s) horizon rs
    pub room : horizon <ℤ pos (s + n)
    pub before : has (pos s -ℤ pos 1) ≡ false
    pub same : (x : ℤ) → pos s ≤ℤ x → has x ≡ in_runs ends rs x

  -- the same, where s - 1 is in a run that ends at hi
  pub record Inside (has : ℤ → Bool) (s n : ℕ) (hi : ℤ) (rs : List R) : Type 0 where
    pub normal : IsNormalFrom ends (hi +ℤ pos 2) horizon rs
    pub reach : (pos s -ℤ pos 1) ≤ℤ hi
    pub room : horizon <ℤ pos (s + n)
    pub top : hi ≤ℤ horizon
    pub before : has (pos s -ℤ pos 1) ≡ true
    pub same : (x : ℤ) → pos s ≤ℤ x → has x ≡ (int_le x hi || in_runs ends rs x)

  -- no run lies below where they begin
  none_below : (low x : ℤ) (rs : List R) → IsNormalFrom ends low horizon rs → x <ℤ low → in_runs ends rs x ≡ false
  none_below low x [] n h = refl
  none_below low x (r ∷ rs) n h =
      ap₂ (λ a b. a || b) (not_within (ends.lo r) (ends.hi r) x (omega (arith, ints, n.0, h)))
      (none_below (ends.hi r +ℤ pos 2) x rs n.3 (omega (arith, ints, n.0, n.1, h)))

  abbrev Counts : (ℤ → Bool) → ℕ → Type 0
  Counts has n = ((s : ℕ) (rs : List R) → Outside has s n rs → runs_from has s n ≡ length rs)
      × ((s : ℕ) (hi : ℤ) (rs : List R) → Inside has s n hi rs → runs_from has s n ≡ length rs)

  counts_none : (has : ℤ → Bool) → Counts has 0
  unfolding runs_from
  counts_none has = (out, ins)
    where
      out : (s : ℕ) (rs : List R) → Outside has s 0 rs → runs_from has s 0 ≡ length rs
      out s [] o = refl
      out s (r ∷ rs) o = absurd (omega (arith, ints, o.room, o.normal.0, o.normal.1, o.normal.2))

      ins : (s : ℕ) (hi : ℤ) (rs : List R) → Inside has s 0 hi rs → runs_from has s 0 ≡ length rs
      ins s hi [] i = refl
      ins s hi (r ∷ rs) i = absurd (omega (arith, ints, i.room, i.top, i.reach, i.normal.0, i.normal.1, i.normal.2))

  -- on past a number that is in no run
  pass_out : (has : ℤ → Bool) (s n : ℕ) (rs : List R) → Counts has n → has (pos s) ≡ false → horizon <ℤ pos (s + suc n)
      → IsNormalFrom ends (pos (s + 1)) horizon rs → ((x : ℤ) → pos (s + 1) ≤ℤ x → has x ≡ in_runs ends rs x)
      → (c : Bool) → has (pos s -ℤ pos 1) ≡ c → runs_from has s (suc n) ≡ length rs
  pass_out has s n rs ih e room normal same c f =
      count_step has s n false c e f
      ∙ (zero-add _ ∙ ih.0 (s + 1) rs (record { normal = normal; room = omega (arith, ints, room); before = at_next has s false e; same = same }))

  counts_more : (has : ℤ → Bool) (n : ℕ) → Counts has n → Counts has (suc n)
  counts_more has n ih = (out, ins)
    where
      out : (s : ℕ) (rs : List R) → Outside has s (suc n) rs → runs_from has s (suc n) ≡ length rs
      out s [] o = pass_out has s n [] ih (o.same (pos s) (omega (arith, ints))) o.room tt (λ x h. o.same x (omega (arith, ints, h))) false o.before
      out s (r ∷ rs) o = elim (int_cases (pos s) (ends.lo r)) [
        | inl early ↦ pass_out has s n (r ∷ rs) ih
            (o.same (pos s) (omega (arith, ints)) ∙ none_below (ends.lo r) (pos s) (r ∷ rs) (omega (arith, ints), o.normal.1, o.normal.2, o.normal.3) early)
            o.room (omega (arith, ints, early), o.normal.1, o.normal.2, o.normal.3) (λ x h. o.same x (omega (arith, ints, h))) false o.before
        | inr late ↦ (let here : pos s ≡ ends.lo r = omega (arith, ints, late, o.normal.0) in
            let e : has (pos s) ≡ true = o.same (pos s) (omega (arith, ints)) ∙ or_left (within (ends.lo r) (ends.hi r) (pos s)) _
            (test_of_within (ends.lo r) (ends.hi r) (pos s) (omega (arith, ints, here)) (omega (arith, ints, here, o.normal.1))) in
            count_step has s n true false e o.before ∙ (ap (λ m. 1 + m) (ih.1 (s + 1) (ends.hi r) rs (record {
              normal = o.normal.3;
              reach = omega (arith, ints, here, o.normal.1);
              room = omega (arith, ints, o.room);
              top = o.normal.2;
              before = at_next has s true e;
              same = λ x h. o.same x (omega (arith, ints, h))
                  ∙ ap (λ b. b || in_runs ends rs x) (within_high (ends.lo r) (ends.hi r) x (omega (arith, ints, h, here)));
            })) ∙ omega arith))
      ]

      ins : (s : ℕ) (hi : ℤ) (rs : List R) → Inside has s (suc n) hi rs → runs_from has s (suc n) ≡ length rs
      ins s hi rs i = elim (int_cases hi (pos s)) [
        | inl past ↦ (let f : int_le (pos s) hi ≡ false = not_le (pos s) hi past in
            pass_out has s n rs ih
            (i.same (pos s) (omega (arith, ints)) ∙ ap₂ (λ a b. a || b) f (none_below (hi +ℤ pos 2) (pos s) rs i.normal (omega (arith, ints, i.reach))))
            i.room (let e : hi +ℤ pos 2 ≡ pos (s + 1) = omega (arith, ints, past, i.reach) in subst (λ z. IsNormalFrom ends z horizon rs) e i.normal)
            (λ x h. i.same x (omega (arith, ints, h)) ∙ ap (λ b. b || in_runs ends rs x) (not_le x hi (omega (arith, ints, h, past)))) true i.before)
        | inr still ↦ (let t : int_le (pos s) hi ≡ true = test_of_le (pos s) hi still in
            let e : has (pos s) ≡ true = i.same (pos s) (omega (arith, ints)) ∙ ap (λ b. b || in_runs ends rs (pos s)) t in
            count_step has s n true true e i.before ∙ (zero-add _ ∙ ih.1 (s + 1) hi rs (record {
              normal = i.normal;
              reach = omega (arith, ints, still);
              room = omega (arith, ints, i.room);
              top = i.top;
              before = at_next has s true e;
              same = λ x h. i.same x (omega (arith, ints, h));
            })))
      ]

  counts : (has : ℤ → Bool) (n : ℕ) → Counts has n
  counts has zero = counts_none has
  counts has (suc n) = counts_more has n (counts has n)

  -- the least number of the first run, where all numbers of the runs are at most the horizon and not negative
  from_zero : (low : ℤ) (rs : List R) → IsNormalFrom ends low horizon rs
      → ((x : ℤ) → IsTrue (in_runs ends rs x) → pos 0 ≤ℤ x) → IsNormalFrom ends (pos 0) horizon rs
  from_zero low [] n h = tt
  from_zero low (r ∷ rs) n h = (
    h (ends.lo r) (or_left (within (ends.lo r) (ends.hi r) (ends.lo r)) _ (test_of_within (ends.lo r) (ends.hi r) (ends.lo r) (omega (arith, ints)) n.1)),
    n.1,
    n.2,
    n.3,
  )

  to_horizon : (low top : ℤ) (rs : List R) → IsNormalFrom ends low top rs
      → ((x : ℤ) → IsTrue (in_runs ends rs x) → x ≤ℤ horizon) → IsNormalFrom ends low horizon rs
  to_horizon low top [] n h = tt
  to_horizon low top (r ∷ rs) n h = (
    n.0,
    n.1,
    h (ends.hi r) (or_left (within (ends.lo r) (ends.hi r) (ends.hi r)) _ (test_of_within (ends.lo r) (ends.hi r) (ends.hi r) n.1 (omega (arith, ints)))),
    to_horizon (ends.hi r +ℤ pos 2) top rs n.3 (λ x t. h x (or_right (within (ends.lo r) (ends.hi r) x) _ t)),
  )

  -- the number of runs is the length of the normal form
  pub runs-length : (has : ℤ → Bool) (rs : List R) → IsNormalFrom ends (pos 0) horizon rs → ((x : ℤ) → has x ≡ in_runs ends rs x) → runs has ≡ length rs
  unfolding runs
  runs-length has rs normal same = (counts has (suc (nat_abs horizon))).0 0 rs (record {
    normal = normal;
    room = omega (arith, ints);
    before = same (pos 0 -ℤ pos 1) ∙ none_below (pos 0) (pos 0 -ℤ pos 1) rs normal (omega (arith, ints));
    same = λ x h. same x;
  })

pub runs_as_long_as_form : (R : Type 0) → RunsAsLongAsForm R
runs_as_long_as_form R ends bottom top has rs r inside = runs-length ends has rs
    (from_zero ends bottom rs (to_horizon ends bottom top rs r.normal (λ x t. (bounds x t).1)) (λ x t. (bounds x t).0)) r.same
  where
    bounds : (x : ℤ) → IsTrue (in_runs ends rs x) → (pos 0 ≤ℤ x) × (x ≤ℤ horizon)
    bounds x t = within_is (pos 0) horizon x (inside x (r.same x ∙ t))
