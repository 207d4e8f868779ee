-- The front and the back of a line and of a plan, place by place.
use Rattle.std.proofs.Common.{◌≡◌, ℕ, zero, suc, ◌+◌, ◌-◌, ◌<◌, ◌≤◌, Bool, true, false, ◌&&◌, length, refl, ap, subst, inl, inr, arith}
use Rattle.std.specs.Prelude.{ℤ, pos, ◌+ℤ◌, ◌≤ℤ◌, int_le, IsTrue, EachIndex}
use Rattle.std.proofs.lemmas.Int.{ints}
use Rattle.std.proofs.lemmas.Bool.{cases_lt}
use Rattle.std.proofs.lemmas.List.{get_or-take, get_or-drop, length-take-le, length-drop}
use Rattle.vr_model.specs.tables.Numbers.{within, horizon}
use Rattle.vr_model.specs.schedules.Lines.{Line}
use Rattle.vr_model.specs.schedules.Schedules.{no_arc, no_break, Plan, sides, KeepsRules, front, back, cumul, allows, arc_at, break_at, break_start, break_end}
use Rattle.vr_model.specs.schedules.Schedules.{is_inside}
use Rattle.vr_model.specs.deciding.Testing.{and_left, and_right, le_of_test}

-- a fact of each place below k, and of each place k + m, is one of each place
pub by_parts : (k n : ℕ) (P : ℕ → Type 0) → ((j : ℕ) → j < k → P j) → ((m : ℕ) → k + m < n → P (k + m)) → (j : ℕ) → j < n → P j
by_parts k n P f g j h = elim (cases_lt j k) [
  | inl l ↦ f j l
  | inr l ↦ (let e : k + (j - k) ≡ j = omega arith in subst P e (g (j - k) (omega arith)))
]

-- where a test stops to pass on 0, 1, ..
pub split_point : (p : ℕ → Bool) (n : ℕ) → (b : ℕ) × (b ≤ n) × ((i : ℕ) → i < b → IsTrue (p i)) × (b < n → p b ≡ false)
split_point p zero = (0, omega arith, λ i h. absurd (omega arith), λ h. absurd (omega arith))
split_point p (suc n) = go (split_point p n)
  where
    go : (b : ℕ) × (b ≤ n) × ((i : ℕ) → i < b → IsTrue (p i)) × (b < n → p b ≡ false)
        → (b : ℕ) × (b ≤ suc n) × ((i : ℕ) → i < b → IsTrue (p i)) × (b < suc n → p b ≡ false)
    go r = elim (cases_lt r.0 n) [
      | inl l ↦ (r.0, omega (arith, l), r.2, λ h. r.3 l)
      | inr l ↦ at_end l (p n) refl
    ]
      where
        all : n ≤ r.0 → (i : ℕ) → i < n → IsTrue (p i)
        all l i h = r.2 i (omega (arith, l, h))

        at_end : n ≤ r.0 → (b : Bool) → p n ≡ b → (b : ℕ) × (b ≤ suc n) × ((i : ℕ) → i < b → IsTrue (p i)) × (b < suc n → p b ≡ false)
        at_end l true e = (
          suc n,
          omega arith,
          λ i h. elim (cases_lt i n) [ inl k ↦ all l i k | inr k ↦ (let f : n ≡ i = omega arith in subst (λ j. IsTrue (p j)) f e) ],
          λ h. absurd (omega arith),
        )
        at_end l false e = (n, omega arith, all l, λ h. e)

-- ---- accessors of the front
module _ (line : Line) (k b : ℕ) where
  pub allows_front : (i : ℕ) (x : ℤ) → i < suc k → allows (front line k b) i x ≡ allows line i x
  allows_front i x h = ap (λ t. within (pos 0) horizon x && t x) (get_or-take (suc k) line.allowed i (λ _. false) h)

  pub arc_front : (i : ℕ) → i < k → arc_at (front line k b) i ≡ arc_at line i
  arc_front i h = get_or-take k line.arcs i no_arc h

  pub break_front : (i : ℕ) → i < b → break_at (front line k b) i ≡ break_at line i
  break_front i h = get_or-take b line.breaks i no_break h

  pub allows_back : (i : ℕ) (x : ℤ) → allows (back line k b) i x ≡ allows line (k + i) x
  allows_back i x = ap (λ t. within (pos 0) horizon x && t x) (get_or-drop k line.allowed i (λ _. false))

  pub arc_back : (i : ℕ) → arc_at (back line k b) i ≡ arc_at line (k + i)
  arc_back i = get_or-drop k line.arcs i no_arc

  pub break_back : (i : ℕ) → break_at (back line k b) i ≡ break_at line (b + i)
  break_back i = get_or-drop b line.breaks i no_break

  pub arcs_front : k ≤ length line.arcs → length (front line k b).arcs ≡ k
  arcs_front h = length-take-le k line.arcs h

  pub stops_front : suc k ≤ length line.allowed → length (front line k b).allowed ≡ suc k
  stops_front h = length-take-le (suc k) line.allowed h

  pub breaks_front : b ≤ length line.breaks → length (front line k b).breaks ≡ b
  breaks_front h = length-take-le b line.breaks h

  pub arcs_back : length (back line k b).arcs ≡ length line.arcs - k
  arcs_back = length-drop k line.arcs

  pub stops_back : length (back line k b).allowed ≡ length line.allowed - k
  stops_back = length-drop k line.allowed

  pub breaks_back : length (back line k b).breaks ≡ length line.breaks - b
  breaks_back = length-drop b line.breaks

-- ---- what the rules say of order
module _ (before after : Bool) (line : Line) (plan : Plan) (rules : KeepsRules (sides before after) line plan) where
  -- where no transit is negative, cumuls ascend
  pub ascends : EachIndex line.arcs (λ k. pos 0 ≤ℤ (arc_at line k).transit) → (m j : ℕ) → j + m ≤ length line.arcs → cumul plan j ≤ℤ cumul plan (j + m)
  ascends forward zero j h = let e : j + 0 ≡ j = omega arith in rw e (omega (arith, ints))
  ascends forward (suc m) j h =
      let low : j + m < length line.arcs = omega (arith, h) in
      let first = ascends forward m j (omega (arith, h)) in
      let left = rules.slacks_left (j + m) low in
      let bounded = (rules.slacks_bounded (j + m) low).0 in
      let t = forward (j + m) low in
      let e : j + suc m ≡ suc (j + m) = omega arith in
      rw e (omega (arith, ints, first, left, bounded, t))

  pub ascends_to : EachIndex line.arcs (λ k. pos 0 ≤ℤ (arc_at line k).transit) → (i j : ℕ) → i ≤ j → j ≤ length line.arcs → cumul plan i ≤ℤ cumul plan j
  ascends_to forward i j low high =
      let e : i + (j - i) ≡ j = omega arith in
      subst (λ n. cumul plan i ≤ℤ cumul plan n) e (ascends forward (j - i) i (omega (arith, low, high)))

  -- breaks start in order
  pub starts_ascend : EachIndex line.breaks (λ i. pos 1 ≤ℤ (break_at line i).duration)
      → (m i : ℕ) → i + m < length line.breaks → break_start plan i ≤ℤ break_start plan (i + m)
  starts_ascend durations zero i h = let e : i + 0 ≡ i = omega arith in rw e (omega (arith, ints))
  starts_ascend durations (suc m) i h =
      let e : i + suc m ≡ suc (i + m) = omega arith in
      let first = starts_ascend durations m i (omega (arith, h)) in
      let d = durations (i + m) (omega (arith, h)) in
      let o = rules.breaks_in_order (i + m) (omega (arith, h)) in
      rw e (omega (arith, ints, first, d, o))

  -- what a break inside an arc is told
  pub inside_starts : (i k : ℕ) → IsTrue (is_inside line plan i k) → (cumul plan k +ℤ (arc_at line k).visit) ≤ℤ break_start plan i
  inside_starts i k h = le_of_test _ _ (and_left (int_le (cumul plan k +ℤ (arc_at line k).visit) (break_start plan i)) _ h)

  pub inside_ends : (i k : ℕ) → IsTrue (is_inside line plan i k) → break_end line plan i ≤ℤ cumul plan (suc k)
  inside_ends i k h = le_of_test _ _ (and_right (int_le (cumul plan k +ℤ (arc_at line k).visit) (break_start plan i)) _ h)
