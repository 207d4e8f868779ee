-- Which nodes of a list a string takes out, told by where they are.
use Rattle.std.proofs.Common.{◌≡◌, ◌∙◌, ℕ, suc, ◌+◌, ◌-◌, ◌<◌, ◌≤◌, Bool, true, false, not, List, length, drop, refl, sym, ap, subst, arith, inl, inr}
use Rattle.std.specs.Prelude.{IsTrue, ◌&&◌, ◌==◌, nat_le, nat_lt, slice_index, slice_range, Option, Some, None}
use Rattle.std.proofs.lemmas.Bool.{cases_lt}
use Rattle.std.proofs.lemmas.List.{get_or-drop, get_or-take, length-take, length-drop}
use Rattle.std.proofs.lemmas.List.Folds.{list_any-append}
use Rattle.vr_model.specs.deciding.Testing.{and_left, and_right, and_both, or_cases, or_left, or_right, eq_of_test, test_of_eq}
use Rattle.vr_model.specs.routes.Routes.{route, holds, is_active}
use Rattle.vr_model.proofs.routes.Lists.{place_of_held, held_at}
use Rattle.vr_model.proofs.tables.Tests.{clash, fails, same_tests, lt_of_test, nat_of_test, test_of_lt, apart}
use Rattle.vr_routes.specs.Seats.{IsSeat, IsOnce}
use Rattle.vr_routes.proofs.SeatLemmas.{active_at}
use Rattle.vr_strings.specs.declared.drawing.StringPlaces.{StringPlaces}
use Rattle.vr_strings.specs.Strings.{gone_of, is_not_kept, string_visits, takes_place, IsStringIn}

test_of_le_nat : (m n : ℕ) → m ≤ n → IsTrue (nat_le m n)
test_of_le_nat m n h = Prim.grind arith

-- ---- the nodes from place a up to but not including place b

in_range : (xs : List ℕ) (a b j : ℕ) → j < b - a → slice_index (slice_range xs a b) j ≡ slice_index xs (a + j)
in_range xs a b j low = get_or-take (b - a) (drop a xs) j 0 low ∙ get_or-drop a xs j 0

range_length : (xs : List ℕ) (a b : ℕ) → b ≤ length xs → length (slice_range xs a b) ≡ b - a
range_length xs a b within = let t = length-take (b - a) (drop a xs) in let d = length-drop a xs in omega (arith, t, d, within)

-- where a node among them is
place_in : (xs : List ℕ) (a b x : ℕ) → b ≤ length xs → IsTrue (holds (slice_range xs a b) x) → (k : ℕ) × (a ≤ k) × (k < b) × (slice_index xs k ≡ x)
place_in xs a b x within held =
    let p = place_of_held (slice_range xs a b) x held in
    let long = range_length xs a b within in
    let low = p.1 in
    (a + p.0, omega arith, omega (arith, long, low), sym (in_range xs a b p.0 (omega (arith, long, low))) ∙ p.2)

held_in : (xs : List ℕ) (a b x k : ℕ) → b ≤ length xs → a ≤ k → k < b → slice_index xs k ≡ x → IsTrue (holds (slice_range xs a b) x)
held_in xs a b x k within from to found =
    let long = range_length xs a b within in
    let there : a + (k - a) ≡ k = omega (arith, from) in
    held_at (slice_range xs a b) x (k - a) (omega (arith, long, from, to))
    (in_range xs a b (k - a) (omega (arith, from, to)) ∙ ap (slice_index xs) there ∙ found)

-- ---- the nodes of a string

-- a place of the string is one of its places, and not the one that stays
record IsTakenAt (xs : List ℕ) (a b : ℕ) (stays : Option ℕ) (x k : ℕ) : Type 0 where
  from : a ≤ k
  to : k < b
  free : IsTrue (is_not_kept stays k)
  found : slice_index xs k ≡ x

other_place : (k s : ℕ) → (k ≡ s → ⊥) → IsTrue (not (k == s))
other_place k s h = ap not (apart k s h)

place_taken : (xs : List ℕ) (a b : ℕ) (stays : Option ℕ) (x : ℕ) → b ≤ length xs → ((s : ℕ) → stays ≡ Some s → (a < s) × (s + 1 < b))
    → IsTrue (holds (string_visits xs a b stays) x) → (k : ℕ) × IsTakenAt xs a b stays x k
place_taken xs a b None x within inside held =
    let p = place_in xs a b x within held in (p.0, record { from = p.1; to = p.2; free = refl; found = p.3 })
place_taken xs a b (Some s) x within inside held =
    let low = inside s refl in
    let both = sym (list_any-append (λ y. x == y) (slice_range xs a s) (slice_range xs (suc s) b)) ∙ held in
    elim (or_cases (holds (slice_range xs a s) x) (holds (slice_range xs (suc s) b) x) both) [
      | inl left ↦
          let p = place_in xs a s x (omega (arith, low, within)) left in
          let before = p.2 in
          (p.0, record { from = p.1; to = omega (arith, before, low); free = other_place p.0 s (λ e. absurd (omega (arith, before, e))); found = p.3 })
      | inr right ↦
          let p = place_in xs (suc s) b x within right in
          let after = p.1 in
          (p.0, record { from = omega (arith, after, low); to = p.2; free = other_place p.0 s (λ e. absurd (omega (arith, after, e))); found = p.3 })
    ]

not_same : (k s : ℕ) → IsTrue (not (k == s)) → k ≡ s → ⊥
not_same k s h e = both (k == s) (test_of_eq k s e) h
  where
    both : (b : Bool) → b ≡ true → IsTrue (not b) → ⊥
    both true e h = cc
    both false e h = cc

taken_place : (xs : List ℕ) (a b : ℕ) (stays : Option ℕ) (x k : ℕ) → b ≤ length xs → ((s : ℕ) → stays ≡ Some s → (a < s) × (s + 1 < b))
    → IsTakenAt xs a b stays x k → IsTrue (holds (string_visits xs a b stays) x)
taken_place xs a b None x k within inside at = held_in xs a b x k within at.from at.to at.found
taken_place xs a b (Some s) x k within inside at =
    let low = inside s refl in
    let from = at.from in
    let to = at.to in
    list_any-append (λ y. x == y) (slice_range xs a s) (slice_range xs (suc s) b)
    ∙ elim (cases_lt k s) [
      | inl before ↦ or_left (holds (slice_range xs a s) x) _ (held_in xs a s x k (omega (arith, low, within)) from before at.found)
      | inr after ↦
          let other : suc s ≤ k = later k s after (not_same k s at.free) in
          or_right (holds (slice_range xs a s) x) _ (held_in xs (suc s) b x k within other to at.found)
    ]
  where
    later : (k s : ℕ) → s ≤ k → (k ≡ s → ⊥) → suc s ≤ k
    later k s le h = elim (cases_lt s k) [ inl low ↦ omega (arith, low) | inr high ↦ absurd (h (omega (arith, le, high))) ]

module _ (lists : List (List ℕ)) (v : ℕ) (string : StringPlaces) (node : ℕ) where
  within_of : IsStringIn (length (route lists v)) string → string.first + string.width ≤ length (route lists v)
  within_of is = is.to

  -- a node in no list is taken out of none
  pub none_taken : v < length lists → IsStringIn (length (route lists v)) string
      → is_active lists node ≡ false → false ≡ holds (gone_of (route lists v) string) node
  none_taken vehicle is nowhere = sym (fails (holds (gone_of (route lists v) string) node) (λ held.
      let p = place_taken (route lists v) string.first (string.first + string.width) string.stays node is.to is.stays held in
      let to = p.1.to in
      let end = is.to in
      clash (is_active lists node) (active_at lists node v p.0 vehicle (omega (arith, to, end)) p.1.found) nowhere))

  -- a node is taken out if its seat is at a place that the string takes
  pub seat_taken : v < length lists → IsOnce lists → IsStringIn (length (route lists v)) string → (w k : ℕ) → IsSeat lists node w k
      → ((w == v) && takes_place string k) ≡ holds (gone_of (route lists v) string) node
  seat_taken vehicle once is w k seat = same_tests ((w == v) && takes_place string k) (holds (gone_of (route lists v) string) node) held there
    where
      held : IsTrue ((w == v) && takes_place string k) → IsTrue (holds (gone_of (route lists v) string) node)
      held h =
          let same = eq_of_test w v (and_left (w == v) _ h) in
          let takes = and_right (w == v) (takes_place string k) h in
          let between = and_left (nat_le string.first k && nat_lt k (string.first + string.width)) _ takes in
          taken_place (route lists v) string.first (string.first + string.width) string.stays node k is.to is.stays (record {
            from = nat_of_test string.first k (and_left (nat_le string.first k) _ between);
            to = lt_of_test k (string.first + string.width) (and_right (nat_le string.first k) _ between);
            free = and_right (nat_le string.first k && nat_lt k (string.first + string.width)) _ takes;
            found = ap (λ u. slice_index (route lists u) k) (sym same) ∙ seat.found;
          })

      there : IsTrue (holds (gone_of (route lists v) string) node) → IsTrue ((w == v) && takes_place string k)
      there h =
          let p = place_taken (route lists v) string.first (string.first + string.width) string.stays node is.to is.stays h in
          let to = p.1.to in
          let end = is.to in
          let same = once node w k v p.0 seat (record { vehicle = vehicle; place = omega (arith, to, end); found = p.1.found }) in
          let from = p.1.from in
          let place : p.0 ≡ k = sym same.1 in
          and_both (w == v) _ (test_of_eq w v same.0)
          (subst (λ j. IsTrue (takes_place string j)) place
          (and_both (nat_le string.first p.0 && nat_lt p.0 (string.first + string.width)) _
          (and_both (nat_le string.first p.0) _ (test_of_le_nat string.first p.0 from) (test_of_lt p.0 (string.first + string.width) to)) p.1.free))
