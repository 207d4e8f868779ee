-- Which pairs come in turn where other nodes stand in the place of a stretch of a list.
use Rattle.std.proofs.Common.{◌≡◌, ◌∙◌, ◌⊎◌, inl, inr, ℕ, zero, suc, ◌+◌, ◌-◌, ◌<◌, ◌≤◌, List, ◌++◌, Bool, true, false, length, take, drop, refl, sym, ap}
use Rattle.std.proofs.Common.{subst, arith}
use Rattle.std.specs.Prelude.{IsTrue, ◌==◌, nat_lt}
use Rattle.std.specs.List.{list_all}
use Rattle.std.proofs.lemmas.Bool.{cases_lt}
use Rattle.std.proofs.lemmas.Bool.Decides.{nat_tests}
use Rattle.std.proofs.lemmas.List.Folds.{list_any-append}
use Rattle.vr_model.specs.deciding.Testing.{eq_of_test, or_cases, or_left, or_right, test_of_eq}
use Rattle.vr_model.specs.declared.records.Model.{Model}
use Rattle.vr_model.specs.declared.records.Pair.{Pair}
use Rattle.vr_model.specs.declared.records.Policy.{Policy}
use Rattle.vr_model.specs.declared.records.Policy.TheVariants.{Any, Lifo, Fifo}
use Rattle.vr_model.specs.routes.Routes.{holds}
use Rattle.vr_model.specs.routes.Rules.{place_of}
use Rattle.vr_model.specs.tables.WellFormed.{IsWellFormed}
use Rattle.vr_model.proofs.moves.Times.{all_held, all_of_held}
use Rattle.vr_model.proofs.tables.Members.{In}
use Rattle.vr_model.proofs.tables.Tests.{lt_of_test, same_tests, test_of_lt}
use Rattle.vr_lists.proofs.PlaceLemmas.{holds-place}
use Rattle.vr_reach.specs.Spliced.{AreSeams, spliced}
use Rattle.vr_reach.proofs.Splicing.{long}
use Rattle.vr_pathfilters.specs.Turns.{deliveries_in, is_delivery, is_in_turn, is_pickup, pickups_in, takes_turns}
use Rattle.vr_pathfilters.specs.Replaced.{Serves, TurnsAreBetween, comes_in_turn, is_in_turn_if_any, takes_turns_between}
use Rattle.vr_pathfilters.proofs.Counting.{AreServed, count_lt, count_same}
use Rattle.vr_pathfilters.proofs.PairsFound.{found_turns, is_of, pair_found}
use Rattle.vr_pathfilters.proofs.Splices.{back_place, in_back, in_front, kept_back, kept_front, kept_place}
use Rattle.vr_pathfilters.proofs.Turning.{are_served, balanced, deliveries_first, first_out, pickups_first, turn_of, turns_of}

-- ---- other nodes in the place of a stretch

module _ (model : Model) (well_formed : IsWellFormed model) (old middle : List ℕ) (front behind : ℕ)
    (seams : AreSeams (length old) front behind) (was : Serves model old) (is : Serves model (spliced old front behind middle)) where
  abbrev new : List ℕ
  new = spliced old front behind middle

  -- where the new nodes end
  abbrev until : ℕ
  until = front + length middle

  abbrev picked : List ℕ → ℕ → ℕ
  picked list k = pickups_in model (take k list)

  abbrev delivered : List ℕ → ℕ → ℕ
  delivered list k = deliveries_in model (take k list)

  are_now : AreServed model.pairs (λ pair. place_of new pair.pickup) (λ pair. place_of new pair.delivery) (length new)
  are_now = are_served model well_formed new is.distinct is.each_pair

  are_then : AreServed model.pairs (λ pair. place_of old pair.pickup) (λ pair. place_of old pair.delivery) (length old)
  are_then = are_served model well_formed old was.distinct was.each_pair

  -- the new nodes change as many pickups as deliveries
  same_change : picked new until + delivered old behind ≡ delivered new until + picked old behind
  same_change =
      let high = seams.high in
      let n = long old middle front behind seams in
      let j : ℕ = length old - behind in
      let p = in_back (is_pickup model) old middle front behind seams j in
      let d = in_back (is_delivery model) old middle front behind seams j in
      let all : until + j ≡ length new = omega (arith, n) in
      let all_old : behind + j ≡ length old = omega (arith, high) in
      let even = ap (picked new) all ∙ (balanced model well_formed new is.distinct is.each_pair ∙ sym (ap (delivered new) all)) in
      let even_old = ap (picked old) all_old ∙ (balanced model well_formed old was.distinct was.each_pair ∙ sym (ap (delivered old) all_old)) in
      omega (arith, p, d, even, even_old)

  -- two numbers of first nodes, of the new list and of the old one, that keep the same nodes of the front or of the end
  abbrev AreAlike : ℕ → ℕ → Type 0
  AreAlike now before = ((now ≤ front) × (before ≡ now)) ⊎ ((j : ℕ) × (now ≡ until + j) × (before ≡ behind + j))

  alike : (now before : ℕ) → AreAlike now before → picked new now + delivered old before ≡ picked old before + delivered new now
  alike now before (inl (low, e)) =
      let p = in_front (is_pickup model) old middle front behind seams now low in
      let d = in_front (is_delivery model) old middle front behind seams now low in
      let a = ap (picked old) e in
      let b = ap (delivered old) e in
      omega (arith, p, d, a, b)
  alike now before (inr (j, e, g)) =
      let p = in_back (is_pickup model) old middle front behind seams j in
      let d = in_back (is_delivery model) old middle front behind seams j in
      let a = ap (picked old) g in
      let b = ap (delivered old) g in
      let a_now = ap (picked new) e in
      let b_now = ap (delivered new) e in
      let change = same_change in
      omega (arith, p, d, a, b, a_now, b_now, change)

  abbrev Kept : ℕ → Type 0
  Kept x = ((place_of new x < front) × (place_of old x ≡ place_of new x))
      ⊎ ((j : ℕ) × (place_of new x ≡ until + j) × (place_of old x ≡ behind + j) × (behind + j < length old))

  at_place : (x : ℕ) → Kept x → AreAlike (place_of new x) (place_of old x)
  at_place x (inl (low, e)) = inl (omega (arith, low), e)
  at_place x (inr (j, e, g, low)) = inr (j, e, g)

  past_place : (x : ℕ) → Kept x → AreAlike (place_of new x + 1) (place_of old x + 1)
  past_place x (inl (low, e)) = inl (omega (arith, low), omega (arith, e))
  past_place x (inr (j, e, g, low)) = inr (j + 1, omega (arith, e), omega (arith, g))

  stood : (x : ℕ) → Kept x → place_of old x < length old
  stood x (inl (low, e)) = let order = seams.order in let high = seams.high in omega (arith, low, e, order, high)
  stood x (inr (j, e, g, low)) = omega (arith, g, low)

  -- ---- pairs that neither come nor go

  last_kept : (pair : Pair) → Kept pair.pickup → Kept pair.delivery → IsTrue (is_in_turn model Lifo old pair) → IsTrue (is_in_turn model Lifo new pair)
  last_kept pair start end turn =
      let s = place_of new pair.pickup in
      let e = place_of new pair.delivery in
      let s_old = place_of old pair.pickup in
      let e_old = place_of old pair.delivery in
      let a = alike (s + 1) (s_old + 1) (past_place pair.pickup start) in
      let b = alike e e_old (at_place pair.delivery end) in
      let before = eq_of_test (picked old (s_old + 1) + delivered old e_old) (picked old e_old + delivered old (s_old + 1)) turn in
      test_of_eq (picked new (s + 1) + delivered new e) (picked new e + delivered new (s + 1)) (omega (arith, a, b, before))

  -- the pair of a new node comes in turn, where all such pairs do
  turn_by_node : (policy : Policy) → IsTrue (list_all (comes_in_turn model policy new) middle) → (pair : Pair)
      → In model.pairs pair → (x : ℕ) → IsTrue (is_of x pair) → IsTrue (holds middle x) → IsTrue (is_in_turn model policy new pair)
  turn_by_node policy come pair among x of held = subst (λ found. IsTrue (is_in_turn_if_any model policy new found))
      (pair_found model.pairs pair x well_formed.no_node_in_pairs_twice among of) (all_held (comes_in_turn model policy new) middle come x held)

  abbrev begins : Pair → ℕ
  begins pair = place_of new pair.pickup

  abbrev ends : Pair → ℕ
  ends pair = place_of new pair.delivery

  -- first in first out, a pair begins before the new nodes and ends behind them
  module _ (turns : IsTrue (takes_turns model Fifo old)) (come : IsTrue (list_all (comes_in_turn model Fifo new) middle))
      (x : Pair) (among : In model.pairs x) (start : begins x < front) (start_then : place_of old x.pickup ≡ begins x)
      (j : ℕ) (end : ends x ≡ until + j) (end_then : place_of old x.delivery ≡ behind + j) where
    starts_within : begins x < length new
    starts_within = let n = long old middle front behind seams in omega (arith, n, start)

    started_within : place_of old x.pickup < length old
    started_within = let order = seams.order in let high = seams.high in omega (arith, start, start_then, order, high)

    -- a pair that began later ends later
    ends_later : (z : Pair) → In model.pairs z → place_of old z.pickup < length old → place_of old x.pickup < place_of old z.pickup → ends x < ends z
    ends_later z there within after =
        let out = first_out model well_formed old was.distinct was.each_pair turns x z among there started_within within after in
        let high = (are_then.of_pickup z there within).1 in
        let i : ℕ = place_of old z.delivery - behind in
        let before : place_of old z.delivery ≡ behind + i = omega (arith, out, end_then) in
        let now = back_place old middle front behind seams was.distinct is.distinct z.delivery i before (omega (arith, before, high)) in
        omega (arith, now, end, out, end_then, before)

    -- none that begins behind the front ends before it: the first of them to end would not come in turn
    no_first : (z : Pair) → In model.pairs z → front ≤ begins z → ends z < ends x → ((w : Pair) → In model.pairs w → ends w < ends z → front ≤ begins w → ⊥) → ⊥
    no_first z there after before none_sooner = by (holds middle z.pickup) refl
      where
        high : ends x < length new
        high = (are_now.of_pickup x among starts_within).1

        order : begins z < ends z
        order = are_now.of_delivery z there (let h = high in omega (arith, before, h))

        by : (b : Bool) → holds middle z.pickup ≡ b → ⊥
        by true held =
            let h = high in
            let o = order in
            let turn = eq_of_test (picked new (begins z)) (delivered new (ends z))
            (turn_by_node Fifo come z there z.pickup (or_left (z.pickup == z.pickup) (z.delivery == z.pickup) (test_of_eq z.pickup z.pickup refl)) held) in
            let fewer = count_lt (λ w. nat_lt (ends w) (ends z)) (λ w. nat_lt (begins w) (begins z)) model.pairs
            (λ w too less. test_of_lt (begins w) (begins z) (earlier w too (lt_of_test (ends w) (ends z) less)))
            x among (Prim.grind (arith, nat_tests)) (test_of_lt (begins x) (begins z) (omega (arith, start, after))) in
            let a = pickups_first model well_formed new is.distinct is.each_pair (begins z) (omega (arith, o, before, h)) in
            let b = deliveries_first model well_formed new is.distinct is.each_pair (ends z) (omega (arith, before, h)) in
            omega (arith, turn, fewer, a, b)
          where
            earlier : (w : Pair) → In model.pairs w → ends w < ends z → begins w < begins z
            earlier w too less = elim (cases_lt (begins w) front) [
              | inl low ↦ omega (arith, low, after)
              | inr past ↦ absurd (none_sooner w too less past)
            ]
        by false none = elim (kept_place old middle front behind seams was.distinct is.distinct
            z.pickup (let o = order in let h = high in omega (arith, o, before, h)) none) [
              | inl (low, e) ↦ omega (arith, low, after)
              | inr (i, now, then, low) ↦ (
                  let seam = seams.order in
                  let later = ends_later z there (omega (arith, then, low)) (omega (arith, start, start_then, seam, then)) in
                  omega (arith, later, before))
            ]

    -- so there is none
    none_between : (k : ℕ) (z : Pair) → In model.pairs z → ends z < k → front ≤ begins z → ends z < ends x → ⊥
    none_between zero z there fuel after before = omega (arith, fuel)
    none_between (suc k) z there fuel after before =
        no_first z there after before (λ w too less past. none_between k w too (omega (arith, less, fuel)) past (omega (arith, less, before)))

    crossing : IsTrue (is_in_turn model Fifo new x)
    crossing =
        let within = (are_now.of_pickup x among starts_within).1 in
        let low = starts_within in
        test_of_eq (picked new (begins x)) (delivered new (ends x))
        (pickups_first model well_formed new is.distinct is.each_pair (begins x) (omega (arith, low))
        ∙ (count_same (λ z. nat_lt (begins z) (begins x)) (λ z. nat_lt (ends z) (ends x)) model.pairs forth back
        ∙ sym (deliveries_first model well_formed new is.distinct is.each_pair (ends x) (omega (arith, within)))))
      where
        -- a pair of the front, as it stood
        stood_so : (z : Pair) → begins z < front → (place_of old z.pickup ≡ begins z) × (place_of old z.pickup < length old)
        stood_so z low =
            let e = kept_front old middle front behind seams was.distinct is.distinct z.pickup low in
            let seam = seams.order in
            let high = seams.high in
            (e, omega (arith, e, low, seam, high))

        forth : (z : Pair) → In model.pairs z → IsTrue (nat_lt (begins z) (begins x)) → IsTrue (nat_lt (ends z) (ends x))
        forth z there less =
            let order = lt_of_test (begins z) (begins x) less in
            let s = stood_so z (omega (arith, order, start)) in
            let e = s.0 in
            elim (cases_lt (ends z) (ends x)) [
              | inl before ↦ test_of_lt (ends z) (ends x) before
              | inr past ↦ absurd
                  (let out = first_out model well_formed old was.distinct was.each_pair turns
                  z x there among s.1 started_within (omega (arith, e, order, start_then)) in
                  let low = starts_within in
                  let within = (are_now.of_pickup z there (omega (arith, order, low))).1 in
                  let i : ℕ = ends z - until in
                  let before = (kept_back old middle front behind seams was.distinct is.distinct z.delivery i (omega (arith, past, end)) within).0 in
                  omega (arith, before, out, end_then, past, end))
            ]

        back : (z : Pair) → In model.pairs z → IsTrue (nat_lt (ends z) (ends x)) → IsTrue (nat_lt (begins z) (begins x))
        back z there less =
            let order = lt_of_test (ends z) (ends x) less in
            elim (cases_lt (begins z) (begins x)) [
              | inl before ↦ test_of_lt (begins z) (begins x) before
              | inr past ↦ absurd (elim (cases_lt (begins z) front) [
                | inr behind_front ↦ none_between (suc (ends z)) z there (omega arith) behind_front order
                | inl low ↦ elim (cases_lt (begins x) (begins z)) [
                  | inr no_more ↦ (let e = are_now.apart z x there among
                      (let n = long old middle front behind seams in omega (arith, low, n)) (omega (arith, past, no_more)) in
                      omega (arith, e, order))
                  | inl more ↦ (
                      let s = stood_so z low in
                      let e = s.0 in
                      let later = ends_later z there s.1 (omega (arith, e, more, start_then)) in
                      omega (arith, later, order))
                ]
              ])
            ]

  first_kept : IsTrue (takes_turns model Fifo old) → IsTrue (list_all (comes_in_turn model Fifo new) middle)
      → (pair : Pair) → In model.pairs pair → place_of new pair.pickup < length new
      → Kept pair.pickup → Kept pair.delivery → IsTrue (is_in_turn model Fifo old pair) → IsTrue (is_in_turn model Fifo new pair)
  first_kept turns come pair among low (inl (front_low, e)) (inl (front_too, g)) turn =
      let s = place_of new pair.pickup in
      let t = place_of new pair.delivery in
      let before = eq_of_test (picked old (place_of old pair.pickup)) (delivered old (place_of old pair.delivery)) turn in
      test_of_eq (picked new s) (delivered new t)
      (in_front (is_pickup model) old middle front behind seams s (omega (arith, front_low)) ∙ (ap (picked old) (sym e) ∙ (before ∙ (ap (delivered old) g
      ∙ sym (in_front (is_delivery model) old middle front behind seams t (omega (arith, front_too)))))))
  first_kept turns come pair among low (inl (front_low, e)) (inr (j, g, h, within)) turn = crossing turns come pair among front_low e j g h
  first_kept turns come pair among low (inr (i, e, f, within_too)) (inl (front_too, g)) turn =
      absurd (let after = (are_now.of_pickup pair among low).0 in omega (arith, after, e, front_too))
  first_kept turns come pair among low (inr (i, e, f, within_too)) (inr (j, g, h, within)) turn =
      let s = place_of new pair.pickup in
      let t = place_of new pair.delivery in
      let before = eq_of_test (picked old (place_of old pair.pickup)) (delivered old (place_of old pair.delivery)) turn in
      let a = in_back (is_pickup model) old middle front behind seams i in
      let a_now = ap (picked new) e in
      let a_old = ap (picked old) f in
      let b = in_back (is_delivery model) old middle front behind seams j in
      let b_now = ap (delivered new) g in
      let b_old = ap (delivered old) h in
      let change = same_change in
      test_of_eq (picked new s) (delivered new t) (omega (arith, before, a, a_now, a_old, b, b_now, b_old, change))

  kept : (policy : Policy) → IsTrue (takes_turns model policy old) → IsTrue (list_all (comes_in_turn model policy new) middle)
      → (pair : Pair) → In model.pairs pair → place_of new pair.pickup < length new
      → Kept pair.pickup → Kept pair.delivery → IsTrue (is_in_turn model policy old pair) → IsTrue (is_in_turn model policy new pair)
  kept Any turns come pair among low start end turn = refl
  kept Lifo turns come pair among low start end turn = last_kept pair start end turn
  kept Fifo turns come pair among low start end turn = first_kept turns come pair among low start end turn

  -- ---- the test tells

  all_turn : (policy : Policy) → IsTrue (takes_turns model policy old)
      → IsTrue (takes_turns_between model policy old front behind middle) → IsTrue (takes_turns model policy new)
  all_turn policy turns come = turns_of model well_formed new is.distinct is.each_pair policy by
    where
      by : (pair : Pair) → In model.pairs pair → place_of new pair.pickup < length new → IsTrue (is_in_turn model policy new pair)
      by pair among low = cases (holds middle pair.pickup) (holds middle pair.delivery) refl refl
        where
          cases : (a b : Bool) → holds middle pair.pickup ≡ a → holds middle pair.delivery ≡ b → IsTrue (is_in_turn model policy new pair)
          cases true b e f = turn_by_node policy come pair among pair.pickup
              (or_left (pair.pickup == pair.pickup) (pair.delivery == pair.pickup) (test_of_eq pair.pickup pair.pickup refl)) e
          cases false true e f = turn_by_node policy come pair among pair.delivery
              (or_right (pair.pickup == pair.delivery) (pair.delivery == pair.delivery) (test_of_eq pair.delivery pair.delivery refl)) f
          cases false false e f =
              let start = kept_place old middle front behind seams was.distinct is.distinct pair.pickup low e in
              let end = kept_place old middle front behind seams was.distinct is.distinct pair.delivery (are_now.of_pickup pair among low).1 f in
              kept policy turns come pair among low start end
              (turn_of model well_formed old was.distinct was.each_pair policy turns pair among (stood pair.pickup start))

  -- ---- where all come in turn, the test passes

  come_in_turn : (policy : Policy) → IsTrue (takes_turns model policy new) → IsTrue (list_all (comes_in_turn model policy new) middle)
  come_in_turn policy turns = all_of_held (comes_in_turn model policy new) middle by
    where
      by : (x : ℕ) → IsTrue (holds middle x) → IsTrue (comes_in_turn model policy new x)
      by x held = found_turns model policy new x model.pairs (λ pair among of. turn_of model well_formed new is.distinct is.each_pair policy turns pair among
          (elim (or_cases (pair.pickup == x) (pair.delivery == x) of) [
            | inl start ↦ subst (λ y. place_of new y < length new) (sym (eq_of_test pair.pickup x start)) there
            | inr end ↦ (let low = subst (λ y. place_of new y < length new) (sym (eq_of_test pair.delivery x end)) there in
                let order = are_now.of_delivery pair among low in
                omega (arith, order, low))
          ]))
        where
          there : place_of new x < length new
          there = lt_of_test (place_of new x) (length new) (sym (holds-place new x) ∙ in_new)
            where
              in_new : IsTrue (holds new x)
              in_new =
                  list_any-append (λ y. x == y) (take front old) (middle ++ drop behind old)
                  ∙ or_right (holds (take front old) x) (holds (middle ++ drop behind old) x)
                  (list_any-append (λ y. x == y) middle (drop behind old) ∙ or_left (holds middle x) (holds (drop behind old) x) held)

  pub turns-between : (policy : Policy) → IsTrue (takes_turns model policy old)
      → takes_turns_between model policy old front behind middle ≡ takes_turns model policy new
  turns-between policy turns =
      same_tests (takes_turns_between model policy old front behind middle) (takes_turns model policy new) (all_turn policy turns) (come_in_turn policy)

pub turns_are_between : TurnsAreBetween
turns_are_between model policy old middle front behind well_formed seams was is turns =
    turns-between model well_formed old middle front behind seams was is policy turns
