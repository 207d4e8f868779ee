-- What is counted before a place of a list.
use Rattle.std.proofs.Common.{◌≡◌, ◌∙◌, ℕ, ◌+◌, ◌-◌, ◌<◌, ◌≤◌, List, Bool, true, false, cond, length, take, refl, sym, ap, ap₂, subst, inl, inr, arith}
use Rattle.std.specs.Prelude.{IsTrue, ◌==◌, ◌||◌, Option, Some, None, count_by, slice_index, slice_set}
use Rattle.std.proofs.lemmas.Bool.{cases_lt}
use Rattle.std.proofs.lemmas.List.{get_or-set_other, get_or-set_same, length-take-le, take_all}
use Rattle.std.proofs.lemmas.List.Sums.{count_by-le-length, count_by_more_no, count_by_more_yes}
use Rattle.vr_model.specs.deciding.Testing.{eq_of_test, test_of_eq}
use Rattle.vr_model.specs.declared.records.Model.{Model}
use Rattle.vr_model.specs.declared.records.Pair.{Pair}
use Rattle.vr_model.specs.first.Items.{pair_of}
use Rattle.vr_model.specs.routes.Routes.{holds, is_distinct}
use Rattle.vr_model.specs.tables.WellFormed.{IsWellFormed}
use Rattle.vr_model.proofs.moves.Times.{at_least_two, times_of_distinct}
use Rattle.vr_model.proofs.routes.Lists.{held_at}
use Rattle.vr_model.proofs.tables.Members.{In}
use Rattle.vr_model.proofs.tables.Tests.{clash, fails}
use Rattle.vr_reach.specs.Spliced.{AreSeams, spliced}
use Rattle.vr_pathfilters.specs.declared.policies.counts.Counts.{Counts}
use Rattle.vr_pathfilters.specs.Counted.{count_of, pair_counts, no_counts, with_node, with_node_of}
use Rattle.vr_pathfilters.specs.Turns.{deliveries_in, is_delivery, is_pickup, pickups_in}
use Rattle.vr_pathfilters.proofs.PairsFound.{any_of, found_in, is_of, one_with, pair_found, two_nodes}
use Rattle.vr_pathfilters.proofs.Splices.{at_end_of_middle, count_rises, in_back, in_front, in_middle}

-- two counts at once
both_counts : {a b c d : ℕ} → a ≡ b → c ≡ d → ◌≡◌ {A = Counts} (record { pickups = a; deliveries = c }) (record { pickups = b; deliveries = d })
both_counts e g = ap₂ (λ p d. record { pickups = p; deliveries = d }) e g

-- no more are counted than there are
pub counts_few : (model : Model) (list : List ℕ) (k : ℕ) → k ≤ length list
    → ((pair_counts model (take k list)).pickups ≤ k) × ((pair_counts model (take k list)).deliveries ≤ k)
counts_few model list k low =
    let n = length-take-le k list low in
    let a = count_by-le-length (is_pickup model) (take k list) in
    let b = count_by-le-length (is_delivery model) (take k list) in
    (omega (arith, n, a), omega (arith, n, b))

-- ---- one node more

module _ (model : Model) (well_formed : IsWellFormed model) (list : List ℕ) (k : ℕ) (low : k < length list) where
  abbrev node : ℕ
  node = slice_index list k

  is_found : (pair : Pair) → In model.pairs pair → IsTrue (is_of node pair) → pair_of model node ≡ Some pair
  is_found pair among of = pair_found model.pairs pair node well_formed.no_node_in_pairs_twice among of

  no_pickup : ((pair : Pair) → In model.pairs pair → pair.pickup ≡ node → pair_of model node ≡ Some pair → ⊥) → is_pickup model node ≡ false
  no_pickup none = fails (is_pickup model node) (λ h.
      let r = one_with (λ pair. pair.pickup) model.pairs node h in
      none r.0 r.1 r.2 (is_found r.0 r.1 (ap (λ b. b || (r.0.delivery == node)) (test_of_eq r.0.pickup node r.2))))

  no_delivery : ((pair : Pair) → In model.pairs pair → pair.delivery ≡ node → pair_of model node ≡ Some pair → ⊥) → is_delivery model node ≡ false
  no_delivery none = fails (is_delivery model node) (λ h.
      let r = one_with (λ pair. pair.delivery) model.pairs node h in
      none r.0 r.1 r.2 (is_found r.0 r.1 (or_last (r.0.pickup == node) (r.0.delivery == node) (test_of_eq r.0.delivery node r.2))))
    where
      or_last : (a b : Bool) → IsTrue b → IsTrue (a || b)
      or_last true b h = refl
      or_last false b h = h

  same_pair : (pair other : Pair) → pair_of model node ≡ Some pair → pair_of model node ≡ Some other → pair ≡ other
  same_pair pair other e g = some_same (sym e ∙ g)
    where
      some_same : {a b : Pair} → Some a ≡ Some b → a ≡ b
      some_same h = Prim.cc

  pub counts_more : with_node model (pair_counts model (take k list)) node ≡ pair_counts model (take (k + 1) list)
  counts_more = by (pair_of model node) refl
    where
      absent : (found : Option Pair) → found ≡ None → (pair : Pair) → found ≡ Some pair → ⊥
      absent found e pair g = Prim.cc

      one_kind : (pair : Pair) → In model.pairs pair → pair.pickup ≡ node → pair.delivery ≡ node → ⊥
      one_kind pair among start end = clash (pair.pickup == pair.delivery) (test_of_eq pair.pickup pair.delivery (start ∙ sym end))
          (two_nodes model.pairs pair well_formed.no_node_in_pairs_twice among)

      by_kind : (pair : Pair) → pair_of model node ≡ Some pair → In model.pairs pair → IsTrue (is_of node pair) → (b : Bool) → (pair.pickup == node) ≡ b
          → with_node_of (Some pair) (pair_counts model (take k list)) node ≡ pair_counts model (take (k + 1) list)
      by_kind pair e among of true start =
          let is : pair.pickup ≡ node = eq_of_test pair.pickup node start in
          let yes : is_pickup model node ≡ true = subst (λ x. IsTrue (is_pickup model x)) is (any_of (λ p. p.pickup) model.pairs pair among) in
          let not_end =
          no_delivery (λ other among_too end found. one_kind other among_too (ap (λ (p : Pair). p.pickup) (same_pair other pair found e) ∙ is) end) in
          ap (λ b. cond b (record { pickups = pickups_in model (take k list) + 1; deliveries = deliveries_in model (take k list) })
          (record { pickups = pickups_in model (take k list); deliveries = deliveries_in model (take k list) + 1 })) start
          ∙ both_counts (sym (count_by_more_yes (is_pickup model) list k 0 low yes)) (sym (count_by_more_no (is_delivery model) list k 0 low not_end))
      by_kind pair e among of false start =
          let is : pair.delivery ≡ node = eq_of_test pair.delivery node (sym (ap (λ b. b || (pair.delivery == node)) start) ∙ of) in
          let yes : is_delivery model node ≡ true = subst (λ x. IsTrue (is_delivery model x)) is (any_of (λ p. p.delivery) model.pairs pair among) in
          let not_start =
          no_pickup (λ other among_too begin found. one_kind other among_too begin (ap (λ (p : Pair). p.delivery) (same_pair other pair found e) ∙ is)) in
          ap (λ b. cond b (record { pickups = pickups_in model (take k list) + 1; deliveries = deliveries_in model (take k list) })
          (record { pickups = pickups_in model (take k list); deliveries = deliveries_in model (take k list) + 1 })) start
          ∙ both_counts (sym (count_by_more_no (is_pickup model) list k 0 low not_start)) (sym (count_by_more_yes (is_delivery model) list k 0 low yes))

      by : (found : Option Pair) → pair_of model node ≡ found → with_node model (pair_counts model (take k list)) node ≡ pair_counts model (take (k + 1) list)
      by None e =
          ap (λ f. with_node_of f (pair_counts model (take k list)) node) e
          ∙ both_counts
          (sym (count_by_more_no (is_pickup model) list k 0 low (no_pickup (λ pair _ _ g. absent (pair_of model node) e pair g))))
          (sym (count_by_more_no (is_delivery model) list k 0 low (no_delivery (λ pair _ _ g. absent (pair_of model node) e pair g))))
      by (Some pair) e =
          let r = found_in (is_of node) model.pairs pair e in
          ap (λ f. with_node_of f (pair_counts model (take k list)) node) e ∙ by_kind pair e r.0 r.1 (pair.pickup == node) refl

-- ---- a table that is written over, entry by entry

module _ (model : Model) (list : List ℕ) (table : List Counts) (k : ℕ) (low : k < length list)
    (distinct : IsTrue (is_distinct list)) (within : slice_index list k < length table) (now : Counts) where
  abbrev written : List Counts
  written = slice_set table (slice_index list k) now

  -- what stands up to the nodes before, and up to this one
  pub counted_more : now ≡ pair_counts model (take (k + 1) list)
      → ((j : ℕ) → j < k → count_of table (slice_index list j) ≡ pair_counts model (take (j + 1) list))
      → (j : ℕ) → j < k + 1 → count_of written (slice_index list j) ≡ pair_counts model (take (j + 1) list)
  counted_more is before j here = elim (cases_lt j k) [
    | inl earlier ↦ get_or-set_other table (slice_index list k) (slice_index list j) now no_counts
        (λ same. let two = at_least_two (slice_index list k) list j k earlier low same refl in
        let few = times_of_distinct list distinct (slice_index list k) in omega (arith, two, few))
        ∙ before j earlier
    | inr not_earlier ↦ (let last : k ≡ j = omega (arith, here, not_earlier) in
        subst (λ i. count_of written (slice_index list i) ≡ pair_counts model (take (i + 1) list))
        last (get_or-set_same table (slice_index list k) now no_counts within ∙ is))
  ]

  -- others stay
  pub others_stay : (x : ℕ) → holds list x ≡ false → count_of written x ≡ count_of table x
  others_stay x none = get_or-set_other table (slice_index list k) x now no_counts (λ same. clash (holds list x) (held_at list x k low (sym same)) none)

-- ---- a list that keeps its ends

module _ (model : Model) (old middle : List ℕ) (front behind : ℕ) (seams : AreSeams (length old) front behind) (place : ℕ)
    (a b : Counts) (at_front : a ≡ pair_counts model (take front old)) (inside : b ≡ pair_counts model (take (place - front) middle)) where
  abbrev new : List ℕ
  new = spliced old front behind middle

  pub counts_front : place ≤ front → pair_counts model (take place old) ≡ pair_counts model (take place new)
  counts_front low = both_counts (sym (in_front (is_pickup model) old middle front behind seams place low))
      (sym (in_front (is_delivery model) old middle front behind seams place low))

  pub counts_between : front < place → place - front ≤ length middle
      → ◌≡◌ {A = Counts} (record { pickups = a.pickups + b.pickups; deliveries = a.deliveries + b.deliveries }) (pair_counts model (take place new))
  counts_between past low =
      let e : front + (place - front) ≡ place = omega (arith, past) in
      both_counts
      (ap₂ (λ (x y : Counts). x.pickups + y.pickups) at_front inside
      ∙ (sym (in_middle (is_pickup model) old middle front behind seams (place - front) low) ∙ ap (λ n. pickups_in model (take n new)) e))
      (ap₂ (λ (x y : Counts). x.deliveries + y.deliveries) at_front inside
      ∙ (sym (in_middle (is_delivery model) old middle front behind seams (place - front) low) ∙ ap (λ n. deliveries_in model (take n new)) e))

  module _ (later : ℕ) (is_later : later ≡ behind + (place - front - length middle)) (c d : Counts)
      (at_behind : c ≡ pair_counts model (take behind old)) (past : d ≡ pair_counts model (take later old)) where
    rise : (count : Counts → ℕ) (test : ℕ → Bool) → count c ≡ count_by test (take behind old)
        → count d ≡ count_by test (take later old) → count c ≤ count a + count b + count d
    rise count test e g =
        let more = count_rises test behind later old (omega (arith, is_later)) in
        omega (arith, e, g, more)

    pub pickups_rise : c.pickups ≤ a.pickups + b.pickups + d.pickups
    pickups_rise = rise (λ x. x.pickups) (is_pickup model) (ap (λ (x : Counts). x.pickups) at_behind) (ap (λ (x : Counts). x.pickups) past)

    pub deliveries_rise : c.deliveries ≤ a.deliveries + b.deliveries + d.deliveries
    deliveries_rise = rise (λ x. x.deliveries) (is_delivery model) (ap (λ (x : Counts). x.deliveries) at_behind) (ap (λ (x : Counts). x.deliveries) past)

    pub counts_behind : front < place → length middle < place - front
        → ◌≡◌ {A = Counts}
        (record { pickups = a.pickups + b.pickups + d.pickups - c.pickups; deliveries = a.deliveries + b.deliveries + d.deliveries - c.deliveries })
        (pair_counts model (take place new))
    counts_behind after high =
        let j : ℕ = place - front - length middle in
        let whole : front + length middle + j ≡ place = omega (arith, after, high) in
        let all = take_all (place - front) middle (omega (arith, high)) in
        let p = in_back (is_pickup model) old middle front behind seams j in
        let q = in_back (is_delivery model) old middle front behind seams j in
        let p_end = at_end_of_middle (is_pickup model) old middle front behind seams in
        let q_end = at_end_of_middle (is_delivery model) old middle front behind seams in
        let p_now = ap (λ n. pickups_in model (take n new)) whole in
        let q_now = ap (λ n. deliveries_in model (take n new)) whole in
        let p_later = ap (λ n. pickups_in model (take n old)) is_later in
        let q_later = ap (λ n. deliveries_in model (take n old)) is_later in
        let pa = ap (λ (x : Counts). x.pickups) at_front in
        let pb = ap (λ (x : Counts). x.pickups) inside ∙ ap (pickups_in model) all in
        let pc = ap (λ (x : Counts). x.pickups) at_behind in
        let pd = ap (λ (x : Counts). x.pickups) past in
        let da = ap (λ (x : Counts). x.deliveries) at_front in
        let db = ap (λ (x : Counts). x.deliveries) inside ∙ ap (deliveries_in model) all in
        let dc = ap (λ (x : Counts). x.deliveries) at_behind in
        let dd = ap (λ (x : Counts). x.deliveries) past in
        both_counts (omega (arith, p, p_end, p_now, p_later, pa, pb, pc, pd)) (omega (arith, q, q_end, q_now, q_later, da, db, dc, dd))
