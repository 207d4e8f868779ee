-- Each join leaves one route less, so as many steps as there are routes are enough.
use Rattle.std.proofs.Common.{◌≡◌, ◌∙◌, ◌<◌, ◌≤◌, ◌+◌, ℕ, zero, suc, Bool, true, false, not, cond, List, [], ◌∷◌, length, map, Option, Some, None, inl, inr}
use Rattle.std.proofs.Common.{refl, ap, sym, subst, arith}
use Rattle.std.specs.Prelude.{◌||◌, ◌==◌, filter, MatchOption}
use Rattle.std.proofs.lemmas.Bool.{eq-eqb}
use Rattle.std.proofs.lemmas.List.Sums.{count_by-le-length, length-filter}
use Rattle.vr_model.specs.declared.records.Model.{Model}
use Rattle.vr_model.specs.deciding.Testing.{and_left}
use Rattle.vr_model.specs.first.Choosing.{least_by}
use Rattle.vr_model.specs.first.Items.{first_node}
use Rattle.vr_model.specs.first.SavingsJoins.{Join, after_join, is_part_of, is_wanted, join_key, joins, may_join, merged}
use Rattle.vr_model.specs.search.ChoosingLaws.{IsFirstLeast}
use Rattle.vr_model.specs.tables.Numbers.{each}
use Rattle.vr_model.proofs.first.LeastChoice.{least_first}
use Rattle.vr_model.proofs.tables.Members.{In, from_each, from_map, of_contains, of_filter}
use Rattle.vr_model.proofs.tables.Tests.{clash, eq_turned, fails_not}
use Rattle.vr_first_savings.specs.Ending.{IsMerged, MergingEnds}

-- ---- entries that a test takes out

module _ {A : Type 0} (p : A → Bool) where
  abbrev kept : List A → ℕ
  kept xs = length (filter p xs)

  no_more : (xs : List A) → kept xs ≤ length xs
  no_more xs =
      let n = length-filter p xs in
      let l = count_by-le-length p xs in
      omega (arith, n, l)

  -- one entry is taken out
  one_less : (xs : List A) (x : A) → In xs x → p x ≡ false → kept xs + 1 ≤ length xs
  one_less [] x h e = absurd h
  one_less (y ∷ ys) x (inl same) e = by (p y) refl (no_more ys)
    where
      by : (b : Bool) → p y ≡ b → kept ys ≤ length ys → length (cond b (y ∷ filter p ys) (filter p ys)) + 1 ≤ suc (length ys)
      by true t most = absurd (clash (p x) (ap p same ∙ t) e)
      by false t most = omega (arith, most)
  one_less (y ∷ ys) x (inr g) e = by (p y) (one_less ys x g e)
    where
      by : (b : Bool) → kept ys + 1 ≤ length ys → length (cond b (y ∷ filter p ys) (filter p ys)) + 1 ≤ suc (length ys)
      by true less = omega (arith, less)
      by false less = omega (arith, less)

  -- two entries are, of which a test tells the one from the other
  two_less : (q : A → Bool) (xs : List A) (x y : A) → In xs x → In xs y → p x ≡ false → p y ≡ false → q x ≡ true → q y ≡ false → kept xs + 2 ≤ length xs
  two_less q [] x y h k e f t s = absurd h
  two_less q (z ∷ zs) x y (inl a) (inl b) e f t s = absurd (clash (q z) (ap q (sym a) ∙ t) (ap q (sym b) ∙ s))
  two_less q (z ∷ zs) x y (inl a) (inr k) e f t s = by (p z) (ap p (sym a) ∙ e) (one_less zs y k f)
    where
      by : (b : Bool) → b ≡ false → kept zs + 1 ≤ length zs → length (cond b (z ∷ filter p zs) (filter p zs)) + 2 ≤ suc (length zs)
      by true n less = absurd (clash true refl n)
      by false n less = omega (arith, less)
  two_less q (z ∷ zs) x y (inr h) (inl b) e f t s = by (p z) (ap p (sym b) ∙ f) (one_less zs x h e)
    where
      by : (b : Bool) → b ≡ false → kept zs + 1 ≤ length zs → length (cond b (z ∷ filter p zs) (filter p zs)) + 2 ≤ suc (length zs)
      by true n less = absurd (clash true refl n)
      by false n less = omega (arith, less)
  two_less q (z ∷ zs) x y (inr h) (inr k) e f t s = by (p z) (two_less q zs x y h k e f t s)
    where
      by : (b : Bool) → kept zs + 2 ≤ length zs → length (cond b (z ∷ filter p zs) (filter p zs)) + 2 ≤ suc (length zs)
      by true less = omega (arith, less)
      by false less = omega (arith, less)

-- ---- a join

or-true : (b : Bool) → (b || true) ≡ true
or-true true = refl
or-true false = refl

-- its two routes are among the routes, and differ in their first nodes
record IsJoin (routes : List (List ℕ)) (join : Join) : Type 0 where
  front_there : In routes join.front
  back_there : In routes join.back
  apart : (first_node join.front == first_node join.back) ≡ false

module _ (model : Model) where
  of_joins : (routes : List (List ℕ)) (join : Join) → In (joins model routes) join → IsJoin routes join
  of_joins routes join h =
      let all = of_filter (may_join model) (each routes λ front. map (λ back. record { front = front; back = back }) routes) join h in
      let apart = fails_not (first_node join.front == first_node join.back) (and_left (not (first_node join.front == first_node join.back)) _ all.1) in
      from_each (λ front. map (λ back. record { front = front; back = back }) routes) routes join all.0 (λ front there more.
      from_map (λ back. record { front = front; back = back }) routes join more (λ back behind same. record {
        front_there = subst (In routes) (sym (ap (λ join. join.front) same)) there;
        back_there = subst (In routes) (sym (ap (λ join. join.back) same)) behind;
        apart = apart;
      }))

  one_route_less : (routes : List (List ℕ)) (join : Join) → IsJoin routes join → length (after_join routes join) < length routes
  one_route_less routes join is =
      let less = two_less (λ list. not (is_part_of join list)) (λ list. first_node list == first_node join.front)
      routes join.front join.back is.front_there is.back_there
      (ap (λ b. not (b || (first_node join.front == first_node join.back))) (eq-eqb (first_node join.front) (first_node join.front) refl))
      (ap (λ b. not ((first_node join.back == first_node join.front) || b)) (eq-eqb (first_node join.back) (first_node join.back) refl)
      ∙ ap not (or-true (first_node join.back == first_node join.front)))
      (eq-eqb (first_node join.front) (first_node join.front) refl)
      (eq_turned (first_node join.back) (first_node join.front) ∙ is.apart) in
      omega (arith, less)

  -- ---- the next join

  abbrev next : List (List ℕ) → Option Join
  next routes = least_by (join_key model) (joins model routes)

  next_joins : (routes : List (List ℕ)) (join : Join) → next routes ≡ Some join → IsJoin routes join
  next_joins routes join e =
      let first : IsFirstLeast (join_key model) (joins model routes) join =
      subst (λ o. MatchOption o (joins model routes ≡ []) (IsFirstLeast (join_key model) (joins model routes)))
      e (least_first (join_key model) (joins model routes)) in
      of_joins routes join (of_contains (joins model routes) join (first.place, first.in_list, first.stands_there join))

  ends : (more : ℕ) (routes : List (List ℕ)) → length routes ≤ more → IsMerged model (merged model more routes)
  ends zero [] few = λ join e. absurd (none e)
    where
      none : {A : Type 0} {x : A} → None ≡ Some x → ⊥
      none e = Prim.cc
  ends zero (route ∷ routes) few = absurd (omega (arith, few))
  ends (suc more) routes few = by (next routes) refl (λ new less. ends more new less)
    where
      by : (o : Option Join) → next routes ≡ o → ((new : List (List ℕ)) → length new ≤ more → IsMerged model (merged model more new)) → IsMerged model (elim o [
        | None ↦ routes
        | Some join ↦ elim (is_wanted model routes join) [
          | true ↦ merged model more (after_join routes join)
          | false ↦ routes
        ]
      ])
      by None e later = λ join is. absurd (none (sym e ∙ is))
        where
          none : {A : Type 0} {x : A} → None ≡ Some x → ⊥
          none e = Prim.cc
      by (Some join) e later = wanted (is_wanted model routes join) refl
        where
          same : (a b : Join) → Some a ≡ Some b → a ≡ b
          same a b e = Prim.cc

          wanted : (b : Bool) → is_wanted model routes join ≡ b → IsMerged model (elim b [
            | true ↦ merged model more (after_join routes join)
            | false ↦ routes
          ])
          wanted true w = later (after_join routes join) (let l = one_route_less routes join (next_joins routes join e) in omega (arith, l, few))
          wanted false w = λ other is. ap (is_wanted model routes) (same other join (sym is ∙ e)) ∙ w

pub merging_ends : MergingEnds
merging_ends model routes = ends model (length routes) routes (omega arith)
