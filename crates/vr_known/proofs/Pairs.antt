-- A pair that is put elsewhere: the same visits are active, and lists that do not hold it stay.
use Rattle.std.proofs.Common.{◌≡◌, ◌≢◌, ◌∙◌, ℕ, zero, suc, ◌+◌, ◌<◌, ◌≤◌, Bool, true, false, not, cond, List, [], ◌∷◌, length, map, refl, sym, ap, ap₂, subst}
use Rattle.std.proofs.Common.{inl, inr, arith}
use Rattle.std.specs.Prelude.{IsTrue, ◌&&◌, ◌||◌, ◌==◌, nat_lt, nat_le, filter}
use Rattle.std.specs.List.{list_any, concat}
use Rattle.std.proofs.lemmas.Bool.{cases_lt}
use Rattle.std.proofs.lemmas.Bool.Decides.{eqb_tells}
use Rattle.std.proofs.lemmas.List.{length-map}
use Rattle.std.proofs.lemmas.List.Folds.{list_any_at}
use Rattle.vr_model.specs.deciding.Testing.{and_left, and_right, or_cases, or_left, or_right, eq_of_test, test_of_eq}
use Rattle.vr_model.specs.tables.Tables.{pair_at}
use Rattle.vr_model.specs.routes.Routes.{route, holds, is_active}
use Rattle.vr_model.specs.moves.Moves.{apply, comes_before, with_pair, without_pair, is_pair_served, is_pair_together}
use Rattle.vr_model.specs.moves.MoveTests.{is_vehicle, may_put_pair, is_move}
use Rattle.vr_model.specs.declared.records.Model.{Model}
use Rattle.vr_model.specs.declared.records.Pair.{Pair}
use Rattle.vr_model.specs.declared.neighbours.Move.TheVariants.{RelocatePair}
use Rattle.vr_model.proofs.tables.Tests.{clash, same_tests}
use Rattle.vr_model.proofs.routes.Lists.{is_active-concat}
use Rattle.vr_model.proofs.moves.Times.{times, times_in, hit, times_set, held_times, joined_times, times_held, times_routes}
use Rattle.vr_model.proofs.moves.Kept.{pair_times, vehicle_of_test, order_of_test}
use Rattle.vr_routes.proofs.ElsewhereLemmas.{apart_not_served}
use Rattle.vr_routes.proofs.WithoutLemmas.{nothing_out}

-- ---- lists that hold a number

-- a list that passes a test that some list passes
pub one_of_lists : (p : List ℕ → Bool) (lists : List (List ℕ)) → IsTrue (list_any p lists) → (v : ℕ) × (v < length lists) × IsTrue (p (route lists v))
one_of_lists p [] h = absurd (clash false h refl)
one_of_lists p (l ∷ ls) h = elim (or_cases (p l) _ h) [
  | inl here ↦ (0, omega arith, here)
  | inr later ↦ (let r = one_of_lists p ls later in (suc r.0, (let low = r.1 in omega (arith, low)), r.2))
]

pub active_held : (lists : List (List ℕ)) (x v : ℕ) → v < length lists → IsTrue (holds (route lists v) x) → IsTrue (is_active lists x)
active_held lists x v low h = list_any_at (λ list. holds list x) lists v [] low h

pub active_some : (lists : List (List ℕ)) (x : ℕ) → IsTrue (is_active lists x) → 1 ≤ times_in x lists
active_some lists x h =
    let held : IsTrue (holds (concat lists) x) = sym (is_active-concat lists x) ∙ h in
    let some = held_times x (concat lists) held in
    let all = joined_times x lists in
    omega (arith, some, all)

pub some_active : (lists : List (List ℕ)) (x : ℕ) → 1 ≤ times_in x lists → IsTrue (is_active lists x)
some_active lists x some = let all = joined_times x lists in is_active-concat lists x ∙ times_held x (concat lists) (omega (arith, some, all))

-- a number that stands once stands in no other list
pub nowhere_else : (lists : List (List ℕ)) (x v u : ℕ) → times_in x lists ≤ 1 → IsTrue (holds (route lists v) x) → u ≢ v → times x (route lists u) ≡ 0
nowhere_else lists x v u few h apart = let one = held_times x (route lists v) h in elim (cases_lt v u) [
  | inl more ↦ (let both = times_routes x lists v u more in omega (arith, few, one, both))
  | inr no_more ↦ elim (cases_lt u v) [
    | inl less ↦ (let both = times_routes x lists u v less in omega (arith, few, one, both))
    | inr no_less ↦ absurd (apart (omega (arith, no_more, no_less)))
  ]
]

-- ---- lists without a pair

pub route_map : (f : List ℕ → List ℕ) → f [] ≡ [] → (lists : List (List ℕ)) (u : ℕ) → route (map f lists) u ≡ f (route lists u)
route_map f none [] u = sym none
route_map f none (l ∷ ls) zero = refl
route_map f none (l ∷ ls) (suc u) = route_map f none ls u

module _ (pair : Pair) where
  abbrev pub keeps : ℕ → Bool
  keeps node = not ((node == pair.pickup) || (node == pair.delivery))

  one_kept : (x : ℕ) (xs : List ℕ) → keeps x ≡ true → times x (without_pair pair xs) ≡ times x xs
  one_kept x [] kept = refl
  one_kept x (y ∷ ys) kept = by (keeps y) refl (one_kept x ys kept)
    where
      other : keeps x ≡ true → keeps y ≡ false → hit x y ≡ 0
      other kept out = Prim.grind arith

      by : (t : Bool) → keeps y ≡ t → times x (filter keeps ys) ≡ times x ys → times x (cond t (y ∷ filter keeps ys) (filter keeps ys)) ≡ hit x y + times x ys
      by true e same = omega (arith, same)
      by false e same = let none = other kept e in omega (arith, same, none)

  all_kept : (x : ℕ) (lists : List (List ℕ)) → keeps x ≡ true → times_in x (map (without_pair pair) lists) ≡ times_in x lists
  all_kept x [] kept = refl
  all_kept x (l ∷ ls) kept = let here = one_kept x l kept in let later = all_kept x ls kept in omega (arith, here, later)

  no_hits : (x : ℕ) → keeps x ≡ true → hit x pair.pickup + hit x pair.delivery ≡ 0
  no_hits x kept = Prim.grind arith

  some_hit : (x : ℕ) → keeps x ≡ false → 1 ≤ hit x pair.pickup + hit x pair.delivery
  some_hit x out = Prim.grind arith

  -- what a list holds without the pair
  holds_without : (xs : List ℕ) (x : ℕ) → holds (without_pair pair xs) x ≡ (keeps x && holds xs x)
  holds_without [] x = sym (no_more (keeps x))
    where
      no_more : (b : Bool) → (b && false) ≡ false
      no_more true = refl
      no_more false = refl
  holds_without (y ∷ ys) x = by (keeps y) refl (holds_without ys x)
    where
      kept_one : keeps y ≡ true → holds (filter keeps ys) x ≡ (keeps x && holds ys x)
          → ((x == y) || holds (filter keeps ys) x) ≡ (keeps x && ((x == y) || holds ys x))
      kept_one kept rest = elim (eqb_tells x y) [
        | inl same ↦ (
            let is : (x == y) ≡ true = test_of_eq x y same.1 in
            let here : keeps x ≡ true = ap keeps same.1 ∙ kept in
            ap (λ b. b || holds (filter keeps ys) x) is ∙ sym (ap (λ b. b && ((x == y) || holds ys x)) here ∙ ap (λ b. b || holds ys x) is))
        | inr apart ↦ ap (λ b. b || holds (filter keeps ys) x) apart.0 ∙ rest ∙ ap (λ b. keeps x && (b || holds ys x)) (sym apart.0)
      ]

      gone_one : keeps y ≡ false → holds (filter keeps ys) x ≡ (keeps x && holds ys x) → holds (filter keeps ys) x ≡ (keeps x && ((x == y) || holds ys x))
      gone_one out rest = elim (eqb_tells x y) [
        | inl same ↦ (
            let gone : keeps x ≡ false = ap keeps same.1 ∙ out in
            rest ∙ ap (λ b. b && holds ys x) gone ∙ sym (ap (λ b. b && ((x == y) || holds ys x)) gone))
        | inr apart ↦ rest ∙ ap (λ b. keeps x && (b || holds ys x)) (sym apart.0)
      ]

      by : (t : Bool) → keeps y ≡ t → holds (filter keeps ys) x ≡ (keeps x && holds ys x)
          → holds (cond t (y ∷ filter keeps ys) (filter keeps ys)) x ≡ (keeps x && ((x == y) || holds ys x))
      by true e rest = kept_one e rest
      by false e rest = gone_one e rest

  -- which visits are active without the pair
  pub active_without : (lists : List (List ℕ)) (x : ℕ) → is_active (map (without_pair pair) lists) x ≡ (keeps x && is_active lists x)
  active_without [] x = sym (no_more (keeps x))
    where
      no_more : (b : Bool) → (b && false) ≡ false
      no_more true = refl
      no_more false = refl
  active_without (l ∷ ls) x =
      ap₂ (λ a b. a || b) (holds_without l x) (active_without ls x) ∙ both (keeps x) (holds l x) (is_active ls x)
    where
      both : (k a b : Bool) → ((k && a) || (k && b)) ≡ (k && (a || b))
      both true a b = refl
      both false a b = refl

  -- a list that does not hold the nodes of a pair, which stand in another
  pub off_the_list : (lists : List (List ℕ)) (v u : ℕ) → ((x : ℕ) → times_in x lists ≤ 1)
      → IsTrue (holds (route lists v) pair.pickup) → IsTrue (holds (route lists v) pair.delivery)
      → u ≢ v → route (map (without_pair pair) lists) u ≡ route lists u
  off_the_list lists v u few picks delivers apart =
      route_map (without_pair pair) refl lists u
      ∙ nothing_out pair (route lists u) (nowhere_else lists pair.pickup v u (few pair.pickup) picks apart)
      (nowhere_else lists pair.delivery v u (few pair.delivery) delivers apart)

-- ---- pairs that are served

-- a list in which two numbers stand in order holds the first
pub comes_held : (list : List ℕ) (x y : ℕ) → IsTrue (comes_before list x y) → IsTrue (holds list x)
comes_held [] x y h = absurd (clash false h refl)
comes_held (z ∷ zs) x y h = elim (eqb_tells z x) [
  | inl same ↦ or_left (x == z) _ (test_of_eq x z (sym same.1))
  | inr other ↦ or_right (x == z) _ (comes_held zs x y (sym (ap (λ b. cond b (holds zs y) (comes_before zs x y)) other.0) ∙ h))
]

-- a list that holds both nodes of a pair
pub record Serves (pair : Pair) (lists : List (List ℕ)) : Type 0 where
  pub vehicle : ℕ
  pub low : vehicle < length lists
  pub picks : IsTrue (holds (route lists vehicle) pair.pickup)
  pub delivers : IsTrue (holds (route lists vehicle) pair.delivery)

module _ (model : Model) (lists : List (List ℕ)) (p : ℕ) where
  pub serves_together : IsTrue (is_pair_together model lists p) → Serves (pair_at model p) lists
  serves_together h =
      let pair = pair_at model p in
      let at = one_of_lists (λ list. holds list pair.pickup && holds list pair.delivery) lists h in
      record {
        vehicle = at.0;
        low = at.1;
        picks = and_left (holds (route lists at.0) pair.pickup) _ at.2;
        delivers = and_right (holds (route lists at.0) pair.pickup) _ at.2;
      }

  pub served_together : IsTrue (is_pair_served model lists p) → IsTrue (is_pair_together model lists p)
  served_together h = by (is_pair_together model lists p) refl
    where
      by : (b : Bool) → is_pair_together model lists p ≡ b → is_pair_together model lists p ≡ true
      by true e = e
      by false e = absurd (clash (is_pair_served model lists p) h (apart_not_served lists (pair_at model p).pickup (pair_at model p).delivery e))

  pub serves : IsTrue (is_pair_served model lists p) → Serves (pair_at model p) lists
  serves h = serves_together (served_together h)

  -- the vehicle that holds the pickup is the one that holds both
  pub delivers_too : ((x : ℕ) → times_in x lists ≤ 1) → Serves (pair_at model p) lists → (v : ℕ)
      → IsTrue (holds (route lists v) (pair_at model p).pickup) → IsTrue (holds (route lists v) (pair_at model p).delivery)
  delivers_too few at v picks = elim (cases_lt v at.vehicle) [
    | inl less ↦ absurd (twice (λ e. omega (arith, e, less)))
    | inr no_less ↦ elim (cases_lt at.vehicle v) [
      | inl more ↦ absurd (twice (λ e. omega (arith, e, more)))
      | inr no_more ↦ (let same : at.vehicle ≡ v = omega (arith, no_less, no_more) in
          subst (λ u. IsTrue (holds (route lists u) (pair_at model p).delivery)) same at.delivers)
    ]
  ]
    where
      twice : v ≢ at.vehicle → ⊥
      twice apart =
          let none = nowhere_else lists (pair_at model p).pickup at.vehicle v (few (pair_at model p).pickup) at.picks apart in
          let one = held_times (pair_at model p).pickup (route lists v) picks in
          omega (arith, none, one)

  -- the same visits are active after a served pair is put elsewhere
  module _ (w s t : ℕ) (h : IsTrue (is_move model lists (RelocatePair p w s t))) where
    abbrev pair : Pair
    pair = pair_at model p

    abbrev rest : List (List ℕ)
    rest = map (without_pair pair) lists

    pub served : IsTrue (is_pair_served model lists p)
    served = and_left (is_pair_served model lists p) _ h

    numbers : IsTrue (is_vehicle lists w && (nat_le s t && nat_le t (length (without_pair pair (route lists w)))))
    numbers =
        let others = and_right (is_pair_served model lists p) _ h in
        and_right (nat_lt p (length model.pairs)) _ (and_left (may_put_pair model lists p w (length (without_pair pair (route lists w))) s t) _ others)

    pub target_low : w < length lists
    target_low = vehicle_of_test model lists w (and_left (is_vehicle lists w) _ numbers)

    order : s ≤ t
    order = order_of_test model lists s t (and_left (nat_le s t) _ (and_right (is_vehicle lists w) _ numbers))

    times_after : (x : ℕ) → times_in x (apply model lists (RelocatePair p w s t)) ≡ times_in x rest + (hit x pair.pickup + hit x pair.delivery)
    times_after x =
        let low : w < length rest = let low = target_low in let same = length-map lists (without_pair pair) in omega (arith, low, same) in
        let put = times_set x rest w (with_pair pair s t (route rest w)) low in
        let more = pair_times x (route rest w) s t pair.pickup pair.delivery order in
        omega (arith, put, more)

    active_pair : (x : ℕ) → keeps pair x ≡ false → IsTrue (is_active lists x)
    active_pair x out =
        let at = serves served in
        elim (or_cases (x == pair.pickup) _ (is_one out)) [
          | inl here ↦ subst (λ y. IsTrue (is_active lists y)) (sym (eq_of_test x pair.pickup here)) (active_held lists pair.pickup at.vehicle at.low at.picks)
          | inr here ↦
              subst (λ y. IsTrue (is_active lists y)) (sym (eq_of_test x pair.delivery here)) (active_held lists pair.delivery at.vehicle at.low at.delivers)
        ]
      where
        is_one : keeps pair x ≡ false → IsTrue ((x == pair.pickup) || (x == pair.delivery))
        is_one out = Prim.grind arith

    active_as : (x : ℕ) → is_active (apply model lists (RelocatePair p w s t)) x ≡ is_active lists x
    active_as x = by (keeps pair x) refl
      where
        after : List (List ℕ)
        after = apply model lists (RelocatePair p w s t)

        by : (b : Bool) → keeps pair x ≡ b → is_active after x ≡ is_active lists x
        by true e =
            let now = times_after x in
            let kept = all_kept pair x lists e in
            let none = no_hits pair x e in
            same_tests (is_active after x) (is_active lists x)
            (λ a. let some = active_some after x a in some_active lists x (omega (arith, some, now, kept, none)))
            (λ a. let some = active_some lists x a in some_active after x (omega (arith, some, now, kept, none)))
        by false e =
            let now = times_after x in
            let some = some_hit pair x e in
            some_active after x (omega (arith, now, some)) ∙ sym (active_pair x e)

    pub same_active_pair : is_active (apply model lists (RelocatePair p w s t)) ≡ is_active lists
    same_active_pair = λ i x. active_as x i
