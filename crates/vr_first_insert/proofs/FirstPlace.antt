-- The first place at which a visit adds least: where it is taken, it is the best of all places.
use Rattle.std.proofs.Common.{◌≡◌, ◌∙◌, ◌<◌, ◌≤◌, ◌+◌, ◌-◌, ℕ, zero, suc, List, Bool, true, false, cond, Option, Some, None, ℤ, pos, ◌+ℤ◌, ◌≤ℤ◌, refl, ap, sym}
use Rattle.std.proofs.Common.{subst, inl, inr, arith, length}
use Rattle.std.specs.Prelude.{◌&&◌, ◌||◌, fold, int_le, int_lt, map}
use Rattle.std.proofs.lemmas.Bool.{cases_lt}
use Rattle.std.proofs.lemmas.Int.{ints}
use Rattle.vr_model.specs.declared.records.Model.{Model}
use Rattle.vr_model.specs.first.Choosing.{better}
use Rattle.vr_model.specs.moves.Moves.{gaps}
use Rattle.vr_model.specs.tables.Numbers.{below, is_lex_less}
use Rattle.vr_model.specs.routes.Rules.{is_route_open}
use Rattle.vr_model.proofs.tables.Ranges.{below-more}
use Rattle.vr_rules.specs.Placing.{improves}
use Rattle.vr_rules.proofs.LazyLeast.{taken, untested}
use Rattle.vr_first_insert.specs.declared.bound.Cheapest.{Cheapest}
use Rattle.vr_first_insert.specs.declared.choice.InsertionChoice.{InsertionChoice}
use Rattle.vr_first_insert.specs.declared.choice.Placing.TheVariants.{One}
use Rattle.vr_first_insert.specs.Increases.{visit_increase}
use Rattle.vr_first_insert.specs.Placings.{key_of, placed, visit_choice, weigh, IsFirstLeastPlace}
use Rattle.vr_first_insert.proofs.InsertLemmas.{fold-one}

first-less : (c : ℕ) (i j : ℤ) (tail : Bool) → (i +ℤ pos 1) ≤ℤ j
    → (int_lt (pos c) (pos c) || (int_le (pos c) (pos c) && (int_lt i j || (int_le i j && tail)))) ≡ true
first-less c i j tail low = Prim.grind arith

same-head : (x : ℤ) (b : Bool) → (int_lt x x || (int_le x x && b)) ≡ b
same-head x true = Prim.grind arith
same-head x false = Prim.grind arith

no-less : (x y : ℤ) (b : Bool) → y ≤ℤ x → b ≡ false → (int_lt x y || (int_le x y && b)) ≡ false
no-less x y true low e = absurd (cc)
no-less x y false low e = Prim.grind arith

not-less : (c n v t p : ℕ) (i j : ℤ) → i ≤ℤ j → p ≤ t
    → (int_lt (pos c) (pos c) || (int_le (pos c) (pos c) && (int_lt j i || (int_le j i && (int_lt (pos n) (pos n) || (int_le (pos n) (pos n)
    && (int_lt (pos v) (pos v) || (int_le (pos v) (pos v) && (int_lt (pos t) (pos p) || (int_le (pos t) (pos p) && false)))))))))) ≡ false
not-less c n v t p i j low late =
    same-head (pos c) _ ∙ no-less j i _ low (same-head (pos n) _ ∙ same-head (pos v) _ ∙ no-less (pos t) (pos p) false (below late) refl)
  where
    below : p ≤ t → pos p ≤ℤ pos t
    below h = omega (arith, ints, h)

-- ---- the first least of numbers

-- of the first n numbers the one at a place is least, and those before it are greater
pub record IsLeastOf (f : ℕ → ℤ) (n place : ℕ) : Type 0 where
  pub earlier : place < n
  pub least : (t : ℕ) → t < n → f place ≤ℤ f t
  pub before : (t : ℕ) → t < place → (f place +ℤ pos 1) ≤ℤ f t

-- the first number alone
pub least-one : (f : ℕ → ℤ) → IsLeastOf f 1 0
least-one f = record {
  earlier = omega arith;
  least = λ t low. (let zero : t ≡ 0 = omega (arith, low) in subst (λ u. f 0 ≤ℤ f u) (sym zero) (omega (arith, ints)));
  before = λ t low. absurd (omega (arith, low));
}

-- one number more
pub least-more : (f : ℕ → ℤ) (n : ℕ) (at : Cheapest) (next : ℤ) → IsLeastOf f n at.place → at.least ≡ f at.place → next ≡ f n
    → IsLeastOf f (n + 1) (cond (int_lt next at.least) (record { place = n; least = next }) at).place
    × ((cond (int_lt next at.least) (record { place = n; least = next }) at).least
    ≡ f (cond (int_lt next at.least) (record { place = n; least = next }) at).place)
least-more f n at next is same here = by (int_lt next at.least) refl
  where
    less : (a b : ℤ) → int_lt a b ≡ true → (a +ℤ pos 1) ≤ℤ b
    less a b h = Prim.grind arith

    not_less : (a b : ℤ) → int_lt a b ≡ false → b ≤ℤ a
    not_less a b h = Prim.grind arith

    by : (b : Bool) → int_lt next at.least ≡ b → IsLeastOf f (n + 1) (cond b (record { place = n; least = next }) at).place
        × ((cond b (record { place = n; least = next }) at).least ≡ f (cond b (record { place = n; least = next }) at).place)
    by true h = (
      record {
        earlier = omega arith;
        least = λ t low. elim (cases_lt t n) [
          | inl there ↦ (let a = less next at.least h in let b = is.least t there in omega (arith, ints, a, b, same, here))
          | inr last ↦ (let at_n : t ≡ n = omega (arith, low, last) in subst (λ u. f n ≤ℤ f u) (sym at_n) (omega (arith, ints)))
        ];
        before = λ t low. (let a = less next at.least h in let b = is.least t low in omega (arith, ints, a, b, same, here));
      },
      here,
    )
    by false h = (
      record {
        earlier = (let e = is.earlier in omega (arith, e));
        least = λ t low. elim (cases_lt t n) [
          | inl there ↦ is.least t there
          | inr last ↦ (let at_n : t ≡ n = omega (arith, low, last) in
              let a = not_less next at.least h in
              subst (λ u. f at.place ≤ℤ f u) (sym at_n) (omega (arith, ints, a, same, here)))
        ];
        before = is.before;
      },
      same,
    )

-- ---- the choice of the first place

module _ (model : Model) (v : ℕ) (list : List ℕ) (class node place : ℕ) (is : IsFirstLeastPlace model v list node place) where
  choice : ℕ → InsertionChoice
  choice t = visit_choice model v list class node t

  -- the choices before it come behind it
  before : (t : ℕ) → t < place → is_lex_less (key_of (visit_choice model v list class node place)) (key_of (visit_choice model v list class node t)) ≡ true
  before t low = first-less class (visit_increase model v list node place) (visit_increase model v list node t) _ (is.before t low)

  -- and those behind it are not better
  behind : (t : ℕ) → place ≤ t → t ≤ length list
      → improves key_of (Some (visit_choice model v list class node place)) (visit_choice model v list class node t) ≡ false
  behind t late within = not-less class node v t place (visit_increase model v list node place) (visit_increase model v list node t) (is.least t within) late

  -- it stays better than the best so far
  stays : (best : Option InsertionChoice) (t : ℕ) → t < place → improves key_of best (visit_choice model v list class node place) ≡ true
      → improves key_of (weigh model list best (visit_choice model v list class node t)) (visit_choice model v list class node place) ≡ true
  stays best t low less = by (is_route_open model v (placed list (One node t))) best less
    where
      next : InsertionChoice
      next = visit_choice model v list class node t

      picked : (b : Bool) (c : InsertionChoice) → is_lex_less (key_of (visit_choice model v list class node place)) (key_of c) ≡ true
          → is_lex_less (key_of (visit_choice model v list class node place)) (key_of (cond b next c)) ≡ true
      picked true c h = before t low
      picked false c h = h

      by : (passes : Bool) (best : Option InsertionChoice) → improves key_of best (visit_choice model v list class node place) ≡ true
          → improves key_of (cond passes (better key_of best next) best) (visit_choice model v list class node place) ≡ true
      by true None h = before t low
      by true (Some c) h = picked (is_lex_less (key_of next) (key_of c)) c h
      by false best h = h

  -- the best of the first n places
  abbrev best_to : Option InsertionChoice → ℕ → Option InsertionChoice
  best_to best n = fold (weigh model list) best (map (visit_choice model v list class node) (below n))

  one-more : (best : Option InsertionChoice) (n : ℕ) → best_to best (n + 1) ≡ weigh model list (best_to best n) (visit_choice model v list class node n)
  one-more best n =
      ap (λ ks. fold (weigh model list) best (map (visit_choice model v list class node) ks)) (below-more n)
      ∙ fold-one (weigh model list) best (visit_choice model v list class node) (below n) n

  up_to : (best : Option InsertionChoice) (n : ℕ) → n ≤ place → improves key_of best (visit_choice model v list class node place) ≡ true
      → improves key_of (best_to best n) (visit_choice model v list class node place) ≡ true
  up_to best zero low less = less
  up_to best (suc n) low less =
      ap (λ k. improves key_of (best_to best k) (visit_choice model v list class node place)) (suc-is n)
      ∙ ap (λ b. improves key_of b (visit_choice model v list class node place)) (one-more best n)
      ∙ stays (best_to best n) n (omega (arith, low)) (up_to best n (omega (arith, low)) less)
    where
      suc-is : (n : ℕ) → suc n ≡ n + 1
      suc-is n = omega arith

  module _ (best : Option InsertionChoice) (less : improves key_of best (visit_choice model v list class node place) ≡ true)
      (opens : is_route_open model v (placed list (One node place)) ≡ true) where
    here : best_to best (place + 1) ≡ Some (visit_choice model v list class node place)
    here = one-more best place ∙ sym (taken key_of (best_to best place) (visit_choice model v list class node place)
        (is_route_open model v (placed list (One node place))) (up_to best place (omega arith) less) opens)

    on : (more : ℕ) → place + 1 + more ≤ length list + 1 → best_to best (place + 1 + more) ≡ Some (visit_choice model v list class node place)
    on zero within = let none : place + 1 + 0 ≡ place + 1 = omega arith in ap (best_to best) none ∙ here
    on (suc more) within =
        let k = place + 1 + more in
        let last : place + 1 + suc more ≡ (place + 1 + more) + 1 = omega arith in
        ap (best_to best) last ∙ one-more best (place + 1 + more)
        ∙ ap (λ b. weigh model list b (visit_choice model v list class node (place + 1 + more))) (on more (omega (arith, within)))
        ∙ sym (untested key_of (Some (visit_choice model v list class node place))
        (visit_choice model v list class node (place + 1 + more)) (is_route_open model v (placed list (One node (place + 1 + more))))
        (behind (place + 1 + more) (omega arith) (omega (arith, within))))

    -- it is the best of all places
    pub first-taken : Some (visit_choice model v list class node place) ≡ fold (weigh model list) best (map (visit_choice model v list class node) (gaps list))
    first-taken =
        let low = is.within in
        let all : place + 1 + (length list - place) ≡ suc (length list) = omega (arith, low) in
        sym (ap (best_to best) (sym all) ∙ on (length list - place) (omega (arith, low)))
