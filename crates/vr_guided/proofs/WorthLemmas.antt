-- Worths of arcs: a cost over a share, compared by cross products.
use Rattle.std.proofs.Common.{◌≡◌, ◌∙◌, ◌*◌, ◌<◌, ◌≤◌, ◌++◌, ℕ, zero, suc, Bool, true, false, cond, List, [], ◌∷◌, refl, sym, arith}
use Rattle.std.specs.Prelude.{◌&&◌, ◌||◌, ℤ, pos, negsuc, neg_ℤ, ◌*ℤ◌, int_le, int_lt}
use Rattle.std.specs.List.{list_all, list_any}
use Rattle.std.proofs.Math.Nat.{mul-le-mul_right, le_of_mul-le-mul_left}
use Rattle.std.proofs.lemmas.Int.{ints}
use Rattle.vr_model.specs.routes.Routes.{UsedArc}
use Rattle.vr_guided.specs.declared.worths.Worth.{Worth}
use Rattle.vr_guided.specs.Worths.{is_no_more, greater, greatest_worth, worthless}
use Rattle.vr_descent.proofs.EndLemmas.{both}

-- a / x ≤ b / y and b / y ≤ c / z give a / x ≤ c / z
worth_trans : (a b c x y z : ℕ) → 0 < y → a * y ≤ b * x → b * z ≤ c * y → a * z ≤ c * x
worth_trans a b c x y z some first second =
    let left : (a * y) * z ≤ (b * x) * z = mul-le-mul_right z first in
    let right : (b * z) * x ≤ (c * y) * x = mul-le-mul_right x second in
    let all : y * (a * z) ≤ y * (c * x) = omega (arith, left, right) in
    le_of_mul-le-mul_left all some

no : {A : Type 0} → false ≡ true → A
no e = absurd (never e)
  where
    never : false ≡ true → ⊥
    never e = Prim.cc

-- ---- tests of products of whole numbers

-- products of numbers that are not negative
of_test : (m n : ℕ) → int_le (pos m) (pos n) ≡ true → m ≤ n
of_test m n e = Prim.grind (arith, ints, e)

to_test : (m n : ℕ) → m ≤ n → int_le (pos m) (pos n) ≡ true
to_test m n h = Prim.grind (arith, ints, h)

-- products of negative ones
of_test_below : (m n : ℕ) → int_le (neg_ℤ (pos m)) (neg_ℤ (pos n)) ≡ true → n ≤ m
of_test_below m n e = Prim.grind (arith, ints, e)

to_test_below : (m n : ℕ) → n ≤ m → int_le (neg_ℤ (pos m)) (neg_ℤ (pos n)) ≡ true
to_test_below m n h = Prim.grind (arith, ints, h)

below : (m n : ℕ) → int_le (neg_ℤ (pos m)) (pos n) ≡ true
below m n = Prim.grind (arith, ints)

not_below : (m n : ℕ) → 1 ≤ n → int_le (pos m) (neg_ℤ (pos n)) ≡ true → false ≡ true
not_below m n one e = Prim.grind (arith, ints, one, e)

some_product : (m n : ℕ) → 1 ≤ suc m * suc n
some_product m n = omega arith

trans_ints : (a b c : ℤ) (x y z : ℕ) → int_le (a *ℤ pos (suc y)) (b *ℤ pos (suc x)) ≡ true
    → int_le (b *ℤ pos (suc z)) (c *ℤ pos (suc y)) ≡ true → int_le (a *ℤ pos (suc z)) (c *ℤ pos (suc x)) ≡ true
trans_ints (pos a) (pos b) (pos c) x y z first second =
    to_test (a * suc z) (c * suc x)
    (worth_trans a b c (suc x) (suc y) (suc z) (omega arith) (of_test (a * suc y) (b * suc x) first) (of_test (b * suc z) (c * suc y) second))
trans_ints (pos a) (pos b) (negsuc c) x y z first second = no (not_below (b * suc z) (suc c * suc y) (some_product c y) second)
trans_ints (pos a) (negsuc b) c x y z first second = no (not_below (a * suc y) (suc b * suc x) (some_product b x) first)
trans_ints (negsuc a) b (pos c) x y z first second = below (suc a * suc z) (c * suc x)
trans_ints (negsuc a) (pos b) (negsuc c) x y z first second = no (not_below (b * suc z) (suc c * suc y) (some_product c y) second)
trans_ints (negsuc a) (negsuc b) (negsuc c) x y z first second =
    to_test_below (suc a * suc z) (suc c * suc x) (worth_trans (suc c) (suc b) (suc a) (suc z) (suc y) (suc x) (omega arith)
    (of_test_below (suc b * suc z) (suc c * suc y) second) (of_test_below (suc a * suc y) (suc b * suc x) first))

-- ---- worths in order

pub no_more_trans : (a b c : Worth) → is_no_more a b ≡ true → is_no_more b c ≡ true → is_no_more a c ≡ true
no_more_trans a b c first second = trans_ints a.cost b.cost c.cost a.penalty b.penalty c.penalty first second

other_way : (x y : ℤ) → int_le x y ≡ false → int_le y x ≡ true
other_way x y e = Prim.grind (arith, ints, e)

pub no_more_total : (a b : Worth) → is_no_more a b ≡ false → is_no_more b a ≡ true
no_more_total a b e = other_way (a.cost *ℤ pos (suc b.penalty)) (b.cost *ℤ pos (suc a.penalty)) e

same_ints : (x : ℤ) → int_le x x ≡ true
same_ints x = Prim.grind (arith, ints)

pub no_more_refl : (a : Worth) → is_no_more a a ≡ true
no_more_refl a = same_ints (a.cost *ℤ pos (suc a.penalty))

-- what a worth above 0 is no more than is above 0
above_ints : (a b : ℤ) (x y : ℕ) → int_lt (pos 0) a ≡ true → int_le (a *ℤ pos (suc y)) (b *ℤ pos (suc x)) ≡ true → int_lt (pos 0) b ≡ true
above_ints (pos zero) b x y some e = no some
above_ints (pos (suc a)) (pos zero) x y some e = absurd (never (of_test (suc a * suc y) (0 * suc x) e) (some_product a y))
  where
    never : suc a * suc y ≤ 0 * suc x → 1 ≤ suc a * suc y → ⊥
    never low high = omega (arith, low, high)
above_ints (pos (suc a)) (pos (suc b)) x y some e = Prim.grind (arith, ints)
above_ints (pos (suc a)) (negsuc b) x y some e = no (not_below (suc a * suc y) (suc b * suc x) (some_product b x) e)
above_ints (negsuc a) b x y some e = no some

pub above_of : (a b : Worth) → int_lt (pos 0) a.cost ≡ true → is_no_more a b ≡ true → int_lt (pos 0) b.cost ≡ true
above_of a b some e = above_ints a.cost b.cost a.penalty b.penalty some e

-- what is no more than a worth above 0 is less than it once it has one penalty more
beaten_ints : (a b : ℤ) (x y : ℕ) → int_lt (pos 0) b ≡ true → int_le (a *ℤ pos (suc y)) (b *ℤ pos (suc x)) ≡ true
    → int_le (b *ℤ pos (suc (suc x))) (a *ℤ pos (suc y)) ≡ false
beaten_ints a (pos zero) x y some e = no some
beaten_ints (pos a) (pos (suc b)) x y some e =
    not_test (suc b * suc (suc x)) (a * suc y) (let low = of_test (a * suc y) (suc b * suc x) e in omega (arith, low))
  where
    not_test : (m n : ℕ) → n < m → int_le (pos m) (pos n) ≡ false
    not_test m n h = Prim.grind (arith, ints, h)
beaten_ints (negsuc a) (pos (suc b)) x y some e = not_below_test (suc b * suc (suc x)) (suc a * suc y) (some_product a y)
  where
    not_below_test : (m n : ℕ) → 1 ≤ n → int_le (pos m) (neg_ℤ (pos n)) ≡ false
    not_below_test m n h = Prim.grind (arith, ints, h)
beaten_ints a (negsuc b) x y some e = no some

pub beaten : (worth best : Worth) → int_lt (pos 0) best.cost ≡ true → is_no_more worth best ≡ true
    → is_no_more best (record { cost = worth.cost; penalty = suc worth.penalty }) ≡ false
beaten worth best some e = beaten_ints worth.cost best.cost worth.penalty best.penalty some e

-- ---- the greatest of a list

all_but : (w all b : Bool) → (b ≡ true → w ≡ true) → ((w && all) && b) ≡ (all && b)
all_but true all b h = refl
all_but false true true h = no (h refl)
all_but false true false h = refl
all_but false false b h = refl

instead : (w all b : Bool) → (w ≡ true → b ≡ true) → ((w && all) && b) ≡ (all && w)
instead true true true h = refl
instead true true false h = no (h refl)
instead true false b h = refl
instead false true b h = refl
instead false false b h = refl

module _ (worth : UsedArc → Worth) where
  pub greatest_more : (best : Worth) (xs ys : List UsedArc) → greatest_worth worth best (xs ++ ys) ≡ greatest_worth worth (greatest_worth worth best xs) ys
  greatest_more best [] ys = refl
  greatest_more best (x ∷ xs) ys = greatest_more (greater best (worth x)) xs ys

  -- no arc is worth more than x exactly where the greatest is not
  none_is_more : (x best : Worth) (arcs : List UsedArc)
      → (list_all (λ arc. is_no_more (worth arc) x) arcs && is_no_more best x) ≡ is_no_more (greatest_worth worth best arcs) x
  none_is_more x best [] = refl
  none_is_more x best (arc ∷ arcs) = go (is_no_more (worth arc) best) refl (none_is_more x best arcs) (none_is_more x (worth arc) arcs)
    where
      go : (b : Bool) → is_no_more (worth arc) best ≡ b
          → (list_all (λ arc. is_no_more (worth arc) x) arcs && is_no_more best x) ≡ is_no_more (greatest_worth worth best arcs) x
          → (list_all (λ arc. is_no_more (worth arc) x) arcs && is_no_more (worth arc) x) ≡ is_no_more (greatest_worth worth (worth arc) arcs) x
          → ((is_no_more (worth arc) x && list_all (λ arc. is_no_more (worth arc) x) arcs) && is_no_more best x)
          ≡ is_no_more (greatest_worth worth (cond b best (worth arc)) arcs) x
      go true e h k =
          all_but (is_no_more (worth arc) x) (list_all (λ arc. is_no_more (worth arc) x) arcs) (is_no_more best x) (λ g. no_more_trans (worth arc) best x e g)
          ∙ h
      go false e h k = instead (is_no_more (worth arc) x) (list_all (λ arc. is_no_more (worth arc) x) arcs)
          (is_no_more best x) (λ g. no_more_trans best (worth arc) x (no_more_total (worth arc) best e) g) ∙ k

  -- where some arc has a cost, what no arc is worth more than has one too
  some_cost : (x : Worth) (arcs : List UsedArc) → list_any (λ arc. int_lt (pos 0) (worth arc).cost) arcs ≡ true
      → list_all (λ arc. is_no_more (worth arc) x) arcs ≡ true → int_lt (pos 0) x.cost ≡ true
  some_cost x [] some all = no some
  some_cost x (arc ∷ arcs) some all =
      let parts = both (is_no_more (worth arc) x) (list_all (λ arc. is_no_more (worth arc) x) arcs) all in
      go (int_lt (pos 0) (worth arc).cost) refl parts.0 some (λ h. some_cost x arcs h parts.1)
    where
      go : (b : Bool) → int_lt (pos 0) (worth arc).cost ≡ b → is_no_more (worth arc) x ≡ true
          → (b || list_any (λ arc. int_lt (pos 0) (worth arc).cost) arcs) ≡ true
          → (list_any (λ arc. int_lt (pos 0) (worth arc).cost) arcs ≡ true → int_lt (pos 0) x.cost ≡ true) → int_lt (pos 0) x.cost ≡ true
      go true e low h again = above_of (worth arc) x e low
      go false e low h again = again h

  costs_no_less : (x : Worth) → int_lt (pos 0) x.cost ≡ true → is_no_more worthless x ≡ true
  costs_no_less x some = at_ints x.cost some
    where
      at_ints : (a : ℤ) → int_lt (pos 0) a ≡ true → int_le (pos 0 *ℤ pos (suc x.penalty)) (a *ℤ pos 1) ≡ true
      at_ints (pos a) some = to_test (0 * suc x.penalty) (a * 1) (omega arith)
      at_ints (negsuc a) some = no some

  module _ (arcs : List UsedArc) (some : list_any (λ arc. int_lt (pos 0) (worth arc).cost) arcs ≡ true) where
    -- no arc is worth more than x exactly where the greatest is not
    pub tells : (x : Worth) → list_all (λ arc. is_no_more (worth arc) x) arcs ≡ is_no_more (greatest_worth worth worthless arcs) x
    tells x = go (list_all (λ arc. is_no_more (worth arc) x) arcs) refl ∙ none_is_more x worthless arcs
      where
        go : (all : Bool) → list_all (λ arc. is_no_more (worth arc) x) arcs ≡ all → all ≡ (all && is_no_more worthless x)
        go true e = sym (costs_no_less x (some_cost x arcs some e))
        go false e = refl

    -- no arc is worth more than the greatest
    pub greatest_is : list_all (λ arc. is_no_more (worth arc) (greatest_worth worth worthless arcs)) arcs ≡ true
    greatest_is = tells (greatest_worth worth worthless arcs) ∙ no_more_refl (greatest_worth worth worthless arcs)

    -- the greatest has a cost
    pub greatest_costs : int_lt (pos 0) (greatest_worth worth worthless arcs).cost ≡ true
    greatest_costs = some_cost (greatest_worth worth worthless arcs) arcs some greatest_is
