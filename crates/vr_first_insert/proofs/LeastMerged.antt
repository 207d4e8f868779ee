-- The least of two lists, one behind the other, is the better of the leasts of both.
use Rattle.std.proofs.Common.{◌≡◌, ◌∙◌, ◌++◌, List, [], ◌∷◌, Bool, true, false, cond, Option, Some, None, ℤ, arith, refl, ap, sym}
use Rattle.std.specs.Prelude.{◌&&◌, ◌||◌, fold, int_lt, int_le}
use Rattle.std.proofs.lemmas.List.Sums.{fold-append}
use Rattle.vr_model.specs.tables.Numbers.{is_lex_less}
use Rattle.vr_model.specs.first.Choosing.{better, least_by}

-- ---- the order of keys

after-step : (x y z : ℤ) (p q r : Bool) → (p ≡ true → q ≡ true → r ≡ true) → (int_lt x y || (int_le x y && p)) ≡ true
    → (int_lt y z || (int_le y z && q)) ≡ true → (int_lt x z || (int_le x z && r)) ≡ true
after-step x y z true true true f h g = Prim.grind arith
after-step x y z true true false f h g = absurd (let e = f refl refl in cc)
after-step x y z true false r f h g = Prim.grind arith
after-step x y z false q r f h g = Prim.grind arith

not-step : (x y z : ℤ) (p q r : Bool) → (p ≡ false → q ≡ false → r ≡ false) → (int_lt x y || (int_le x y && p)) ≡ false
    → (int_lt y z || (int_le y z && q)) ≡ false → (int_lt x z || (int_le x z && r)) ≡ false
not-step x y z false false false f h g = Prim.grind arith
not-step x y z false false true f h g = absurd (let e = f refl refl in cc)
not-step x y z false true r f h g = Prim.grind arith
not-step x y z true q r f h g = Prim.grind arith

pub less-trans : (a b c : List ℤ) → is_lex_less a b ≡ true → is_lex_less b c ≡ true → is_lex_less a c ≡ true
less-trans a [] c h g = absurd (cc)
less-trans a (y ∷ ys) [] h g = absurd (cc)
less-trans [] (y ∷ ys) (z ∷ zs) h g = refl
less-trans (x ∷ xs) (y ∷ ys) (z ∷ zs) h g = after-step x y z (is_lex_less xs ys) (is_lex_less ys zs) (is_lex_less xs zs) (less-trans xs ys zs) h g

pub not_less-trans : (a b c : List ℤ) → is_lex_less a b ≡ false → is_lex_less b c ≡ false → is_lex_less a c ≡ false
not_less-trans a b [] h g = refl
not_less-trans [] [] (z ∷ zs) h g = absurd (cc)
not_less-trans [] (y ∷ ys) (z ∷ zs) h g = absurd (cc)
not_less-trans (x ∷ xs) [] (z ∷ zs) h g = absurd (cc)
not_less-trans (x ∷ xs) (y ∷ ys) (z ∷ zs) h g = not-step x y z (is_lex_less xs ys) (is_lex_less ys zs) (is_lex_less xs zs) (not_less-trans xs ys zs) h g

-- ---- two bests

-- the better of two bests, the first of equal ones
abbrev pub merged_best : {A : Type 0} → (A → List ℤ) → Option A → Option A → Option A
merged_best key best None = best
merged_best key best (Some y) = better key best y

module _ {A : Type 0} (key : A → List ℤ) where
  picked : (c y z : A) (yc zy : Bool) → is_lex_less (key y) (key c) ≡ yc → is_lex_less (key z) (key y) ≡ zy
      → cond (is_lex_less (key z) (key (cond yc y c))) z (cond yc y c) ≡ cond (is_lex_less (key (cond zy z y)) (key c)) (cond zy z y) c
  picked c y z true true e f = ap (λ b. cond b z y) f ∙ sym (ap (λ b. cond b z c) (less-trans (key z) (key y) (key c) f e))
  picked c y z true false e f = ap (λ b. cond b z y) f ∙ sym (ap (λ b. cond b y c) e)
  picked c y z false true e f = refl
  picked c y z false false e f = ap (λ b. cond b z c) (not_less-trans (key z) (key y) (key c) f e) ∙ sym (ap (λ b. cond b y c) e)

  better-better : (best : Option A) (y z : A) → better key (better key best y) z ≡ merged_best key best (better key (Some y) z)
  better-better None y z = refl
  better-better (Some c) y z = ap Some (picked c y z (is_lex_less (key y) (key c)) (is_lex_less (key z) (key y)) refl refl)

  merged-better : (best rest : Option A) (y : A) → merged_best key (better key best y) rest ≡ merged_best key best (merged_best key (Some y) rest)
  merged-better best None y = refl
  merged-better best (Some z) y = better-better best y z

  -- the best so far beside a list is the better of it and the least of the list
  pub fold-merged : (best : Option A) (ys : List A) → fold (better key) best ys ≡ merged_best key best (least_by key ys)
  fold-merged best [] = refl
  fold-merged best (y ∷ ys) = fold-merged (better key best y) ys
      ∙ merged-better best (least_by key ys) y ∙ ap (merged_best key best) (sym (fold-merged (Some y) ys))

  -- the least of all is the better of the leasts
  pub least_by-append : (xs ys : List A) → least_by key (xs ++ ys) ≡ merged_best key (least_by key xs) (least_by key ys)
  least_by-append xs ys = fold-append (better key) None xs ys ∙ fold-merged (least_by key xs) ys

  -- the same for a best that only entries that pass a test improve
  pub weighed-merged : (passes : A → Bool) (best : Option A) (ys : List A)
      → fold (λ best y. cond (passes y) (better key best y) best) best ys
      ≡ merged_best key best (fold (λ best y. cond (passes y) (better key best y) best) None ys)
  weighed-merged passes best [] = refl
  weighed-merged passes best (y ∷ ys) =
      by (passes y) refl (weighed-merged passes (better key best y) ys) (weighed-merged passes (Some y) ys) (weighed-merged passes best ys)
    where
      all : Option A → Option A
      all best = fold (λ best y. cond (passes y) (better key best y) best) best ys

      by : (b : Bool) → passes y ≡ b → all (better key best y) ≡ merged_best key (better key best y) (all None)
          → all (Some y) ≡ merged_best key (Some y) (all None) → all best ≡ merged_best key best (all None)
          → all (cond b (better key best y) best) ≡ merged_best key best (all (cond b (Some y) None))
      by true e here one rest = here ∙ merged-better best (all None) y ∙ ap (merged_best key best) (sym one)
      by false e here one rest = rest
