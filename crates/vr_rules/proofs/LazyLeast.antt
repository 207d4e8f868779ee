-- The least entry that passes a test, where the test is made only of entries whose key is less than the best so far.
--
-- `C` is what code compares, and `entry` gives the entry that it stands for. The best so far keeps the key of its entry,
-- so an entry whose key is not less need not be tested.
use Rattle.std.proofs.Common.{◌≡◌, ◌∙◌, ◌++◌, List, [], ◌∷◌, Bool, true, false, cond, Option, Some, None, refl, ap, ap₂, sym, subst, inl, inr, append_assoc, ℤ}
use Rattle.std.specs.Prelude.{filter, fold, map, IfSome}
use Rattle.std.specs.Option.{option_map}
use Rattle.std.proofs.lemmas.List.{append-nil}
use Rattle.std.proofs.lemmas.List.Elements.{filter-append}
use Rattle.vr_model.specs.tables.Numbers.{is_lex_less}
use Rattle.vr_model.specs.first.Choosing.{least_by, better}
use Rattle.vr_model.proofs.tables.Members.{In}
use Rattle.vr_rules.specs.Placing.{improves}
use Rattle.std.proofs.lemmas.List.Sums.{fold-append}

-- the least of a list with one entry more
least_by-push : {A : Type 0} (key : A → List ℤ) (xs : List A) (y : A) → least_by key (xs ++ y ∷ []) ≡ better key (least_by key xs) y
least_by-push key xs y = fold-append (better key) None xs (y ∷ [])

module _ {A C : Type 0} (entry : C → A) (key : A → List ℤ) (key_of : C → List ℤ) (test : A → Bool) (Good : C → Type 0) where
  -- the best among entries: it is the least that passes, its key is known, and so is what holds wherever an entry passes
  pub record IsBest (best : Option C) (xs : List A) : Type 0 where
    pub least : option_map entry best ≡ least_by key (filter test xs)
    pub keyed : IfSome best (λ c. key_of c ≡ key (entry c))
    pub good : IfSome best Good

  pub IsBest-none : IsBest None []
  IsBest-none = record { least = refl; keyed = tt; good = tt }

  least_by-more : (b : Bool) (xs : List A) (y : A) → test y ≡ b
      → least_by key (filter test (xs ++ y ∷ [])) ≡ cond b (better key (least_by key (filter test xs)) y) (least_by key (filter test xs))
  least_by-more true xs y e =
      ap (least_by key) (filter-append test xs (y ∷ []) ∙ ap (λ b. filter test xs ++ cond b (y ∷ []) []) e) ∙ least_by-push key (filter test xs) y
  least_by-more false xs y e =
      ap (least_by key) (filter-append test xs (y ∷ []) ∙ ap (λ b. filter test xs ++ cond b (y ∷ []) []) e ∙ append-nil (filter test xs))

  image : (b : Bool) (x y : C) → entry (cond b x y) ≡ cond b (entry x) (entry y)
  image true x y = refl
  image false x y = refl

  chosen-key : (b : Bool) (x y : C) → key_of x ≡ key (entry x) → key_of y ≡ key (entry y) → key_of (cond b x y) ≡ key (entry (cond b x y))
  chosen-key true x y e f = e
  chosen-key false x y e f = f

  better-entry : (best : Option C) (y : C) (xs : List A) → IsBest best xs → key_of y ≡ key (entry y)
      → (option_map entry (better key_of best y) ≡ better key (least_by key (filter test xs)) (entry y))
      × IfSome (better key_of best y) (λ c. key_of c ≡ key (entry c))
  better-entry None y xs before keyed = (ap (λ b. better key b (entry y)) before.least, keyed)
  better-entry (Some c) y xs before keyed =
      let less : is_lex_less (key_of y) (key_of c) ≡ is_lex_less (key (entry y)) (key (entry c)) = ap₂ is_lex_less keyed before.keyed in (
        ap Some (image (is_lex_less (key_of y) (key_of c)) y c ∙ ap (λ b. cond b (entry y) (entry c)) less) ∙ ap (λ b. better key b (entry y)) before.least,
        chosen-key (is_lex_less (key_of y) (key_of c)) y c keyed before.keyed,
      )

  good-better : (best : Option C) (y : C) → IfSome best Good → Good y → IfSome (better key_of best y) Good
  good-better None y before h = h
  good-better (Some c) y before h = by (is_lex_less (key_of y) (key_of c))
    where
      by : (b : Bool) → Good (cond b y c)
      by true = h
      by false = before

  -- one entry more: the better one where it passes
  pub IsBest-more : (best : Option C) (y : C) (xs : List A) (passes : Bool) → IsBest best xs
      → key_of y ≡ key (entry y) → passes ≡ test (entry y) → (passes ≡ true → Good y)
      → IsBest (cond passes (better key_of best y) best) (xs ++ entry y ∷ [])
  IsBest-more best y xs true before keyed tested good =
      let next = better-entry best y xs before keyed in
      record { least = next.0 ∙ sym (least_by-more true xs (entry y) (sym tested)); keyed = next.1; good = good-better best y before.good (good refl) }
  IsBest-more best y xs false before keyed tested good =
      record { least = before.least ∙ sym (least_by-more false xs (entry y) (sym tested)); keyed = before.keyed; good = before.good }

-- code that tests only what improves on the best so far
module _ {C : Type 0} (key_of : C → List ℤ) where
  -- the entry does not improve, so it is not tested
  pub untested : (best : Option C) (y : C) (passes : Bool) → improves key_of best y ≡ false → best ≡ cond passes (better key_of best y) best
  untested None y passes e = absurd (cc)
  untested (Some c) y true e = ap (λ b. Some (cond b y c)) (sym e)
  untested (Some c) y false e = refl

  -- it improves, and passes
  pub taken : (best : Option C) (y : C) (passes : Bool) → improves key_of best y ≡ true → passes ≡ true → Some y ≡ cond passes (better key_of best y) best
  taken None y passes e t = ap (λ b. cond b (Some y) None) (sym t)
  taken (Some c) y passes e t = ap (λ b. Some (cond b y c)) (sym e) ∙ ap (λ b. cond b (better key_of (Some c) y) (Some c)) (sym t)

  -- it does not pass
  pub failed : (best : Option C) (y : C) (passes : Bool) → passes ≡ false → best ≡ cond passes (better key_of best y) best
  failed best y passes t = ap (λ b. cond b (better key_of best y) best) (sym t)

-- ---- many entries at once

module _ {A C : Type 0} (entry : C → A) (key : A → List ℤ) (key_of : C → List ℤ) (test : A → Bool) (Good : C → Type 0) where
  -- what code knows of an entry: its key, what the test answers, and what holds where it passes
  pub record IsKnown (passes : C → Bool) (c : C) : Type 0 where
    pub keyed : key_of c ≡ key (entry c)
    pub tested : passes c ≡ test (entry c)
    pub good : passes c ≡ true → Good c

  -- entries that are weighed in turn
  pub IsBest-fold : (passes : C → Bool) (best : Option C) (cs : List C) (xs : List A)
      → IsBest entry key key_of test Good best xs → ((c : C) → In cs c → IsKnown passes c)
      → IsBest entry key key_of test Good (fold (λ best c. cond (passes c) (better key_of best c) best) best cs) (xs ++ map entry cs)
  IsBest-fold passes best [] xs before known = subst (IsBest entry key key_of test Good best) (sym (append-nil xs)) before
  IsBest-fold passes best (c ∷ cs) xs before known =
      let here = known c (inl refl) in
      let next = IsBest-more entry key key_of test Good best c xs (passes c) before here.keyed here.tested here.good in
      subst
      (IsBest entry key key_of test Good (fold (λ best c. cond (passes c) (better key_of best c) best) (cond (passes c) (better key_of best c) best) cs))
      (append_assoc xs (entry c ∷ []) (map entry cs))
      (IsBest-fold passes (cond (passes c) (better key_of best c) best) cs (xs ++ entry c ∷ []) next (λ d there. known d (inr there)))

  none-pass : (ys : List A) → ((y : A) → In ys y → test y ≡ false) → filter test ys ≡ []
  none-pass [] h = refl
  none-pass (y ∷ ys) h = ap₂ (λ b zs. cond b (y ∷ zs) zs) (h y (inl refl)) (none-pass ys (λ z there. h z (inr there)))

  -- entries that do not pass
  pub IsBest-failed : (best : Option C) (xs ys : List A) → IsBest entry key key_of test Good best xs
      → ((y : A) → In ys y → test y ≡ false) → IsBest entry key key_of test Good best (xs ++ ys)
  IsBest-failed best xs ys before h =
      let same : filter test (xs ++ ys) ≡ filter test xs = filter-append test xs ys
      ∙ ap (λ zs. filter test xs ++ zs) (none-pass ys h) ∙ append-nil (filter test xs) in
      record { least = before.least ∙ sym (ap (least_by key) same); keyed = before.keyed; good = before.good }
