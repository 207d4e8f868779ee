-- Routes that stand apart, put together from parts.
use Rattle.std.proofs.Common.{◌≡◌, ◌∙◌, ◌<◌, ◌++◌, ℕ, zero, suc, List, [], ◌∷◌, Bool, true, false, cond, not, refl, ap, ap₂, sym, arith, length, inl, inr}
use Rattle.std.specs.Prelude.{◌&&◌, ◌||◌, ◌==◌, filter, All}
use Rattle.std.specs.List.{list_all, concat}
use Rattle.std.proofs.lemmas.Bool.{eq-eqb}
use Rattle.std.proofs.lemmas.List.Elements.{All-append, All-filter}
use Rattle.std.proofs.lemmas.List.Folds.{list_all-append, list_any-append, concat-append}
use Rattle.vr_model.specs.declared.records.Model.{Model}
use Rattle.vr_model.specs.tables.Numbers.{each}
use Rattle.vr_model.specs.tables.Tables.{is_visit}
use Rattle.vr_model.specs.routes.Routes.{holds, is_distinct}
use Rattle.vr_model.specs.deciding.Testing.{and_left, and_right}
use Rattle.vr_model.proofs.tables.Tests.{clash, fails}
use Rattle.vr_model.proofs.tables.Members.{In}
use Rattle.vr_model.proofs.tables.Tests.{fails_not, or-false_left, or-false_right}
use Rattle.vr_model.proofs.routes.Lists.{is_distinct-left, is_distinct-right}
use Rattle.vr_rules.proofs.PlacingLemmas.{is_distinct-apart, is_distinct-both}
use Rattle.vr_first_savings.specs.Joins.{AreApart}
use Rattle.vr_first_savings.proofs.JoinedApart.{kept-absent, kept-distinct, kept-all, absent-in}

pub or-second : (a b : Bool) → a ≡ false → (a || b) ≡ true → b ≡ true
or-second true b e h = absurd (clash true refl e)
or-second false b e h = h

pub holds-append : (xs ys : List ℕ) (x : ℕ) → holds (xs ++ ys) x ≡ (holds xs x || holds ys x)
holds-append xs ys x = list_any-append (λ y. x == y) xs ys

-- ---- one behind the other

pub AreApart-none : (model : Model) → AreApart model []
AreApart-none model = record { some = λ k d low. absurd (omega (arith, low)); visits = refl; distinct = refl }

pub AreApart-append : (model : Model) (xs ys : List (List ℕ)) → AreApart model xs → AreApart model ys
    → ((x : ℕ) → holds (concat xs) x ≡ true → holds (concat ys) x ≡ false) → AreApart model (xs ++ ys)
AreApart-append model xs ys one other apart = record {
  some = All-append (λ route. 0 < length route) xs ys one.some other.some;
  visits = ap (list_all (is_visit model)) (concat-append xs ys)
      ∙ list_all-append (is_visit model) (concat xs) (concat ys) ∙ ap₂ (λ a b. a && b) one.visits other.visits;
  distinct = ap is_distinct (concat-append xs ys) ∙ is_distinct-both (concat xs) (concat ys) one.distinct other.distinct apart;
}

-- ---- those that pass a test

pub AreApart-filter : (model : Model) (p : List ℕ → Bool) (routes : List (List ℕ)) → AreApart model routes → AreApart model (filter p routes)
AreApart-filter model p routes are = record {
  some = All-filter p (λ route. 0 < length route) routes are.some;
  visits = kept-all (is_visit model) p routes are.visits;
  distinct = kept-distinct p routes are.distinct;
}

-- one of them left out
pub AreApart-without : (model : Model) (routes rest : List (List ℕ)) (route : List ℕ)
    → AreApart model (routes ++ route ∷ rest) → AreApart model (routes ++ rest)
AreApart-without model routes rest route are =
    let all = sym (list_all-append (is_visit model) (concat routes) (route ++ concat rest))
    ∙ ap (list_all (is_visit model)) (sym (concat-append routes (route ∷ rest))) ∙ are.visits in
    let later = sym (list_all-append (is_visit model) route (concat rest))
    ∙ and_right (list_all (is_visit model) (concat routes)) (list_all (is_visit model) (route ++ concat rest)) all in
    let whole : is_distinct (concat routes ++ (route ++ concat rest)) ≡ true = ap is_distinct (sym (concat-append routes (route ∷ rest))) ∙ are.distinct in
    record {
      some = some routes are.some;
      visits = ap (list_all (is_visit model)) (concat-append routes rest) ∙ list_all-append (is_visit model) (concat routes) (concat rest)
          ∙ ap₂ (λ a b. a && b) (and_left (list_all (is_visit model) (concat routes)) (list_all (is_visit model) (route ++ concat rest)) all)
          (and_right (list_all (is_visit model) route) (list_all (is_visit model) (concat rest)) later);
      distinct = ap is_distinct (concat-append routes rest)
          ∙ is_distinct-both (concat routes) (concat rest) (is_distinct-left (concat routes) (route ++ concat rest) whole)
          (is_distinct-right route (concat rest) (is_distinct-right (concat routes) (route ++ concat rest) whole))
          (λ x h. or-false_right (holds route x) (holds (concat rest) x)
          (sym (holds-append route (concat rest) x) ∙ is_distinct-apart (concat routes) (route ++ concat rest) whole x h));
    }
  where
    some : (rs : List (List ℕ)) → All (λ route. 0 < length route) (rs ++ route ∷ rest) → All (λ route. 0 < length route) (rs ++ rest)
    some [] h k d low = h (suc k) d (omega (arith, low))
    some (r ∷ rs) h zero d low = h 0 d (omega arith)
    some (r ∷ rs) h (suc k) d low = some rs (λ k d low. h (suc k) d (omega (arith, low))) k d (omega (arith, low))

-- ---- parts by numbers, no two of which have a node together

pub AreApart-each : (model : Model) (part : ℕ → List (List ℕ)) (ns : List ℕ) → is_distinct ns ≡ true → ((n : ℕ) → In ns n → AreApart model (part n))
    → ((n m x : ℕ) → holds (concat (part n)) x ≡ true → holds (concat (part m)) x ≡ true → n ≡ m) → AreApart model (each ns part)
AreApart-each model part [] d are own = AreApart-none model
AreApart-each model part (n ∷ ns) d are own =
    AreApart-append model (part n) (each ns part) (are n (inl refl))
    (AreApart-each model part ns (and_right (not (holds ns n)) (is_distinct ns) d) (λ m there. are m (inr there)) own)
    (λ x h. elsewhere ns x h (fails_not (holds ns n) (and_left (not (holds ns n)) (is_distinct ns) d)))
  where
    elsewhere : (ms : List ℕ) (x : ℕ) → holds (concat (part n)) x ≡ true → holds ms n ≡ false → holds (concat (each ms part)) x ≡ false
    elsewhere [] x h absent = refl
    elsewhere (m ∷ ms) x h absent =
        ap (λ ys. holds ys x) (concat-append (part m) (each ms part)) ∙ holds-append (concat (part m)) (concat (each ms part)) x
        ∙ ap₂ (λ a b. a || b)
        (fails (holds (concat (part m)) x) (λ there. clash (n == m) (eq-eqb n m (own n m x h there)) (or-false_left (n == m) (holds ms n) absent)))
        (elsewhere ms x h (or-false_right (n == m) (holds ms n) absent))

-- a node of some part is a node of one
pub one-part : {C : Type 0} (part : ℕ → List (List ℕ)) (ns : List ℕ) (x : ℕ)
    → holds (concat (each ns part)) x ≡ true → ((n : ℕ) → holds (concat (part n)) x ≡ true → C) → C
one-part {C = C} part [] x h k = absurd (clash false h refl)
one-part {C = C} part (n ∷ ns) x h k = by (holds (concat (part n)) x) refl (λ later. one-part part ns x later k)
  where
    by : (b : Bool) → holds (concat (part n)) x ≡ b → (holds (concat (each ns part)) x ≡ true → C) → C
    by true e later = k n e
    by false e later = later (or-second (holds (concat (part n)) x) (holds (concat (each ns part)) x) e
        (sym (ap (λ ys. holds ys x) (concat-append (part n) (each ns part)) ∙ holds-append (concat (part n)) (concat (each ns part)) x) ∙ h))

-- a node that is in routes of two tests: its route passes both
pub same-route : {C : Type 0} (p q : List ℕ → Bool) (routes : List (List ℕ)) → is_distinct (concat routes) ≡ true → (x : ℕ)
    → holds (concat (filter p routes)) x ≡ true → holds (concat (filter q routes)) x ≡ true → ((route : List ℕ) → p route ≡ true → q route ≡ true → C) → C
same-route {C = C} p q [] d x h g k = absurd (clash false h refl)
same-route {C = C} p q (r ∷ rs) d x h g k = by (holds r x) refl (same-route p q rs (is_distinct-right r (concat rs) d) x)
  where
    in-first : (b : Bool) (f : List (List ℕ)) → holds (concat (cond b (r ∷ f) f)) x ≡ true → holds (concat f) x ≡ false → b ≡ true
    in-first true f h absent = refl
    in-first false f h absent = absurd (clash (holds (concat f) x) h absent)

    in-rest : (b : Bool) (f : List (List ℕ)) → holds (concat (cond b (r ∷ f) f)) x ≡ true → holds r x ≡ false → holds (concat f) x ≡ true
    in-rest true f h absent = or-second (holds r x) (holds (concat f) x) absent (sym (holds-append r (concat f) x) ∙ h)
    in-rest false f h absent = h

    nowhere : (p : List ℕ → Bool) → holds r x ≡ true → holds (concat (filter p rs)) x ≡ false
    nowhere p there = kept-absent p rs x (λ i low passes. absent-in rs x i (is_distinct-apart r (concat rs) d x there))

    by : (b : Bool) → holds r x ≡ b
        → (holds (concat (filter p rs)) x ≡ true → holds (concat (filter q rs)) x ≡ true → ((route : List ℕ) → p route ≡ true → q route ≡ true → C) → C) → C
    by true e later = k r (in-first (p r) (filter p rs) h (nowhere p e)) (in-first (q r) (filter q rs) g (nowhere q e))
    by false e later = later (in-rest (p r) (filter p rs) h e) (in-rest (q r) (filter q rs) g e) k

-- the routes by numbers of which no route has two
pub AreApart-parts : (model : Model) (p : ℕ → List ℕ → Bool) (ns : List ℕ) (routes : List (List ℕ)) → is_distinct ns ≡ true → AreApart model routes
    → ((n m : ℕ) (route : List ℕ) → p n route ≡ true → p m route ≡ true → n ≡ m) → AreApart model (each ns (λ n. filter (p n) routes))
AreApart-parts model p ns routes d are own =
    AreApart-each model (λ n. filter (p n) routes) ns d (λ n there. AreApart-filter model (p n) routes are)
    (λ n m x h g. same-route (p n) (p m) routes are.distinct x h g (λ route passes passes_too. own n m route passes passes_too))
