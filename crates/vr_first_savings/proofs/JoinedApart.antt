-- After a join the routes still stand apart.
use Rattle.std.proofs.Common.{◌≡◌, ◌∙◌, ◌<◌, ◌++◌, ◌≢◌, ℕ, zero, suc, List, [], ◌∷◌, Bool, true, false, cond, not, refl, ap, ap₂, sym, arith, length, inl, inr}
use Rattle.std.proofs.Common.{◌⊎◌}
use Rattle.std.specs.Prelude.{◌&&◌, ◌||◌, ◌==◌, filter}
use Rattle.std.specs.List.{list_all, concat}
use Rattle.std.proofs.lemmas.Bool.{eq-eqb}
use Rattle.std.proofs.lemmas.List.{length-append}
use Rattle.std.proofs.lemmas.List.Elements.{All-filter, All-cons}
use Rattle.std.proofs.lemmas.List.Folds.{list_all-append, list_any-append}
use Rattle.vr_model.specs.declared.records.Model.{Model}
use Rattle.vr_model.specs.tables.Tables.{is_visit}
use Rattle.vr_model.specs.routes.Routes.{route, holds, is_distinct}
use Rattle.vr_model.specs.first.Items.{first_node}
use Rattle.vr_model.specs.first.SavingsJoins.{Join, after_join, joined_route, is_part_of}
use Rattle.vr_model.specs.deciding.Testing.{and_left, and_right, and_both}
use Rattle.vr_model.proofs.tables.Tests.{clash}
use Rattle.vr_model.proofs.tables.Tests.{or-false_left, or-false_right}
use Rattle.vr_model.proofs.routes.Lists.{is_distinct-left, is_distinct-right}
use Rattle.vr_rules.proofs.PlacingLemmas.{is_distinct-apart, is_distinct-both}
use Rattle.vr_first_savings.specs.declared.choice.JoinChoice.{JoinChoice}
use Rattle.vr_first_savings.specs.Joins.{AreApart, MayBeJoined, join_of}
use Rattle.vr_first_savings.proofs.JoinLemmas.{apart-nodes, joined-visits, joined-distinct, some-route}

-- a node that the routes that are kept do not have
pub kept-absent : (p : List ℕ → Bool) (rs : List (List ℕ)) (x : ℕ)
    → ((k : ℕ) → k < length rs → p (route rs k) ≡ true → holds (route rs k) x ≡ false) → holds (concat (filter p rs)) x ≡ false
kept-absent p [] x h = refl
kept-absent p (r ∷ rs) x h = by (p r) refl (kept-absent p rs x (λ k low passes. h (suc k) (omega (arith, low)) passes))
  where
    by : (b : Bool) → p r ≡ b → holds (concat (filter p rs)) x ≡ false → holds (concat (cond (p r) (r ∷ filter p rs) (filter p rs))) x ≡ false
    by true e rest =
        ap (λ b. holds (concat (cond b (r ∷ filter p rs) (filter p rs))) x) e
        ∙ list_any-append (λ y. x == y) r (concat (filter p rs)) ∙ ap₂ (λ a b. a || b) (h 0 (omega arith) e) rest
    by false e rest = ap (λ b. holds (concat (cond b (r ∷ filter p rs) (filter p rs))) x) e ∙ rest

holds-concat-false : (r : List ℕ) (rs : List (List ℕ)) (x : ℕ) → holds (r ++ concat rs) x ≡ false → holds (concat rs) x ≡ false
holds-concat-false r rs x h = or-false_right (holds r x) (holds (concat rs) x) (sym (list_any-append (λ y. x == y) r (concat rs)) ∙ h)

pub absent-in : (rs : List (List ℕ)) (x k : ℕ) → holds (concat rs) x ≡ false → holds (route rs k) x ≡ false
absent-in [] x k h = refl
absent-in (r ∷ rs) x zero h = or-false_left (holds r x) (holds (concat rs) x) (sym (list_any-append (λ y. x == y) r (concat rs)) ∙ h)
absent-in (r ∷ rs) x (suc k) h = absent-in rs x k (holds-concat-false r rs x h)

pub kept-distinct : (p : List ℕ → Bool) (rs : List (List ℕ)) → is_distinct (concat rs) ≡ true → is_distinct (concat (filter p rs)) ≡ true
kept-distinct p [] d = refl
kept-distinct p (r ∷ rs) d = by (p r) (kept-distinct p rs (is_distinct-right r (concat rs) d))
  where
    by : (b : Bool) → is_distinct (concat (filter p rs)) ≡ true → is_distinct (concat (cond b (r ∷ filter p rs) (filter p rs))) ≡ true
    by true rest = is_distinct-both r (concat (filter p rs)) (is_distinct-left r (concat rs) d) rest
        (λ x h. kept-absent p rs x (λ k low passes. absent-in rs x k (is_distinct-apart r (concat rs) d x h)))
    by false rest = rest

pub kept-all : (q : ℕ → Bool) (p : List ℕ → Bool) (rs : List (List ℕ)) → list_all q (concat rs) ≡ true → list_all q (concat (filter p rs)) ≡ true
kept-all q p [] h = refl
kept-all q p (r ∷ rs) h = by (p r) (kept-all q p rs (and_right (list_all q r) (list_all q (concat rs)) both))
  where
    both : (list_all q r && list_all q (concat rs)) ≡ true
    both = sym (list_all-append q r (concat rs)) ∙ h

    by : (b : Bool) → list_all q (concat (filter p rs)) ≡ true → list_all q (concat (cond b (r ∷ filter p rs) (filter p rs))) ≡ true
    by true rest = list_all-append q r (concat (filter p rs)) ∙ and_both (list_all q r) _ (and_left (list_all q r) (list_all q (concat rs)) both) rest
    by false rest = rest

-- a route that is kept is neither of the two
kept-other : (a b : Bool) → not (a || b) ≡ true → (a ≡ true → ⊥) × (b ≡ true → ⊥)
kept-other true b h = absurd (clash false h refl)
kept-other false true h = absurd (clash false h refl)
kept-other false false h = (λ e. clash false e refl, λ e. clash false e refl)

same-first : (x y : ℕ) → x ≡ y → (x == y) ≡ true
same-first x y e = eq-eqb x y e

pub AreApart-joined : (model : Model) (routes : List (List ℕ)) (choice : JoinChoice) → AreApart model routes
    → MayBeJoined model routes choice → AreApart model (after_join routes (join_of routes choice))
AreApart-joined model routes choice are may =
    let join : Join = join_of routes choice in
    let keep = λ (list : List ℕ). not (is_part_of join list) in
    let front : List ℕ = route routes choice.front in
    let back : List ℕ = route routes choice.back in
    record {
      some = All-cons (λ route. 0 < length route) (joined_route join) (filter keep routes)
          (let s = some-route model routes choice.front are may.front in omega (arith, length-append front back, s))
          (All-filter keep (λ route. 0 < length route) routes are.some);
      visits = list_all-append (is_visit model) (joined_route join) (concat (filter keep routes))
          ∙ and_both (list_all (is_visit model) (joined_route join)) _
          (joined-visits model routes choice.front choice.back are) (kept-all (is_visit model) keep routes are.visits);
      distinct = is_distinct-both (joined_route join) (concat (filter keep routes))
          (joined-distinct model routes choice.front choice.back are may.two) (kept-distinct keep routes are.distinct)
          (λ x h. kept-absent keep routes x (λ k low kept. nowhere x k (either front back x h)
          (λ same. (kept-other (first_node (route routes k) == first_node front) (first_node (route routes k) == first_node back) kept).0
          (same-first (first_node (route routes k)) (first_node front) (ap (λ i. first_node (route routes i)) same)))
          (λ same. (kept-other (first_node (route routes k) == first_node front) (first_node (route routes k) == first_node back) kept).1
          (same-first (first_node (route routes k)) (first_node back) (ap (λ i. first_node (route routes i)) same)))));
    }
  where
    either : (xs ys : List ℕ) (x : ℕ) → holds (xs ++ ys) x ≡ true → (holds xs x ≡ true) ⊎ (holds ys x ≡ true)
    either xs ys x h = by (holds xs x) (holds ys x) refl refl (sym (list_any-append (λ y. x == y) xs ys) ∙ h)
      where
        by : (a b : Bool) → holds xs x ≡ a → holds ys x ≡ b → (holds xs x || holds ys x) ≡ true → (holds xs x ≡ true) ⊎ (holds ys x ≡ true)
        by true b e f g = inl e
        by false true e f g = inr f
        by false false e f g = absurd (clash (holds xs x || holds ys x) g (ap₂ (λ a b. a || b) e f))

    nowhere : (x k : ℕ) → (holds (route routes choice.front) x ≡ true) ⊎ (holds (route routes choice.back) x ≡ true)
        → k ≢ choice.front → k ≢ choice.back → holds (route routes k) x ≡ false
    nowhere x k (inl h) other other_too = apart-nodes routes choice.front k x are.distinct (λ same. other (sym same)) h
    nowhere x k (inr h) other other_too = apart-nodes routes choice.back k x are.distinct (λ same. other_too (sym same)) h
