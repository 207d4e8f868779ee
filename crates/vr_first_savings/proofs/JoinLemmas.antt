-- Routes that stand apart, and their joins.
use Rattle.std.proofs.Common.{◌≡◌, ◌∙◌, ◌<◌, ◌+◌, ◌-◌, ◌++◌, ◌≢◌, ℕ, zero, suc, List, [], ◌∷◌, Bool, true, false, not, Option, None, refl, ap, sym, arith}
use Rattle.std.proofs.Common.{length}
use Rattle.std.specs.Prelude.{◌&&◌, ◌||◌, ◌==◌, map, fold, slice_index}
use Rattle.std.specs.List.{list_all, concat}
use Rattle.std.proofs.lemmas.Bool.{eqb-true, eq-eqb}
use Rattle.std.proofs.lemmas.List.{map-append}
use Rattle.std.proofs.lemmas.List.Sums.{fold-append}
use Rattle.std.proofs.lemmas.List.Folds.{list_all-append}
use Rattle.vr_model.specs.declared.records.Model.{Model}
use Rattle.vr_model.specs.tables.Numbers.{below}
use Rattle.vr_model.specs.tables.Tables.{is_visit}
use Rattle.vr_model.specs.routes.Routes.{route, holds, is_active, is_distinct}
use Rattle.vr_model.specs.routes.Rules.{is_route_open}
use Rattle.vr_model.specs.first.Items.{first_node}
use Rattle.vr_model.specs.first.SavingsJoins.{may_join}
use Rattle.vr_model.specs.deciding.Testing.{and_both}
use Rattle.vr_model.proofs.tables.Tests.{clash, fails}
use Rattle.vr_model.proofs.tables.Ranges.{below-more}
use Rattle.vr_model.proofs.routes.Lists.{list_all-route, is_distinct-route, is_distinct-right}
use Rattle.vr_lists.proofs.VisitLists.{visits-below}
use Rattle.vr_rules.proofs.PlacingLemmas.{inactive-route, is_distinct-apart, is_distinct-both}
use Rattle.vr_model.proofs.routes.Lists.{is_active-concat}
use Rattle.vr_first_savings.specs.declared.choice.JoinChoice.{JoinChoice}
use Rattle.vr_first_savings.specs.Joins.{AreApart, join_of, choice_at, weigh_join, best_behind, best_of_joins}

-- a node of one of the lists is active
active-route : (lists : List (List ℕ)) (v x : ℕ) → holds (route lists v) x ≡ true → is_active lists x ≡ true
active-route [] v x h = absurd (clash false h refl)
active-route (l ∷ ls) zero x h = ap (λ b. b || is_active ls x) h
active-route (l ∷ ls) (suc v) x h = or-second (holds l x) (is_active ls x) (active-route ls v x h)
  where
    or-second : (a b : Bool) → b ≡ true → (a || b) ≡ true
    or-second true b h = refl
    or-second false b h = h

-- a node stands in one route alone
pub apart-nodes : (routes : List (List ℕ)) (i j x : ℕ) → is_distinct (concat routes) ≡ true
    → i ≢ j → holds (route routes i) x ≡ true → holds (route routes j) x ≡ false
apart-nodes [] i j x d other h = absurd (clash false h refl)
apart-nodes (r ∷ rs) zero zero x d other h = absurd (other refl)
apart-nodes (r ∷ rs) zero (suc j) x d other h = inactive-route rs x j (is_active-concat rs x ∙ is_distinct-apart r (concat rs) d x h)
apart-nodes (r ∷ rs) (suc i) zero x d other h =
    fails (holds r x) (λ there. clash (holds (concat rs) x) (sym (is_active-concat rs x) ∙ active-route rs i x h) (is_distinct-apart r (concat rs) d x there))
apart-nodes (r ∷ rs) (suc i) (suc j) x d other h = apart-nodes rs i j x (is_distinct-right r (concat rs) d) (λ same. other (ap suc same)) h

-- two routes one behind the other have distinct visits
pub joined-visits : (model : Model) (routes : List (List ℕ)) (i j : ℕ)
    → AreApart model routes → list_all (is_visit model) (route routes i ++ route routes j) ≡ true
joined-visits model routes i j are =
    list_all-append (is_visit model) (route routes i) (route routes j)
    ∙ and_both (list_all (is_visit model) (route routes i)) _
    (list_all-route (is_visit model) routes i are.visits) (list_all-route (is_visit model) routes j are.visits)

pub joined-distinct : (model : Model) (routes : List (List ℕ)) (i j : ℕ) → AreApart model routes → i ≢ j → is_distinct (route routes i ++ route routes j) ≡ true
joined-distinct model routes i j are other =
    is_distinct-both (route routes i) (route routes j) (is_distinct-route routes i are.distinct)
    (is_distinct-route routes j are.distinct) (λ x h. apart-nodes routes i j x are.distinct other h)

holds-first : (list : List ℕ) → 0 < length list → holds list (slice_index list 0) ≡ true
holds-first [] h = absurd (omega (arith, h))
holds-first (x ∷ xs) h = ap (λ b. b || holds xs x) (eq-eqb x x refl)

pub some-route : (model : Model) (routes : List (List ℕ)) (i : ℕ) → AreApart model routes → i < length routes → 0 < length (route routes i)
some-route model routes i are low = are.some i [] low

-- the first nodes of two routes differ
pub firsts-differ : (model : Model) (routes : List (List ℕ)) (i j : ℕ) → AreApart model routes → i < length routes
    → j < length routes → i ≢ j → (first_node (route routes i) == first_node (route routes j)) ≡ false
firsts-differ model routes i j are low_i low_j other =
    fails (first_node (route routes i) == first_node (route routes j)) (λ same.
    clash (holds (route routes j) (first_node (route routes i)))
    (ap (holds (route routes j)) (eqb-true (first_node (route routes i)) (first_node (route routes j)) same)
    ∙ holds-first (route routes j) (some-route model routes j are low_j))
    (apart-nodes routes i j (first_node (route routes i)) are.distinct other (holds-first (route routes i) (some-route model routes i are low_i))))

-- a route is not joined with itself
pub not-itself : (model : Model) (routes : List (List ℕ)) (choice : JoinChoice) → choice.front ≡ choice.back → may_join model (join_of routes choice) ≡ false
not-itself model routes choice same =
    ap (λ b. not b && is_route_open model 0 (route routes choice.front ++ route routes choice.back))
    (eq-eqb (first_node (route routes choice.front)) (first_node (route routes choice.back)) (ap (λ k. first_node (route routes k)) same))

-- two others may be joined where the joined route is open
pub where-open : (model : Model) (routes : List (List ℕ)) (choice : JoinChoice) → AreApart model routes
    → choice.front < length routes → choice.back < length routes → choice.front ≢ choice.back
    → may_join model (join_of routes choice) ≡ is_route_open model 0 (route routes choice.front ++ route routes choice.back)
where-open model routes choice are low_front low_back other =
    ap (λ b. not b && is_route_open model 0 (route routes choice.front ++ route routes choice.back))
    (firsts-differ model routes choice.front choice.back are low_front low_back other)

-- ---- the best join

pub best_behind-more : (model : Model) (routes : List (List ℕ)) (i j : ℕ) (best : Option JoinChoice)
    → best_behind model routes i (j + 1) best ≡ weigh_join model routes (best_behind model routes i j best) (choice_at model routes i j)
best_behind-more model routes i j best =
    ap (λ ks. fold (weigh_join model routes) best (map (choice_at model routes i) ks)) (below-more j)
    ∙ ap (fold (weigh_join model routes) best) (map-append (choice_at model routes i) (below j) (j ∷ []))
    ∙ fold-append (weigh_join model routes) best (map (choice_at model routes i) (below j)) (choice_at model routes i j ∷ [])

pub best_of_joins-more : (model : Model) (routes : List (List ℕ)) (i : ℕ)
    → best_of_joins model routes (i + 1) ≡ best_behind model routes i (length routes) (best_of_joins model routes i)
best_of_joins-more model routes i =
    let step = λ (best : Option JoinChoice) (i : ℕ). best_behind model routes i (length routes) best in
    ap (fold step None) (below-more i) ∙ fold-append step None (below i) (i ∷ [])

-- the nodes at the ends of a route are nodes of the model
pub last-below : (model : Model) (routes : List (List ℕ)) (i : ℕ) → AreApart model routes
    → i < length routes → slice_index (route routes i) (length (route routes i) - 1) < model.nodes
last-below model routes i are low =
    let some = some-route model routes i are low in
    visits-below model (route routes i) (list_all-route (is_visit model) routes i are.visits) (length (route routes i) - 1) 0 (omega (arith, some))

pub first-below : (model : Model) (routes : List (List ℕ)) (i : ℕ) → AreApart model routes → i < length routes → slice_index (route routes i) 0 < model.nodes
first-below model routes i are low =
    visits-below model (route routes i) (list_all-route (is_visit model) routes i are.visits) 0 0 (some-route model routes i are low)
