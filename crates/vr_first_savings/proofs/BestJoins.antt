-- The best join is the least of all joins that may be made.
use Rattle.std.proofs.Common.{◌≡◌, ◌∙◌, ◌<◌, ◌≤◌, ◌+◌, ◌++◌, ℕ, zero, suc, List, [], ◌∷◌, Option, None, refl, ap, sym, subst, inl, inr, arith, length, take}
use Rattle.std.proofs.Common.{append_assoc}
use Rattle.std.specs.Prelude.{map, fold, flat_map, IfSome}
use Rattle.std.specs.Option.{option_map}
use Rattle.std.proofs.lemmas.List.{append-nil, map-append, take_more, take_all}
use Rattle.std.proofs.lemmas.Simd.{map-map}
use Rattle.std.proofs.lemmas.List.Folds.{flat_map-map}
use Rattle.vr_model.specs.declared.records.Model.{Model}
use Rattle.vr_model.specs.tables.Numbers.{below, each}
use Rattle.vr_model.specs.routes.Routes.{route}
use Rattle.vr_model.specs.first.Choosing.{least_by}
use Rattle.vr_model.specs.first.SavingsJoins.{Join, may_join, join_key, joins}
use Rattle.vr_model.proofs.tables.Tests.{clash}
use Rattle.vr_model.proofs.tables.Members.{In, from_map, of_below}
use Rattle.vr_model.proofs.tables.Ranges.{below-more}
use Rattle.vr_rules.proofs.LazyLeast.{IsBest, IsBest-none, IsBest-fold, IsKnown}
use Rattle.vr_first_savings.specs.declared.choice.JoinChoice.{JoinChoice}
use Rattle.vr_first_savings.specs.Joins.{MayBeJoined, join_of, saving_key, choice_at, best_behind, best_of_joins}
use Rattle.vr_first_savings.proofs.JoinLemmas.{not-itself}

-- the routes by their places
routes-taken : (routes : List (List ℕ)) (k : ℕ) → k ≤ length routes → map (route routes) (below k) ≡ take k routes
routes-taken routes zero h = refl
routes-taken routes (suc k) h =
    let e : suc k ≡ k + 1 = omega arith in
    ap (λ n. map (route routes) (below n)) e ∙ ap (map (route routes)) (below-more k) ∙ map-append (route routes) (below k) (k ∷ [])
    ∙ ap (λ rs. rs ++ route routes k ∷ []) (routes-taken routes k (omega (arith, h)))
    ∙ sym (take_more routes k [] (omega (arith, h))) ∙ ap (λ n. take n routes) (sym e)

routes-at : (routes : List (List ℕ)) → map (route routes) (below (length routes)) ≡ routes
routes-at routes = routes-taken routes (length routes) (omega arith) ∙ take_all (length routes) routes (omega arith)

-- the joins of a route with each
abbrev pub row : List (List ℕ) → List ℕ → List Join
row routes front = map (λ back. record { front = front; back = back }) routes

module _ (model : Model) (routes : List (List ℕ)) where
  abbrev pub IsBestJoin : Option JoinChoice → List Join → Type 0
  IsBestJoin = IsBest (join_of routes) (join_key model) saving_key (may_join model) (MayBeJoined model routes)

  abbrev Known : JoinChoice → Type 0
  Known = IsKnown (join_of routes) (join_key model) saving_key (may_join model) (MayBeJoined model routes) (λ choice. may_join model (join_of routes choice))

  known : (i j : ℕ) → i < length routes → j < length routes → Known (choice_at model routes i j)
  known i j low_i low_j = record {
    keyed = refl;
    tested = refl;
    good = λ passes. record {
      front = low_i;
      back = low_j;
      two = λ same. clash (may_join model (join_of routes (choice_at model routes i j))) passes (not-itself model routes (choice_at model routes i j) same);
      may = passes;
      saves = refl;
    };
  }

  same-row : (i : ℕ) → map (join_of routes) (map (choice_at model routes i) (below (length routes))) ≡ row routes (route routes i)
  same-row i =
      map-map (join_of routes) (choice_at model routes i) (below (length routes))
      ∙ sym (map-map (λ back. record { front = route routes i; back = back }) (route routes) (below (length routes)))
      ∙ ap (map (λ back. record { front = route routes i; back = back })) (routes-at routes)

  pub best-row : (i : ℕ) → i < length routes → (best : Option JoinChoice) (xs : List Join) → IsBestJoin best xs
      → IsBestJoin (best_behind model routes i (length routes) best) (xs ++ row routes (route routes i))
  best-row i low best xs before =
      subst (λ ys. IsBestJoin (best_behind model routes i (length routes) best) (xs ++ ys)) (same-row i)
      (IsBest-fold (join_of routes) (join_key model) saving_key (may_join model) (MayBeJoined model routes) (λ choice. may_join model (join_of routes choice))
      best (map (choice_at model routes i) (below (length routes))) xs before
      (λ choice there. from_map (choice_at model routes i) (below (length routes)) choice there
      (λ j j_in is. subst Known (sym is) (known i j low (of_below (length routes) j j_in)))))

  best-rows : (is : List ℕ) → ((i : ℕ) → In is i → i < length routes) → (best : Option JoinChoice) (xs : List Join) → IsBestJoin best xs
      → IsBestJoin (fold (λ best i. best_behind model routes i (length routes) best) best is) (xs ++ each is (λ i. row routes (route routes i)))
  best-rows [] low best xs before = subst (IsBestJoin best) (sym (append-nil xs)) before
  best-rows (i ∷ is) low best xs before =
      subst (IsBestJoin (fold (λ best i. best_behind model routes i (length routes) best) (best_behind model routes i (length routes) best) is))
      (append_assoc xs (row routes (route routes i)) (each is (λ i. row routes (route routes i))))
      (best-rows is (λ k there. low k (inr there)) (best_behind model routes i (length routes) best)
      (xs ++ row routes (route routes i)) (best-row i (low i (inl refl)) best xs before))

  all-rows : each (below (length routes)) (λ i. row routes (route routes i)) ≡ each routes (row routes)
  all-rows = sym (flat_map-map (row routes) (route routes) (below (length routes))) ∙ ap (flat_map (row routes)) (routes-at routes)

  best : IsBestJoin (best_of_joins model routes (length routes)) (each routes (row routes))
  best = subst (IsBestJoin (best_of_joins model routes (length routes))) all-rows
      (best-rows (below (length routes)) (λ i there. of_below (length routes) i there) None []
      (IsBest-none (join_of routes) (join_key model) saving_key (may_join model) (MayBeJoined model routes)))

  pub best_join-least : option_map (join_of routes) (best_of_joins model routes (length routes)) ≡ least_by (join_key model) (joins model routes)
  best_join-least = best.least

  pub best_join-may : IfSome (best_of_joins model routes (length routes)) (MayBeJoined model routes)
  best_join-may = best.good
