-- Inputs as they are read: their models are well formed, their routes are lists of the model, and what is asked of a
-- search may be asked.
use Rattle.std.proofs.Common.{◌≡◌, ◌∙◌, ◌≤◌, ◌<◌, ◌^◌, ℕ, true, false, ◌||◌, ◌==◌, List, [], ◌∷◌, ◌++◌, length, refl, sym, ap, subst, arith, append_assoc}
use Rattle.std.specs.Prelude.{ℤ, pos, negsuc, nat_abs, IsTrue, codes}
use Rattle.std.proofs.lemmas.Int.{ints}
use Rattle.std.specs.List.{list_all, concat}
use Rattle.std.proofs.lemmas.List.{append-nil}
use Rattle.std.proofs.lemmas.List.Folds.{concat-append, list_all-append, list_any-append}
use Rattle.vr_json.specs.Reading.{array, required}
use Rattle.vr_json.proofs.Readings.{EachEnsures, after, any_value, array_keeps, count_ensures, gives, maybe_ensures, optional_ensures, refuse_if_ensures}
use Rattle.vr_json.proofs.Readings.{required_ensures, weaker, whole_ensures}
use Rattle.vr_model.specs.deciding.Testing.{and_both, test_of_eq}
use Rattle.vr_model.specs.routes.Routes.{are_lists, holds, is_active, is_distinct}
use Rattle.vr_model.specs.tables.Tables.{is_visit}
use Rattle.vr_model.specs.tables.WellFormed.{HasLength, IsIn, IsWellFormed}
use Rattle.vr_model.specs.declared.records.Model.{Model}
use Rattle.vr_model.proofs.routes.Lists.{is_active-concat}
use Rattle.vr_read.specs.Models.{read_model}
use Rattle.vr_read.proofs.Distinct.{is_distinct_push}
use Rattle.vr_read.proofs.WellFormedModels.{well_formed_from_read}
use Rattle.vr_read.proofs.WellFormedVehicles.{visit_ensures}
use Rattle.vr_given.specs.Givens.{given_at, given_routes, natural, route_visit, route_visits, wish}
use Rattle.vr_given.specs.GivenLaws.{IsGiven, IsWish}

concat-push : (routes : List (List ℕ)) (nodes : List ℕ) → concat (routes ++ nodes ∷ []) ≡ concat routes ++ nodes
concat-push routes nodes = concat-append routes (nodes ∷ []) ∙ ap (λ xs. concat routes ++ xs) (append-nil nodes)

module _ (model : Model) where
  -- distinct visits of the model
  record AreVisitsOnce (nodes : List ℕ) : Type 0 where
    each_is_visit : IsTrue (list_all (is_visit model) nodes)
    no_node_twice : IsTrue (is_distinct nodes)

  no_visits : AreVisitsOnce []
  no_visits = record { each_is_visit = refl; no_node_twice = refl }

  -- one visit more of a route, which is in no earlier route and not earlier in this one
  visit_more : (routes : List (List ℕ)) (so_far : List ℕ) (node : ℕ) → AreVisitsOnce (concat routes ++ so_far) → IsTrue (is_visit model node)
      → (is_active routes node || holds so_far node) ≡ false → AreVisitsOnce (concat routes ++ (so_far ++ node ∷ []))
  visit_more routes so_far node h visit fresh =
      let before : List ℕ = concat routes in
      let absent : holds (before ++ so_far) node ≡ false =
      list_any-append (λ y. node == y) before so_far ∙ ap (λ b. b || holds so_far node) (sym (is_active-concat routes node)) ∙ fresh in
      subst AreVisitsOnce (append_assoc before so_far (node ∷ [])) (record {
        each_is_visit = list_all-append (is_visit model) (before ++ so_far) (node ∷ [])
            ∙ and_both (list_all (is_visit model) (before ++ so_far)) _ h.each_is_visit (and_both (is_visit model node) true visit refl);
        no_node_twice = is_distinct_push (before ++ so_far) node h.no_node_twice absent;
      })

  route_ensures : (routes : List (List ℕ)) → AreVisitsOnce (concat routes)
      → EachEnsures (λ nodes. AreVisitsOnce (concat routes ++ nodes)) (route_visits model.nodes model.vehicles routes)
  unfolding route_visit
  route_ensures routes h path d =
      weaker (λ nodes both. both.1)
      (array_keeps (λ nodes. AreVisitsOnce (concat routes ++ nodes)) (route_visit model.nodes model.vehicles routes) (λ so_far so_far_ok path d.
      after (visit_ensures model path d) λ node node_ok.
      after (refuse_if_ensures (is_active routes node || holds so_far node) _ _) λ fresh apart.
      gives (visit_more routes so_far node so_far_ok node_ok apart))
      0 1000 (subst AreVisitsOnce (sym (append-nil (concat routes))) h) path d)

  routes_ensure : (fleet : ℕ)
      → EachEnsures (λ routes. HasLength fleet fleet routes × AreVisitsOnce (concat routes)) (array fleet fleet (route_visits model.nodes model.vehicles))
  routes_ensure fleet = array_keeps (λ routes. AreVisitsOnce (concat routes)) (route_visits model.nodes model.vehicles)
      (λ routes routes_ok path d. weaker (λ nodes ok. subst AreVisitsOnce (sym (concat-push routes nodes)) ok) (route_ensures routes routes_ok path d))
      fleet fleet no_visits

  given_routes_ensure : EachEnsures (λ lists. IsTrue (are_lists model lists)) (given_routes model)
  given_routes_ensure path d = weaker (λ lists both.
      and_both (length lists == length model.vehicles) _ (test_of_eq _ _ (omega (arith, both.0.at_least, both.0.at_most)))
      (and_both (list_all (is_visit model) (concat lists)) _ both.1.each_is_visit both.1.no_node_twice)) (routes_ensure (length model.vehicles) path d)

-- the model in a field is well formed
pub model_field_ensures : EachEnsures IsWellFormed (required (codes "model") read_model)
model_field_ensures =
    let read : EachEnsures IsWellFormed read_model = λ path d. record { of_value = λ model is. well_formed_from_read path d model is } in
    required_ensures (codes "model") read

-- a whole number from 0 is at most the greatest
as_natural : (most : ℕ) (z : ℤ) → IsIn (pos 0) (pos most) z → nat_abs z ≤ most
as_natural most (pos n) h = omega (arith, ints, h.at_most)
as_natural most (negsuc n) h = absurd (omega (arith, ints, h.at_least))

natural_ensures : (most : ℕ) → EachEnsures (λ n. n ≤ most) (natural (pos most))
unfolding natural
natural_ensures most path d = after (whole_ensures (pos 0) (pos most) path d) λ z h. gives (as_natural most z h)

seed_ensures : EachEnsures (λ n. n < 2 ^ 63) (natural (pos 9223372036854775807))
seed_ensures path d = weaker (λ n h. omega (arith, h)) (natural_ensures 9223372036854775807 path d)

heat_ensures : EachEnsures (λ n. n ≤ 2 ^ 40) (natural (pos 1099511627776))
heat_ensures path d = weaker (λ n h. omega (arith, h)) (natural_ensures 1099511627776 path d)

wish_ensures : EachEnsures IsWish wish
unfolding wish
wish_ensures path d =
    after (optional_ensures (codes "seed") 0 (omega arith) seed_ensures path d) λ seed seed_ok.
    after (optional_ensures (codes "removed") 10 (omega arith, omega arith) (count_ensures 1 100) path d) λ removed removed_ok.
    after (optional_ensures (codes "string") 10 (omega arith, omega arith) (count_ensures 1 100) path d) λ longest longest_ok.
    after (maybe_ensures (codes "heat") heat_ensures path d) λ heat heat_ok.
    after any_value λ others _.
    gives (record { seed = seed_ok; removed = removed_ok; string = longest_ok; heat = heat_ok })

pub given_ensures : EachEnsures IsGiven given_at
unfolding given_at
given_ensures path d =
    after (model_field_ensures path d) λ model well.
    after (maybe_ensures (codes "routes") (given_routes_ensure model) path d) λ routes are.
    after (maybe_ensures (codes "refine") wish_ensures path d) λ wished wished_ok.
    after any_value λ others _.
    gives (record { well_formed = well; are_routes = are; is_wish = wished_ok })
