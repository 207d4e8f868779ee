-- Each generated model is read, and has a first solution.
use Rattle.std.proofs.Common.{◌≡◌, ◌∙◌, ℕ, zero, suc, ◌+◌, ◌<◌, ◌≤◌, ◌||◌, true, false, cond, List, length, Some, None, refl, ap, arith, eq-eqb}
use Rattle.std.specs.Prelude.{IsTrue, nat_lt}
use Rattle.std.specs.List.{All}
use Rattle.std.proofs.lemmas.Nat.{mod_below}
use Rattle.std.proofs.lemmas.List.Elements.{All-nil, All-cons}
use Rattle.std.proofs.lemmas.List.Folds.{list_all-map}
use Rattle.rand_pcg.specs.Lcg.{Lcg}
use Rattle.vr_json.proofs.Lists.{list_any-map}
use Rattle.vr_model.specs.tables.Numbers.{below}
use Rattle.vr_model.specs.tables.Tables.{is_visit}
use Rattle.vr_model.specs.deciding.Testing.{and_left, range_list_any}
use Rattle.vr_model.specs.routes.Routes.{holds}
use Rattle.vr_model.specs.routes.Rules.{is_grouped, is_valid}
use Rattle.vr_model.specs.first.Items.{is_penalty_given}
use Rattle.vr_model.specs.first.CheapestInsertion.{parallel_cheapest_insertion}
use Rattle.vr_model.specs.first.FirstSolutions.{build, build_by, first_lists}
use Rattle.vr_model.specs.declared.records.Model.{Model}
use Rattle.vr_model.specs.declared.records.First.TheVariants.{ParallelCheapestInsertion}
use Rattle.vr_model.proofs.tables.Tests.{clash, list_all-true, lt_of_test}
use Rattle.vr_read.specs.Models.{read_model}
use Rattle.vr_read.proofs.WellFormedModels.{well_formed_from_read}
use Rattle.vr_gen.specs.declared.draws.Site.{Site}
use Rattle.vr_gen.specs.declared.draws.Customer.{Customer}
use Rattle.vr_gen.specs.Draws.{words_of, site, customer, repeated, drawn_sites, customers}
use Rattle.vr_gen.specs.Generated.{generated, model_of}
use Rattle.vr_gen.specs.Solved.{IsSolved}
use Rattle.vr_gen.proofs.Repeating.{length_repeated}
use Rattle.vr_gen.proofs.TablesRead.{IsNear, IsModest, group_read}
use Rattle.vr_gen.proofs.ModelRead.{model_read, model_reads}
use Rattle.vr_gen.proofs.Insertion.{MayStayIdle, insertion_valid}

-- ---- what is drawn

near_site : (words : Lcg) → IsNear (site words).0
near_site words = record { x_low = mod_below _ 1000 (omega arith); y_low = mod_below _ 1000 (omega arith) }

modest_customer : (words : Lcg) → IsModest (customer words).0
modest_customer words = record { early = mod_below _ 8000 (omega arith); few = one_more _ (mod_below _ 9 (omega arith)) }
  where
    one_more : (n : ℕ) → n < 9 → 1 + n ≤ 9
    one_more n h = omega (arith, h)

-- what holds of each thing drawn holds of all
each_drawn : {A : Type 0} (P : A → Type 0) (next : Lcg → A × Lcg) → ((words : Lcg) → P (next words).0) → (n : ℕ) (words : Lcg) → All P (repeated next n words).0
each_drawn P next h zero words = All-nil P
each_drawn P next h (suc n) words = All-cons P (next words).0 (repeated next n (next words).1).0 (h words) (each_drawn P next h n (next words).1)

-- ---- the model

module _ (sites : List Site) (customers : List Customer) where
  grouped : (node : ℕ) → IsTrue (is_visit (model_read sites customers) node) → IsTrue (is_grouped (model_read sites customers) node)
  grouped zero visit = absurd (clash false visit refl)
  grouped (suc k) visit =
      let low : suc k < 61 = lt_of_test (suc k) 61 (and_left (nat_lt (suc k) 61) _ visit) in
      list_any-map group_read (λ group. holds group.nodes (suc k)) (below 60)
      ∙ range_list_any (λ i. holds (group_read i).nodes (suc k)) 0 60 k (omega arith)
      (omega (arith, low)) (ap (λ b. b || false) (eq-eqb (suc k) (k + 1) (omega arith)))

  idle : MayStayIdle (model_read sites customers)
  idle = record {
    each_grouped = grouped;
    each_penalty = list_all-map (λ group. is_penalty_given group.penalty) group_read (below 60)
        ∙ list_all-true (λ k. is_penalty_given (group_read k).penalty) (λ k. refl) (below 60);
  }

-- the first solution is the construction's, where that is valid
first_by_insertion : (model : Model) → model.search.first ≡ ParallelCheapestInsertion
    → is_valid model (parallel_cheapest_insertion model) ≡ true → first_lists model ≡ Some (parallel_cheapest_insertion model)
unfolding first_lists build
first_by_insertion model named valid =
    ap (λ first. cond (is_valid model (build_by first model)) (Some (build_by first model)) None) named
    ∙ ap (λ b. cond b (Some (parallel_cheapest_insertion model)) None) valid

-- where reading gives this model, it is solved
solved : (sites : List Site) (customers : List Customer) (path : List ℕ) → length sites ≡ 61 → length customers ≡ 60
    → All IsNear sites → All IsModest customers → IsSolved (read_model path (model_of sites customers))
solved sites customers path sites_all customers_all near modest =
    let model = model_read sites customers in
    let is = model_reads sites customers path sites_all customers_all near modest in
    record {
      model = model;
      is_read = is;
      lists = parallel_cheapest_insertion model;
      are_first =
          first_by_insertion model refl (insertion_valid model (well_formed_from_read path (model_of sites customers) model is) refl (idle sites customers));
    }

pub generated_models_are_solved : (number : ℕ) (path : List ℕ) → IsSolved (read_model path (generated number))
unfolding generated
generated_models_are_solved number path =
    solved (drawn_sites number).0 (customers number) path
    (length_repeated site 61 (words_of number)) (length_repeated customer 60 (drawn_sites number).1)
    (each_drawn IsNear site near_site 61 (words_of number))
    (each_drawn IsModest customer modest_customer 60 (drawn_sites number).1)
