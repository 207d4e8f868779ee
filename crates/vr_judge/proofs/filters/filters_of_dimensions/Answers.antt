use Rattle.std.proofs.Common.{◌≡◌, ◌∙◌, ◌<◌, ◌≤◌, ◌+◌, ℕ, List, ◌++◌, ◌∷◌, [], length, take, sym, ap, subst, arith, add-one}
use Rattle.std.proofs.lemmas.List.{take_all}
use Rattle.std.proofs.Math.Seq.{take-suc}
use Rattle.std.specs.Prelude.{IsTrue, sum_by, slice_index_or}
use Rattle.std.specs.List.{list_all}
use Rattle.vr_model.specs.schedules.Weights.{weight}
use Rattle.vr_model.specs.declared.records.Model.{Model}
use Rattle.vr_reach.specs.Lists.{is_feasible_list}
use Rattle.vr_pathfilters.specs.Known.{StandsAt}
use Rattle.vr_pathfilters.specs.Lists.{holds_of_each}
use Rattle.vr_pathfilters.specs.declared.dimensions.DimensionFilter.{DimensionFilter}
use Rattle.vr_judge.specs.Ranks.{by_rank}
use Rattle.vr_judge.specs.Rules.{are_feasible}
use Rattle.vr_judge.proofs.DimensionLemmas.{AreOf, one_more, at_rank, dimension_at_rank, rules_by_rank, weights_by_rank}
use Rattle.vr_judge.proofs.filters.filters_of_dimensions.Goals as goal

-- the dimension at a place of the order of ranks is one of the model, and what holds of all holds of it
dimension_of_rank : (model : Model) {order : List ℕ} {k d : ℕ} → order ≡ by_rank model
    → d ≡ slice_index_or order k d → k < length order → d < length model.dimensions
dimension_of_rank model {order} {k} {d} ranked is low =
    subst (λ n. n < length model.dimensions) (sym (is ∙ ap (λ l. slice_index_or l k d) ranked))
    (dimension_at_rank model k d (subst (λ l. k < length l) ranked low))

rule_of_rank : (model : Model) (lists : List (List ℕ)) {order : List ℕ} {k d : ℕ} → order ≡ by_rank model → d ≡ slice_index_or order k d
    → k < length order → IsTrue (are_feasible model lists) → IsTrue (holds_of_each (is_feasible_list model d) lists)
rule_of_rank model lists {order} {k} {d} ranked is low feasible =
    subst (λ e. IsTrue (holds_of_each (is_feasible_list model e) lists)) (sym (is ∙ ap (λ l. slice_index_or l k d) ranked))
    (at_rank model (λ e. holds_of_each (is_feasible_list model e) lists) feasible k d (subst (λ l. k < length l) ranked low))

pub over-requires-clause-dimension : goal.over-requires-clause-dimension
over-requires-clause-dimension c =
    dimension_of_rank c.args.lookups.now.closed.model.now c.in_ok-order.ensures c.index.ensures (omega (arith, c.loop-k-test.true))

pub over-requires-clause-routes : goal.over-requires-clause-routes
over-requires-clause-routes c = record {
  visits_are = c.requires.of_model;
  list_of_each = c.requires.many;
  rule_holds = rule_of_rank c.args.lookups.now.closed.model.now c.args.routes.now.lists
      c.in_ok-order.ensures c.index.ensures (omega (arith, c.loop-k-test.true)) c.requires.feasible;
}

pub loop-k-preserved : goal.loop-k-preserved
loop-k-preserved c =
    let model : Model = c.args.lookups.now.closed.model.now in
    let order = c.in_ok-order.order.items in
    let k = c.loop-k.k in
    let holds : DimensionFilter → List (List ℕ) → _ = λ f lists. holds_of_each (is_feasible_list f.lookups.closed.model.now f.d) lists in
    let weighs : DimensionFilter → List (List ℕ) → List (List ℕ) → ℕ = λ f before later. weight f.lookups.closed.model.now f.d before later in
    let stands : DimensionFilter → Type 0 = λ f. StandsAt f.lookups.closed.model.now f.d f.loads f.known.items c.args.routes.now in
    let Of : List ℕ → List DimensionFilter → Type 0 = λ ds filters. AreOf holds weighs stands
    (λ d lists. holds_of_each (is_feasible_list model d) lists) (λ d before later. weight model d before later) ds filters in
    let low : k < length order = (let l = c.loop-k-test.true in omega (arith, l)) in
    let next : take k order ++ c.index.result.now ∷ [] ≡ take (k + 1) order =
    ap (λ d. take k order ++ d ∷ []) c.index.ensures ∙ (sym (take-suc order k c.index.result.now low) ∙ ap (λ n. take n order) (sym (add-one k))) in
    subst (λ ds. Of ds c.push.new.self.items) next
    (subst (λ filters. Of (take k order ++ c.index.result.now ∷ []) filters) (sym c.in_ok-push.ensures.items)
    (one_more holds weighs stands (λ d lists. holds_of_each (is_feasible_list model d) lists) (λ d before later. weight model d before later)
    (take k order) c.index.result.now c.loop-k.filters.items c.in_ok-over.field-0 c.loop-k.invariant
    (λ lists. ap (λ h. h lists) c.in_ok-over.ensures.holds) (λ before later. ap (λ w. w before later) c.in_ok-over.ensures.weight) c.in_ok-over.ensures.stands))

pub returns-clause-holds : goal.returns-clause-holds
returns-clause-holds c = λ lists.
    let model : Model = c.args.lookups.now.closed.model.now in
    let order : c.in_ok-order.order.items ≡ by_rank model = c.in_ok-order.ensures in
    let high : length c.in_ok-order.order.items ≤ c.loop-k.k = (let l = c.loop-k-test.false in omega (arith, l)) in
    let all : take c.loop-k.k c.in_ok-order.order.items ≡ by_rank model = take_all c.loop-k.k c.in_ok-order.order.items high ∙ order in
    c.loop-k.invariant.rules lists
    ∙ (ap (list_all (λ d. holds_of_each (is_feasible_list model d) lists)) all ∙ rules_by_rank model (λ d. holds_of_each (is_feasible_list model d) lists))

pub returns-clause-weight : goal.returns-clause-weight
returns-clause-weight c = λ before later.
    let model : Model = c.args.lookups.now.closed.model.now in
    let order : c.in_ok-order.order.items ≡ by_rank model = c.in_ok-order.ensures in
    let high : length c.in_ok-order.order.items ≤ c.loop-k.k = (let l = c.loop-k-test.false in omega (arith, l)) in
    let all : take c.loop-k.k c.in_ok-order.order.items ≡ by_rank model = take_all c.loop-k.k c.in_ok-order.order.items high ∙ order in
    c.loop-k.invariant.weights before later ∙ (ap (sum_by (λ d. weight model d before later)) all ∙ weights_by_rank model (λ d. weight model d before later))
