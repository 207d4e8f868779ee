-- What parts of the cost add, added up: each sum fits 64 bits, and the whole is what the cost adds.
use Rattle.std.proofs.Common.{◌≡◌, ◌∙◌, ◌+ℤ◌, ℕ, List, ℤ, pos, refl, ap, subst, to_z, of_z, w64, arith}
use Rattle.std.specs.Prelude.{◌-ℤ◌, ◌≤ℤ◌, IsTrue}
use Rattle.std.proofs.lemmas.Int.{ints}
use Rattle.vr_model.specs.routes.Costs.{arcs_part, assigned, cost, fixed_part, global_part, penalty_part, soft_part, span_part}
use Rattle.vr_model.specs.declared.records.Model.{Model}
use Rattle.vr_model.specs.routes.Rules.{is_valid}
use Rattle.vr_costfilter.specs.GlobalCosts.{global_cost_of}
use Rattle.vr_parts.specs.Parts.{CostAlike}
use Rattle.vr_costfilter.specs.PlanCosts.{soft_and_span}
use Rattle.vr_judge.specs.Costs.{AreChangesInRange, PaysArcsAndGroups}

-- a number as code reads it
abbrev pub read : ℤ → ℤ
read x = to_z w64 (of_z w64 x)

-- each, and the sum of the first two, three, four and five, is read as it is
pub record AreRead (arcs fixed groups plans spans : ℤ) : Type 0 where
  pub arcs_are : read arcs ≡ arcs
  pub fixed_are : read fixed ≡ fixed
  pub groups_are : read groups ≡ groups
  pub plans_are : read plans ≡ plans
  pub spans_are : read spans ≡ spans
  pub two : read (arcs +ℤ fixed) ≡ arcs +ℤ fixed
  pub three : read (arcs +ℤ fixed +ℤ groups) ≡ arcs +ℤ fixed +ℤ groups
  pub four : read (arcs +ℤ fixed +ℤ groups +ℤ plans) ≡ arcs +ℤ fixed +ℤ groups +ℤ plans
  pub five : read (arcs +ℤ fixed +ℤ groups +ℤ plans +ℤ spans) ≡ arcs +ℤ fixed +ℤ groups +ℤ plans +ℤ spans

module _ (arcs fixed groups plans spans : ℤ) (h : AreChangesInRange arcs fixed groups plans spans) where
  pub are_read : AreRead arcs fixed groups plans spans
  are_read =
      let a = h.arcs_are in
      let f = h.fixed_are in
      let g = h.groups_are in
      let p = h.plans_are in
      let s = h.spans_are in
      record {
        arcs_are = omega (arith, ints, a.low, a.high);
        fixed_are = omega (arith, ints, f.low, f.high);
        groups_are = omega (arith, ints, g.low, g.high);
        plans_are = omega (arith, ints, p.low, p.high);
        spans_are = omega (arith, ints, s.low, s.high);
        two = omega (arith, ints, a.low, a.high, f.low, f.high);
        three = omega (arith, ints, a.low, a.high, f.low, f.high, g.low, g.high);
        four = omega (arith, ints, a.low, a.high, f.low, f.high, g.low, g.high, p.low, p.high);
        five = omega (arith, ints, a.low, a.high, f.low, f.high, g.low, g.high, p.low, p.high, s.low, s.high);
      }

  -- so all of them may be added up as they are read
  pub read_bounded : AreChangesInRange (read arcs) (read fixed) (read groups) (read plans) (read spans)
  read_bounded = let r = are_read in rw (r.arcs_are, r.fixed_are, r.groups_are, r.plans_are, r.spans_are) h

  pub read_sum : (sum : ℤ) → sum ≡ read arcs +ℤ read fixed +ℤ read groups +ℤ read plans +ℤ read spans → read sum ≡ arcs +ℤ fixed +ℤ groups +ℤ plans +ℤ spans
  read_sum sum is =
      let r = are_read in
      let exact : sum ≡ arcs +ℤ fixed +ℤ groups +ℤ plans +ℤ spans = is ∙ rw (r.arcs_are, r.fixed_are, r.groups_are, r.plans_are, r.spans_are) refl in
      ap read exact ∙ r.five

-- the cost is the sum of what the parts keep
pub cost_of_parts : (model : Model) (lists : List (List ℕ)) → cost model lists
    ≡ arcs_part model lists +ℤ fixed_part model lists +ℤ penalty_part model lists +ℤ soft_and_span model lists +ℤ global_cost_of model lists
unfolding cost
cost_of_parts model lists =
    let plan = assigned model lists in
    let sum : cost model lists ≡ arcs_part model lists
    +ℤ (fixed_part model lists +ℤ (global_part model plan +ℤ (penalty_part model lists +ℤ (soft_part model plan +ℤ (span_part model plan +ℤ pos 0))))) =
    refl in
    omega (arith, ints, sum)

-- what cost terms add to lists that become others
module _ (model : Model) (lists later : List (List ℕ)) {arcs fixed groups plans spans : ℤ} where
  -- their sum is what the cost gets more
  pub adds_whole : arcs ≡ arcs_part model later -ℤ arcs_part model lists → fixed ≡ fixed_part model later -ℤ fixed_part model lists
      → groups ≡ penalty_part model later -ℤ penalty_part model lists → plans ≡ soft_and_span model later -ℤ soft_and_span model lists
      → spans ≡ global_cost_of model later -ℤ global_cost_of model lists
      → arcs +ℤ fixed +ℤ groups +ℤ plans +ℤ spans ≡ cost model later -ℤ cost model lists
  adds_whole of_arcs of_fixed of_groups of_plans of_spans =
      let before = cost_of_parts model lists in
      let behind = cost_of_parts model later in
      omega (arith, ints, of_arcs, of_fixed, of_groups, of_plans, of_spans, before, behind)

  -- where three of them add no less than is known, neither does the cost
  pub adds_least : arcs ≡ arcs_part model later -ℤ arcs_part model lists → fixed ≡ fixed_part model later -ℤ fixed_part model lists
      → groups ≤ℤ (penalty_part model later -ℤ penalty_part model lists) → plans ≤ℤ (soft_and_span model later -ℤ soft_and_span model lists)
      → spans ≤ℤ (global_cost_of model later -ℤ global_cost_of model lists)
      → (arcs +ℤ fixed +ℤ groups +ℤ plans +ℤ spans) ≤ℤ (cost model later -ℤ cost model lists)
  adds_least of_arcs of_fixed of_groups of_plans of_spans =
      let before = cost_of_parts model lists in
      let behind = cost_of_parts model later in
      omega (arith, ints, of_arcs, of_fixed, of_groups, of_plans, of_spans, before, behind)

-- what a cost term of a model adds, and what it adds at least, is so of the same model by another name
module _ (value : Model → List (List ℕ) → ℤ) {of model : Model} (lists later : List (List ℕ)) {added : ℤ} (same : of ≡ model) where
  pub adds_as : added ≡ value of later -ℤ value of lists → added ≡ value model later -ℤ value model lists
  adds_as exact = exact ∙ ap (λ m. value m later -ℤ value m lists) same

  pub adds_least_as : (IsTrue (is_valid of later) → added ≤ℤ (value of later -ℤ value of lists))
      → IsTrue (is_valid model later) → added ≤ℤ (value model later -ℤ value model lists)
  adds_least_as = subst (λ m. IsTrue (is_valid m later) → added ≤ℤ (value m later -ℤ value m lists)) same

-- where no other part tells two lists apart, they differ in cost by their arcs and the penalties of their groups
pub arcs-and-groups : (model : Model) → CostAlike fixed_part model → CostAlike soft_and_span model → CostAlike global_cost_of model → PaysArcsAndGroups model
arcs-and-groups model fixed plans spans lists later valid valid_later =
    let f = fixed lists later valid valid_later in
    let p = plans lists later valid valid_later in
    let s = spans lists later valid valid_later in
    let before = cost_of_parts model lists in
    let after = cost_of_parts model later in
    omega (arith, ints, f, p, s, before, after)
