use Rattle.std.proofs.Common.{◌≡◌, ◌∙◌, ap, sym, subst, arith}
use Rattle.std.proofs.lemmas.Int.{ints}
use Rattle.std.specs.Prelude.{pos}
use Rattle.vr_model.specs.declared.records.Group.{Group}
use Rattle.vr_model.specs.tables.Limits.{greatest_cost}
use Rattle.vr_model.specs.tables.WellFormed.{IsGroup, IsIn, IsWellFormed}
use Rattle.vr_lists.specs.Nodes.{group_number}
use Rattle.vr_ruin.specs.Offers.{penalty_at}
use Rattle.vr_ruin.proofs.TurnLemmas.{penalty_is, penalty_none, penalty_range}
use Rattle.vr_ruin.proofs.turning.penalty_at.Goals.{After-unwrap_or}
use Rattle.vr_ruin.proofs.turning.penalty_at.Goals as goal

pub returns-then-g-len-clause-value : goal.returns-then-g-len-clause-value
returns-then-g-len-clause-value c =
    penalty_none c.model-model.result.now c.args.node c.group_number-g.result
    (c.group_number-g.ensures ∙ ap (λ m. group_number m c.args.node) (sym c.model-model.ensures.model)) (omega (arith, c.if-g-len.true, c.len.ensures))
    ∙ ap (λ m. penalty_at m c.args.node) c.model-model.ensures.model

-- the penalty of the group, or 0
range : (c : After-unwrap_or) → IsIn (pos 0) greatest_cost c.unwrap_or.result
range c =
    let group : Group = c.get.result.now in
    let model = c.model-model.result.now in
    let well = subst IsWellFormed (sym c.model-model.ensures.model) c.model-model.ensures.well_formed in
    let is : IsGroup model group = subst (IsGroup model) (c.get.ensures.value group)
    (well.each_group c.group_number-g.result group (omega (arith, c.if-g-len.false, c.len.ensures))) in
    subst (IsIn (pos 0) greatest_cost) (sym c.unwrap_or.ensures) (penalty_range model group is)

pub returns-clause-value : goal.returns-clause-value
returns-clause-value c =
    let at = (goal.at.returns-clause-value c).After-unwrap_or in
    let group : Group = c.get.result.now in
    let model = c.model-model.result.now in
    let here = range at in
    let value : c.unwrap_or.result ≡ penalty_at c.args.nodes.now c.args.node =
    c.unwrap_or.ensures ∙ penalty_is model c.args.node c.group_number-g.result group
    (c.group_number-g.ensures ∙ ap (λ m. group_number m c.args.node) (sym c.model-model.ensures.model)) c.get.ensures.some
    ∙ ap (λ m. penalty_at m c.args.node) c.model-model.ensures.model in
    omega (arith, ints, value, here.at_least, here.at_most)

pub returns-clause-low : goal.returns-clause-low
returns-clause-low c = let here = range (goal.at.returns-clause-low c).After-unwrap_or in omega (arith, ints, here.at_least, here.at_most)

pub returns-clause-high : goal.returns-clause-high
returns-clause-high c = let here = range (goal.at.returns-clause-high c).After-unwrap_or in omega (arith, ints, here.at_least, here.at_most)
