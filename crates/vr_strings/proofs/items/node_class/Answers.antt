use Rattle.std.proofs.Common.{◌≡◌, ◌∙◌, ap, sym, subst, arith, cond}
use Rattle.vr_model.specs.first.Items.{node_class}
use Rattle.vr_model.specs.tables.WellFormed.{IsWellFormed}
use Rattle.vr_lists.specs.Nodes.{group_number, no_group}
use Rattle.vr_strings.proofs.KeysSoFar.{class_free, class_in}
use Rattle.vr_strings.proofs.items.node_class.Goals.{After-is_free_of_penalty}
use Rattle.vr_strings.proofs.items.node_class.Goals as goal

pub returns-then-g-len : goal.returns-then-g-len
returns-then-g-len c =
    let model = c.model-model.result.now in
    let is = c.model-model.ensures.model in
    class_free model c.args.node c.group_number-g.result
    (c.group_number-g.ensures ∙ ap (λ m. group_number m c.args.node) (sym is)) (omega (arith, c.if-g-len.true, c.len.ensures))
    ∙ ap (λ m. node_class m c.args.node) is

-- the class of a node in a group
grouped : (c : After-is_free_of_penalty) → cond c.is_free_of_penalty.result 1 2 ≡ node_class c.args.nodes.now c.args.node
grouped c =
    let model = c.model-model.result.now in
    let is = c.model-model.ensures.model in
    class_in model (subst IsWellFormed (sym is) c.model-model.ensures.well_formed) c.args.node c.group_number-g.result
    c.get.result.now c.is_free_of_penalty.result (c.group_number-g.ensures ∙ ap (λ m. group_number m c.args.node) (sym is))
    (omega (arith, c.if-g-len.false, c.len.ensures)) (c.get.ensures.value no_group) c.is_free_of_penalty.ensures
    ∙ ap (λ m. node_class m c.args.node) is

pub returns-then-is_free_of_penalty : goal.returns-then-is_free_of_penalty
returns-then-is_free_of_penalty c = sym (ap (λ b. cond b 1 2) c.if-is_free_of_penalty.true)
    ∙ grouped (goal.at.returns-then-is_free_of_penalty c).After-is_free_of_penalty

pub returns-else-is_free_of_penalty : goal.returns-else-is_free_of_penalty
returns-else-is_free_of_penalty c = sym (ap (λ b. cond b 1 2) c.if-is_free_of_penalty.false)
    ∙ grouped (goal.at.returns-else-is_free_of_penalty c).After-is_free_of_penalty
