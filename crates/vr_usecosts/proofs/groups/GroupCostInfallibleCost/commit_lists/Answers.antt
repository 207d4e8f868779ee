use Rattle.std.proofs.Common.{◌≡◌, ◌∙◌, ℕ, List, ap, sym, subst, arith}
use Rattle.std.proofs.lemmas.Int.{ints}
use Rattle.std.specs.Prelude.{IsTrue, ◌-ℤ◌}
use Rattle.vr_model.specs.declared.records.Model.{Model}
use Rattle.vr_model.specs.routes.Costs.{penalty_part}
use Rattle.vr_model.specs.routes.Rules.{is_valid}
use Rattle.vr_model.proofs.routes.CostBounds.{penalties-up_to}
use Rattle.vr_routes.specs.Pieces.{changed}
use Rattle.vr_usecosts.specs.Groups.{StandsGroups}
use Rattle.vr_usecosts.proofs.groups.GroupCostInfallibleCost.commit_lists.Goals as goal

pub overflow_add-self : goal.overflow_add-self
overflow_add-self c =
    let s = c.requires.stands in
    let model = c.args.self.now.model in
    let lists : List (List ℕ) = c.args.routes.now.lists in
    let now = penalties-up_to model s.well_formed lists s.valid in
    let later = penalties-up_to model s.well_formed (changed lists c.args.change.now) c.requires.valid in
    let total = ap (λ k. k.total) (c.self.view_is ∙ c.added-added.ensures.stays) in
    let is = s.total_is in
    let a = c.added-added.ensures in
    omega (arith, ints, now.at_least, now.at_most, later.at_least, later.at_most, total, is, a.exact, a.range.low, a.range.high)

pub returns-clause-stands : goal.returns-clause-stands
returns-clause-stands c =
    let same = c.self.view_is ∙ c.added-added.ensures.stays in
    let s = subst (λ k. StandsGroups k c.args.routes.now) (sym same) c.requires.stands in
    let model : Model = c.self.inside.model.now in
    let model_is : c.args.self.now.model ≡ model = ap (λ k. k.model) (sym same) in
    let lists : List (List ℕ) = c.args.routes.now.lists in
    let after : List (List ℕ) = changed lists c.args.change.now in
    let valid = subst (λ (m : Model). IsTrue (is_valid m after)) model_is c.requires.valid in
    let now = penalties-up_to model s.well_formed lists s.valid in
    let later = penalties-up_to model s.well_formed after valid in
    let is = s.total_is in
    let a = c.added-added.ensures in
    let exact = a.exact ∙ ap (λ (m : Model). penalty_part m after -ℤ penalty_part m lists) model_is in
    record {
      well_formed = s.well_formed;
      of_model = s.of_model;
      valid = valid;
      saved_are = s.saved_are;
      most_is = s.most_is;
      pays_is = s.pays_is;
      total_is = omega (arith, ints, now.at_least, now.at_most, later.at_least, later.at_most, is, exact, a.range.low, a.range.high);
    }
