use Rattle.std.proofs.Common.{◌∙◌, ℕ, List, ap, arith, of_z, w64}
use Rattle.std.proofs.lemmas.Int.{ints}
use Rattle.vr_model.proofs.routes.CostBounds.{penalties-up_to}
use Rattle.vr_routes.specs.Pieces.{changed}
use Rattle.vr_usecosts.proofs.groups.GroupCost.least.Goals as goal

-- no valid lists cost less than nothing
pub returns-then-self-eq0-clause-least : goal.returns-then-self-eq0-clause-least
returns-then-self-eq0-clause-least c = λ valid.
    let s = c.requires.stands in
    let model = c.args.self.now.model in
    let lists : List (List ℕ) = c.args.routes.now.lists in
    let now = penalties-up_to model s.well_formed lists s.valid in
    let later = penalties-up_to model s.well_formed (changed lists c.args.change.now) valid in
    let total = ap (λ k. k.total) c.self.view_is in
    let is = s.total_is in
    let none = c.if-self-eq0.true in
    omega (arith, ints, now.at_least, now.at_most, later.at_least, total, is, none)

pub returns-then-self-eq0-clause-some : goal.returns-then-self-eq0-clause-some
returns-then-self-eq0-clause-some c = λ some.
    let s = c.requires.stands in
    let now = penalties-up_to c.args.self.now.model s.well_formed c.args.routes.now.lists s.valid in
    let total = ap (λ k. k.total) c.self.view_is in
    let is = s.total_is in
    let none = c.if-self-eq0.true in
    absurd (some (omega (arith, ints, now.at_least, now.at_most, total, is, none)))

pub returns-clause-none : goal.returns-clause-none
returns-clause-none c = λ none. absurd (c.if-self-eq0.false (ap (of_z w64) (ap (λ k. k.total) c.self.view_is ∙ none)))
