use Rattle.std.proofs.Common.{◌≡◌, ◌∙◌, ℕ, List, ap, arith}
use Rattle.std.proofs.lemmas.Int.{ints}
use Rattle.std.specs.Prelude.{slice_index}
use Rattle.vr_model.specs.routes.Routes.{route}
use Rattle.vr_model.specs.tables.Numbers.{number_at}
use Rattle.vr_usecosts.proofs.SavingLemmas.{newcomer-saves-at-most}
use Rattle.vr_usecosts.proofs.groups.GroupCost.saved_by_newcomer.Goals as goal

pub returns-clause-at_most : goal.returns-clause-at_most
returns-clause-at_most c u one after =
    let s = c.requires.stands in
    let kept = c.args.self.now in
    let lists : List (List ℕ) = c.args.routes.now.lists in
    let x : ℕ = slice_index (route lists c.args.v) c.args.a in
    let paid = c.saved_at-paid.ensures in
    let most : c.self.inside.most ≡ kept.most = ap (λ k. k.most) c.self.view_is in
    let is : c.saved_at-paid.result ≡ number_at kept.saved x = paid.value
    ∙ ap (λ k. number_at k.saved c.node_at-node.result) c.self.view_is ∙ ap (number_at kept.saved) c.node_at-node.ensures in
    let less = newcomer-saves-at-most kept.model s.well_formed kept.saved s.saved_are lists s.valid c.args.v c.args.a u kept.most s.most_is one after in
    let few = s.most_is.range in
    omega (arith, ints, less, most, is, few.low, few.high, paid.range.low, paid.range.high)

pub returns-clause-range : goal.returns-clause-range
returns-clause-range c =
    let most : c.self.inside.most ≡ c.args.self.now.most = ap (λ k. k.most) c.self.view_is in
    let paid = c.saved_at-paid.ensures in
    let few = c.requires.stands.most_is.range in
    record {
      low = omega (arith, ints, most, few.low, few.high, paid.range.low, paid.range.high);
      high = omega (arith, ints, most, few.low, few.high, paid.range.low, paid.range.high);
    }
