use Rattle.std.proofs.Common.{◌∙◌, ap, sym, arith}
use Rattle.std.proofs.lemmas.Int.{ints}
use Rattle.vr_routes.specs.Pieces.{changed}
use Rattle.vr_usecosts.proofs.FixedLemmas.{fixed-over, none-fixed}
use Rattle.vr_routes.proofs.CommitLemmas.{as_many_lists}
use Rattle.vr_parts.proofs.PartLemmas.{small}
use Rattle.vr_usecosts.proofs.fixed.FixedCostInfallibleCost.added.Goals as goal

pub returns-clause-exact : goal.returns-clause-exact
returns-clause-exact c =
    let model = c.args.self.now.model in
    let lists = c.args.routes.now.lists in
    let a = c.added_by.ensures in
    let x = fixed-over model lists in
    let y = fixed-over model (changed lists c.args.change.now) in
    omega (arith, ints, a.value, a.range.low, a.range.high, x, y)

pub returns-then-not-self-clause-exact : goal.returns-then-not-self-clause-exact
returns-then-not-self-clause-exact c =
    let model = c.args.self.now.model in
    let lists = c.args.routes.now.lists in
    let later = changed lists c.args.change.now in
    let h = c.requires.stands in
    let s = small model h.well_formed lists h.valid in
    let none = sym h.pays_is ∙ (ap (λ k. k.pays) (sym c.self.view_is) ∙ c.if-not-self.true) in
    let x = none-fixed model none lists s.many in
    let y = none-fixed model none later (as_many_lists lists c.args.change.now ∙ s.many) in
    omega (arith, ints, x, y)
