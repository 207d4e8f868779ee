use Rattle.std.proofs.Common.{ℕ, List, ap, sym, subst, ◌∙◌, arith}
use Rattle.std.proofs.lemmas.Int.{ints}
use Rattle.vr_routes.specs.Pieces.{changed}
use Rattle.vr_usecosts.specs.Groups.{StandsGroups, saved_in}
use Rattle.vr_usecosts.proofs.GroupLemmas.{are-few, penalties-stay, penalties-change}
use Rattle.vr_parts.proofs.PartLemmas.{once-valid, once-after}
use Rattle.vr_usecosts.proofs.groups.GroupCostInfallibleCost.added.Goals as goal

pub returns-then-not-self-clause-exact : goal.returns-then-not-self-clause-exact
returns-then-not-self-clause-exact c =
    let s = c.requires.stands in
    penalties-stay c.args.self.now.model s.well_formed c.args.routes.now.lists (changed c.args.routes.now.lists c.args.change.now)
    (sym s.pays_is ∙ (ap (λ k. k.pays) (sym c.self.view_is) ∙ c.if-not-self.true))

pub saved_in-gone-requires-clause-few : goal.saved_in-gone-requires-clause-few
saved_in-gone-requires-clause-few c =
    let s = subst (λ k. StandsGroups k c.args.routes.now) (sym c.self.view_is) c.requires.stands in
    are-few c.self.inside.model.now s.well_formed c.self.inside.saved s.saved_are

pub saved_in-come-requires-clause-few : goal.saved_in-come-requires-clause-few
saved_in-come-requires-clause-few c =
    let s = subst (λ k. StandsGroups k c.args.routes.now) (sym c.self.view_is) c.requires.stands in
    are-few c.self.inside.model.now s.well_formed c.self.inside.saved s.saved_are

pub returns-clause-exact : goal.returns-clause-exact
returns-clause-exact c =
    let s = c.requires.stands in
    let lists : List (List ℕ) = c.args.routes.now.lists in
    let saved = c.args.self.now.saved in
    let change = penalties-change c.args.self.now.model s.well_formed saved s.saved_are lists
    (changed lists c.args.change.now) c.write.new.self (once-valid c.args.self.now.model lists s.valid)
    (once-after c.args.self.now.model c.args.routes.now s.of_model s.valid c.args.change.now c.requires.made) c.write.ensures in
    let same = ap (λ k. k.saved) c.self.view_is in
    let g = c.saved_in-gone.ensures in
    let h = c.saved_in-come.ensures in
    let gone = ap (saved_in c.self.inside.saved lists) c.gone.ensures.value ∙ ap (λ l. saved_in l lists c.write.new.self.gone) same in
    let come = ap (saved_in c.self.inside.saved lists) c.come.ensures.value ∙ ap (λ l. saved_in l lists c.write.new.self.come) same in
    omega (arith, ints, change, gone, come, g.value, h.value, g.range.low, g.range.high, h.range.low, h.range.high)
