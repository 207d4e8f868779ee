use Rattle.std.proofs.Common.{◌≡◌, ◌∙◌, ap, sym, subst, arith}
use Rattle.std.proofs.lemmas.Int.{ints}
use Rattle.vr_model.specs.tables.Numbers.{number_at}
use Rattle.vr_usecosts.specs.Groups.{AreFew, KeptGroups}
use Rattle.vr_usecosts.proofs.GroupLemmas.{are-few}
use Rattle.vr_usecosts.proofs.SavingLemmas.{visit-saves}
use Rattle.vr_usecosts.proofs.groups.GroupCost.saved_by_visit.Goals as goal

pub saved_at-requires : goal.saved_at-requires
saved_at-requires c =
    let kept = c.args.self.now in
    record { few = subst (λ (k : KeptGroups). AreFew k.saved) (sym c.self.view_is) (are-few kept.model c.requires.well_formed kept.saved c.requires.saved) }

pub returns-clause-exact : goal.returns-clause-exact
returns-clause-exact c lists valid w t one after =
    let kept = c.args.self.now in
    let at = c.saved_at.ensures in
    let is : number_at kept.saved c.args.u ≡ c.saved_at.result = sym (at.value ∙ ap (λ k. number_at k.saved c.args.u) c.self.view_is) in
    let saves = visit-saves kept.model c.requires.well_formed kept.saved c.requires.saved lists valid c.args.u w t one after in
    omega (arith, ints, saves, is, at.range.low, at.range.high)
