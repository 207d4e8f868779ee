use Rattle.std.proofs.Common.{◌≡◌, ◌∙◌, ap, sym, subst, arith}
use Rattle.std.proofs.lemmas.Int.{ints}
use Rattle.vr_model.specs.tables.Numbers.{number_at}
use Rattle.vr_model.specs.tables.Tables.{pair_at}
use Rattle.vr_model.specs.declared.records.Pair.{Pair}
use Rattle.vr_usecosts.specs.Groups.{AreFew, KeptGroups}
use Rattle.vr_usecosts.proofs.GroupLemmas.{are-few}
use Rattle.vr_usecosts.proofs.SavingLemmas.{pair-saves}
use Rattle.vr_usecosts.proofs.groups.GroupCost.saved_by_pair.Goals as goal

pub saved_at-pickup-requires : goal.saved_at-pickup-requires
saved_at-pickup-requires c =
    let kept = c.args.self.now in
    record { few = subst (λ (k : KeptGroups). AreFew k.saved) (sym c.self.view_is) (are-few kept.model c.requires.well_formed kept.saved c.requires.saved) }

pub saved_at-delivery-requires : goal.saved_at-delivery-requires
saved_at-delivery-requires c =
    let kept = c.args.self.now in
    record { few = subst (λ (k : KeptGroups). AreFew k.saved) (sym c.self.view_is) (are-few kept.model c.requires.well_formed kept.saved c.requires.saved) }

pub returns-clause-exact : goal.returns-clause-exact
returns-clause-exact c lists valid w s t one after =
    let model = c.args.self.now.model in
    let saved = c.args.self.now.saved in
    let pair = pair_at model c.args.p in
    let got : c.get-pair.result.now ≡ pair = sym (c.get-pair.ensures.value (record { pickup = 0; delivery = 0 }))
    ∙ ap (λ k. pair_at k.model c.args.p) c.self.view_is in
    let p = c.saved_at-pickup.ensures in
    let d = c.saved_at-delivery.ensures in
    let pickup : c.saved_at-pickup.result ≡ number_at saved pair.pickup = p.value
    ∙ (ap (λ k. number_at k.saved c.get-pair.result.now.pickup) c.self.view_is ∙ ap (λ (q : Pair). number_at saved q.pickup) got) in
    let delivery : c.saved_at-delivery.result ≡ number_at saved pair.delivery = d.value
    ∙ (ap (λ k. number_at k.saved c.get-pair.result.now.delivery) c.self.view_is ∙ ap (λ (q : Pair). number_at saved q.delivery) got) in
    let is = pair-saves model c.requires.well_formed saved c.requires.saved lists valid c.args.p w s t one after in
    omega (arith, ints, is, pickup, delivery, p.range.low, p.range.high, d.range.low, d.range.high)
