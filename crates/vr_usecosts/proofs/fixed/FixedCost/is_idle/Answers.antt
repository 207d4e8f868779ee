use Rattle.std.proofs.Common.{◌∙◌, ap, sym}
use Rattle.std.proofs.lemmas.Bool.{not-true}
use Rattle.std.specs.Prelude.{not}
use Rattle.vr_model.proofs.routes.Lists.{are-lists, are_lists-count}
use Rattle.vr_usecosts.proofs.FixedLemmas.{none-fixed}
use Rattle.vr_usecosts.proofs.fixed.FixedCost.is_idle.Goals as goal

pub returns-clause-idle : goal.returns-clause-idle
returns-clause-idle c = ap not (ap (λ k. k.pays) c.self.view_is ∙ c.requires.pays)

pub returns-clause-alike : goal.returns-clause-alike
returns-clause-alike c idle lists later valid valid_later =
    let model = c.args.self.now.model in
    let none = sym c.requires.pays ∙ (ap (λ k. k.pays) (sym c.self.view_is) ∙ not-true _ idle) in
    let before = none-fixed model none lists (are_lists-count model lists (are-lists model lists valid)) in
    let after = none-fixed model none later (are_lists-count model later (are-lists model later valid_later)) in
    after ∙ sym before
