use Rattle.std.proofs.Common.{◌∙◌, ap, sym}
use Rattle.std.specs.Prelude.{not}
use Rattle.vr_costfilter.specs.GlobalCosts.{is_some_spanned}
use Rattle.vr_costfilter.proofs.GlobalLemmas.{none-costs, none-pays}
use Rattle.vr_costfilter.proofs.global_span.GlobalSpan.is_idle.Goals as goal

pub returns-clause-idle : goal.returns-clause-idle
returns-clause-idle c = c.is_idle.ensures ∙ ap (λ s. not (is_some_spanned s.model)) c.self.view_is

pub returns-clause-alike : goal.returns-clause-alike
returns-clause-alike c idle lists later valid valid_later =
    let model = c.args.self.now.model in
    let none = none-pays model (sym (returns-clause-idle c) ∙ idle) in
    none-costs model none later ∙ sym (none-costs model none lists)
