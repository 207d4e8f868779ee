use Rattle.std.proofs.Common.{◌∙◌, ap, sym}
use Rattle.vr_model.specs.routes.Rules.{is_valid}
use Rattle.vr_refine.proofs.BuiltLemmas.{valid-built}
use Rattle.vr_refine.proofs.begin.take_up.Goals as goal

pub returns-then-branch-clause-built : goal.returns-then-branch-clause-built
returns-then-branch-clause-built c = λ taken.
    let lists = c.args.routes.now.lists in
    valid-built c.args.lookups.now.closed.model.now lists
    (sym (c.in_ok-valid.ensures.answer ∙ ap (λ model. is_valid model lists) c.requires.rules) ∙ c.if-branch.true)
