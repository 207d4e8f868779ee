use Rattle.std.proofs.Common.{◌∙◌, ap, sym}
use Rattle.vr_rules.specs.Placing.{lists_in}
use Rattle.vr_given.proofs.BeginLemmas.{first_lists-valid}
use Rattle.vr_app_tests.proofs.judged.is_searched.Goals as goal

pub search_from-requires-clause-valid : goal.search_from-requires-clause-valid
search_from-requires-clause-valid c =
    first_lists-valid c.args.lookups.now.closed.model.now _ (sym c.in_ok-first.ensures.lists ∙ ap lists_in c.in-Some.is)
