use Rattle.std.proofs.Common.{◌∙◌, ap}
use Rattle.vr_given.specs.Begin.{begin_lists, taken_up, where_valid}
use Rattle.vr_refine.proofs.begin.begin_with.Goals as goal

pub returns-clause-lists : goal.returns-clause-lists
unfolding begin_lists
returns-clause-lists c =
    let model = c.args.lookups.now.closed.model.now in
    c.if_kept.ensures.lists ∙ c.in_ok-valid.ensures.taken ∙ ap (λ lists. where_valid model (taken_up model lists)) c.in_ok-routes.ensures.lists
