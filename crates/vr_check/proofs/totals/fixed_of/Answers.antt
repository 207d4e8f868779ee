use Rattle.std.proofs.Common.{◌∙◌, sym, ap}
use Rattle.vr_model.specs.tables.Numbers.{total_by, below}
use Rattle.vr_check.proofs.KeptLemmas.{lists_count}
use Rattle.vr_check.proofs.Totalling.{fixed_at, fixed_is}
use Rattle.vr_check.proofs.Widths.{wide}
use Rattle.vr_check.proofs.totals.fixed_of.Goals as goal

pub returns : goal.returns
returns c =
    let of = c.args.solution.now in
    let count = sym (lists_count of.closed.model.now of.printed.now of.lists.now of.routes.now of.sound) in
    wide c.over_routes.result c.over_routes.type_inv ∙ c.over_routes.ensures
    ∙ ap (λ n. total_by (fixed_at of.closed.model.now of.lists.now) (below n)) count ∙ sym (fixed_is of.closed.model.now of.lists.now)
