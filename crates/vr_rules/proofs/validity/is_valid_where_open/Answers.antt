use Rattle.std.proofs.Common.{◌∙◌}
use Rattle.vr_rules.proofs.MarkedLemmas.{valid_where_built}
use Rattle.vr_rules.proofs.validity.is_valid_where_open.Goals as goal

pub returns : goal.returns
returns c = c.is_complete.ensures ∙ valid_where_built c.args.of.now c.requires
