use Rattle.std.proofs.Common.{◌∙◌, ap, not, sym}
use Rattle.vr_costfilter.specs.GlobalCosts.{is_some_spanned}
use Rattle.vr_costfilter.proofs.reaches.SpanRules.over.Goals as goal

pub invariant_of-result : goal.invariant_of-result
invariant_of-result c = ap not (c.is_some_spanned.ensures ∙ ap is_some_spanned (sym c.in_ok-share.ensures))
