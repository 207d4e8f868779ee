use Rattle.std.proofs.Common.{◌∙◌, sym}
use Rattle.vr_ruin.proofs.CarryingLemmas.{none-of}
use Rattle.vr_ruin.proofs.carrying.is_free.Goals as goal

pub returns : goal.returns
returns c = λ all. record {
  pairs = none-of c.args.closed.model.now.pairs (sym c.is_empty.ensures ∙ c.if-not-is_empty.false);
  allowed = none-of c.args.closed.model.now.allowed (sym c.is_empty-2.ensures ∙ all);
}
