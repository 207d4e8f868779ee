use Rattle.std.proofs.Common.{◌∙◌, true, arith, sym}
use Rattle.vr_model.proofs.tables.Tests.{all-from_list_all}
use Rattle.vr_ruin.proofs.CarryingLemmas.{none-of}
use Rattle.vr_ruin.proofs.carrying.is_plain.Goals as goal

pub returns : goal.returns
returns c = λ all. record {
  loads = λ d low. let many = c.requires.many in
      sym (c.requires.each d true (omega (arith, low, many)))
      ∙ all-from_list_all (λ mark. mark) c.args.loads.now (sym c.are_all.ensures ∙ all) d true (omega (arith, low, many));
  pairs = none-of c.args.closed.model.now.pairs (sym c.is_empty.ensures ∙ c.if-not-is_empty.false);
  allowed = none-of c.args.closed.model.now.allowed (sym c.is_empty-2.ensures ∙ c.if-not-is_empty-2.false);
}
