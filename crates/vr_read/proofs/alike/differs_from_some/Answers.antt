use Rattle.std.proofs.Common.{not, length, sym, ap, ◌∙◌, arith}
use Rattle.vr_model.specs.tables.ModelRules.{are_alike}
use Rattle.vr_model.proofs.tables.Ranges.{test_finds, test_goes_on}
use Rattle.vr_read.proofs.alike.differs_from_some.Goals as goal

pub loop-w-preserved : goal.loop-w-preserved
loop-w-preserved c =
    test_goes_on (λ w. not (are_alike c.args.of.model.now c.args.v w)) (length c.args.of.model.now.vehicles) c.loop-w.w c.loop-w.invariant (omega arith)
    (ap not (sym c.are_alike.ensures ∙ c.if-not-are_alike.false))

pub returns-then-not-are_alike : goal.returns-then-not-are_alike
returns-then-not-are_alike c =
    test_finds (λ w. not (are_alike c.args.of.model.now c.args.v w)) (length c.args.of.model.now.vehicles) c.loop-w.w c.loop-w.invariant (omega arith)
    (ap not (sym c.are_alike.ensures ∙ c.if-not-are_alike.true))
