use Rattle.std.proofs.Common.{length, sym, ◌∙◌, arith}
use Rattle.vr_read.specs.Alike.{differs_from_some}
use Rattle.vr_model.proofs.tables.Ranges.{test_goes_on}
use Rattle.vr_read.proofs.alike.vehicles_differ.Goals as goal

pub loop-v-preserved : goal.loop-v-preserved
loop-v-preserved c = test_goes_on (differs_from_some c.args.of.model.now) (length c.args.of.model.now.vehicles)
    c.loop-v.v c.loop-v.invariant (omega arith) (sym c.differs_from_some.ensures ∙ c.if-differs_from_some.false)
