use Rattle.std.proofs.Common.{◌∙◌, subst}
use Rattle.vr_plan.specs.Tables.{AreTables}
use Rattle.vr_plan.proofs.lookups.Lookups.tables.Goals as goal

pub returns : goal.returns
returns c = subst (λ m. AreTables m c.tables.result.now) (c.deref.ensures ∙ c.args.self.now.same) c.tables.ensures
