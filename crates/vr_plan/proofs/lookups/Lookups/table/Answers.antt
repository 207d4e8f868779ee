use Rattle.std.proofs.Common.{◌∙◌, ◌<◌, length, subst, sym}
use Rattle.vr_plan.specs.Tables.{IsTable}
use Rattle.vr_plan.proofs.lookups.Lookups.table.Goals as goal

pub table-requires : goal.table-requires
table-requires c = subst (λ m. c.args.d < length m.dimensions) (sym (c.deref.ensures ∙ c.args.self.now.same)) c.requires

pub returns : goal.returns
returns c = subst (λ m. IsTable m c.args.d c.table.result.now) (c.deref.ensures ∙ c.args.self.now.same) c.table.ensures
