use Rattle.std.proofs.Common.{refl}
use Rattle.vr_json.proofs.Steps.{asked}
use Rattle.vr_json.proofs.table.Fields.refuse_if.Goals as goal

pub returns : goal.returns
returns c = asked _ refl c.field.ensures c.refuse_if.ensures
