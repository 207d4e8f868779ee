use Rattle.vr_json.proofs.Steps.{otherwise}
use Rattle.vr_json.proofs.table.Fields.optional_array.Goals as goal

pub returns : goal.returns
returns g c = otherwise _ _ _ _ c.new-none.ensures c.optional.ensures
