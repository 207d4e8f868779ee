use Rattle.vr_model.proofs.routes.Assigned.{open_meets_its_lines}
use Rattle.vr_model.proofs.laws.open_meets_its_lines.Goals as goal

pub returns : goal.returns
returns c = open_meets_its_lines
