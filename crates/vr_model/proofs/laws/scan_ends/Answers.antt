use Rattle.vr_model.proofs.searches.ScanEnding.{scan_ends}
use Rattle.vr_model.proofs.laws.scan_ends.Goals as goal

pub returns : goal.returns
returns c = scan_ends
