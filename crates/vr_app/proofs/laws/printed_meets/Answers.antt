use Rattle.vr_app.proofs.printing.AllMet.{printed_meets}
use Rattle.vr_app.proofs.laws.printed_meets.Goals as goal

pub returns : goal.returns
returns c = printed_meets
