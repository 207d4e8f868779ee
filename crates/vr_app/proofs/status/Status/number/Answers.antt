use Rattle.std.proofs.Common.{rules}
use Rattle.vr_app.proofs.status.Status.number.Goals as goal

pub returns-clause-status : goal.returns-clause-status
returns-clause-status c = (c.args.self, search rules)
