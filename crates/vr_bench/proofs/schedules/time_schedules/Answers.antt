use Rattle.vr_model.proofs.routes.Lists.{are-lists}
use Rattle.vr_bench.proofs.schedules.time_schedules.Goals as goal

pub first_line-requires : goal.first_line-requires
first_line-requires c = are-lists c.args.of.closed.model.now c.args.of.routes.now.lists c.args.of.valid
