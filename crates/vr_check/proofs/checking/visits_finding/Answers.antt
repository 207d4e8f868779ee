use Rattle.vr_model.proofs.routes.Lists.{are_lists-count}
use Rattle.vr_check.proofs.checking.visits_finding.Goals as goal

pub wrong_policy-requires : goal.wrong_policy-requires
wrong_policy-requires c = are_lists-count c.args.solution.now.closed.model.now c.args.solution.now.lists.now c.args.solution.now.sound.visits

pub refused-requires : goal.refused-requires
refused-requires c = are_lists-count c.args.solution.now.closed.model.now c.args.solution.now.lists.now c.args.solution.now.sound.visits
