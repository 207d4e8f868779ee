use Rattle.vr_search_tests.proofs.ValidRules.{valid_goes, valid_many}
use Rattle.vr_search_tests.proofs.filters.dimensions_follow.Goals as goal

pub open-requires-clause-many : goal.open-requires-clause-many
open-requires-clause-many c = valid_many c.args.closed.model.now c.args.routes.now.lists c.requires.valid

pub open-requires-clause-rule : goal.open-requires-clause-rule
open-requires-clause-rule c = valid_goes c.args.closed.model.now c.args.routes.now.lists c.requires.valid 0 c.requires.some
