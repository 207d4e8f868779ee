use Rattle.vr_search_tests.proofs.ValidRules.{valid_allows, valid_keeps, valid_many, valid_serves}
use Rattle.vr_search_tests.proofs.filters.passes.Goals as goal

pub open-requires-clause-many : goal.open-requires-clause-many
open-requires-clause-many c = valid_many c.args.closed.model.now c.args.routes.now.lists c.requires.valid

pub open-requires-clause-rule : goal.open-requires-clause-rule
open-requires-clause-rule c = valid_keeps c.args.closed.model.now c.args.routes.now.lists c.requires.valid

pub open-requires-in-Vehicles-clause-many : goal.open-requires-in-Vehicles-clause-many
open-requires-in-Vehicles-clause-many c = valid_many c.args.closed.model.now c.args.routes.now.lists c.requires.valid

pub open-requires-in-Vehicles-clause-rule : goal.open-requires-in-Vehicles-clause-rule
open-requires-in-Vehicles-clause-rule c = valid_allows c.args.closed.model.now c.args.routes.now.lists c.requires.valid

pub open-requires-in-Pairs-clause-many : goal.open-requires-in-Pairs-clause-many
open-requires-in-Pairs-clause-many c = valid_many c.args.closed.model.now c.args.routes.now.lists c.requires.valid

pub open-requires-in-Pairs-clause-rule : goal.open-requires-in-Pairs-clause-rule
open-requires-in-Pairs-clause-rule c = valid_serves c.args.closed.model.now c.args.routes.now.lists c.requires.valid

pub open-requires-in-Both-clause-many : goal.open-requires-in-Both-clause-many
open-requires-in-Both-clause-many c = valid_many c.args.closed.model.now c.args.routes.now.lists c.requires.valid

pub open-requires-in-Both-clause-rule : goal.open-requires-in-Both-clause-rule
open-requires-in-Both-clause-rule c = valid_allows c.args.closed.model.now c.args.routes.now.lists c.requires.valid

pub open-requires-in-Both-2-clause-many : goal.open-requires-in-Both-2-clause-many
open-requires-in-Both-2-clause-many c = valid_many c.args.closed.model.now c.args.routes.now.lists c.requires.valid

pub open-requires-in-Both-2-clause-rule : goal.open-requires-in-Both-2-clause-rule
open-requires-in-Both-2-clause-rule c = valid_keeps c.args.closed.model.now c.args.routes.now.lists c.requires.valid
