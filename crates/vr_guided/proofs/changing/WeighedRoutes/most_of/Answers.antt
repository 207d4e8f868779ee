use Rattle.std.proofs.Common.{arith}
use Rattle.vr_guided.specs.Counts.{counted}
use Rattle.vr_guided.proofs.ListLemmas.{list_of_each}
use Rattle.vr_guided.proofs.RunLemmas.{gap_most, gap_cut, place_most}
use Rattle.vr_guided.proofs.changing.WeighedRoutes.most_of.Goals as goal

pub returns-clause-gap : goal.returns-clause-gap
returns-clause-gap c =
    let here = c.args.self.now in
    let many = list_of_each here.weights.closed.model.now here.routes.now.lists here.valid in
    let low = c.requires in
    gap_most here.weights.closed.model.now here.weights.closed.well_formed (counted here.weights.penalties.now)
    here.weights.few here.routes.now.lists here.valid c.args.v (omega (arith, many, low)) here.sums c.of.ensures

pub returns-clause-cut : goal.returns-clause-cut
returns-clause-cut c =
    let here = c.args.self.now in
    let many = list_of_each here.weights.closed.model.now here.routes.now.lists here.valid in
    let low = c.requires in
    gap_cut here.weights.closed.model.now here.weights.closed.well_formed (counted here.weights.penalties.now)
    here.weights.few here.routes.now.lists here.valid c.args.v (omega (arith, many, low)) here.sums c.of.ensures

pub returns-clause-place : goal.returns-clause-place
returns-clause-place c =
    let here = c.args.self.now in
    let many = list_of_each here.weights.closed.model.now here.routes.now.lists here.valid in
    let low = c.requires in
    place_most here.weights.closed.model.now here.weights.closed.well_formed (counted here.weights.penalties.now)
    here.weights.few here.routes.now.lists here.valid c.args.v (omega (arith, many, low)) here.sums c.of.ensures
