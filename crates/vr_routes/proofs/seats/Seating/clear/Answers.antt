use Rattle.std.proofs.Common.{◌<◌, ◌∙◌, ℕ, List, length, arith, ap, length-set}
use Rattle.vr_model.specs.routes.Routes.{route}
use Rattle.vr_routes.proofs.TourLemmas.{written_again}
use Rattle.vr_routes.proofs.seats.Seating.clear.Goals as goal

pub loop-node-preserved : goal.loop-node-preserved
loop-node-preserved c =
    let old : List (List ℕ) = c.args.self.now.lists in
    let now : List (List ℕ) = c.loop-node.self.lists in
    let list : List ℕ = route now c.args.v in
    let taken = c.in-Some.ensures.taken in
    let low : c.args.v < length now = omega (arith, c.requires.vehicle, ap length c.loop-node.invariant.lists, length-set old c.args.v list) in
    record {
      lists = written_again old now c.take_last.new.self.lists c.args.v list taken.0 c.loop-node.invariant.lists taken.2 low;
      nodes = c.take_last.ensures.nodes ∙ c.loop-node.invariant.nodes;
    }
