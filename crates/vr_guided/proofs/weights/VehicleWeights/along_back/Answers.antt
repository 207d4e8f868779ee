use Rattle.std.proofs.Common.{reverse, length, ap, refl, arith}
use Rattle.std.proofs.lemmas.List.{take_all}
use Rattle.vr_guided.specs.Counts.{counted}
use Rattle.vr_guided.specs.Walks.{walked}
use Rattle.vr_guided.proofs.weights.VehicleWeights.along_back.Goals as goal

pub loop-place-init : goal.loop-place-init
loop-place-init c = record {
  goes = ap (λ xs. walked c.args.self.now.weights.closed.model.now (counted c.args.self.now.weights.penalties.now)
      c.args.self.now.vehicle c.args.walk.now (reverse xs)) (take_all (length c.args.nodes.now) c.args.nodes.now (omega arith));
  sound = c.requires.sound;
  high = omega arith;
  arcs = refl;
}
