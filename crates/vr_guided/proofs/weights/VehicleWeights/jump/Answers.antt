use Rattle.std.proofs.Common.{◌≡◌, ◌∙◌, ◌+◌, length, to_z, of_z, ap, sym, arith}
use Rattle.std.specs.Int.{w128}
use Rattle.std.specs.Prelude.{◌+ℤ◌}
use Rattle.std.proofs.lemmas.Int.{ints}
use Rattle.vr_guided.specs.Counts.{counted}
use Rattle.vr_guided.specs.Walks.{stepped, arc_weight}
use Rattle.vr_balance.specs.Sums.{last_of}
use Rattle.vr_guided.proofs.ChainLemmas.{same_walk, sum-read, walk_of, walked-jump}
use Rattle.vr_guided.proofs.LocalChanges.{along}
use Rattle.vr_guided.proofs.weights.VehicleWeights.jump.Goals as goal

pub returns-clause-value : goal.returns-clause-value
returns-clause-value c nodes many ends sum =
    let m = c.args.self.now.weights.closed.model.now in
    let p = counted c.args.self.now.weights.penalties.now in
    let v = c.args.self.now.vehicle in
    let first = c.args.first in
    let s = c.step.new.walk in
    let sound = c.step.ensures.sound in
    let stepped_is = c.step.ensures.value in
    let more = ap (λ w. w.arcs) stepped_is in
    let room = c.requires.room in
    let same : to_z w128 (of_z w128 (to_z w128 (of_z w128 s.total) +ℤ to_z w128 (of_z w128 c.args.total))) ≡ s.total +ℤ c.args.total
    = sum-read s.total c.args.total s.arcs c.args.arcs sound.low sound.high c.requires.total (omega (arith, more, room)) in
    let total = same ∙ ap (λ z. s.total +ℤ z) sum in
    same_walk _ _ _ _ _ _ ends (ap (λ k. s.arcs + k) many) total
    ∙ (ap (λ w. walk_of (last_of first nodes) (w.arcs + length nodes) (w.total +ℤ along (arc_weight m p) v first nodes)) stepped_is
    ∙ sym (walked-jump m p v (stepped m p v c.args.walk.now first) nodes))

pub returns-clause-sound : goal.returns-clause-sound
returns-clause-sound c =
    let s = c.step.new.walk in
    let sound = c.step.ensures.sound in
    let more = ap (λ w. w.arcs) c.step.ensures.value in
    let room = c.requires.room in
    let same = sum-read s.total c.args.total s.arcs c.args.arcs sound.low sound.high c.requires.total (omega (arith, more, room)) in
    let s_low = sound.low in
    let s_high = sound.high in
    let t_low = c.requires.total.at_least in
    let t_high = c.requires.total.at_most in
    record {
      node = c.requires.last;
      low = omega (arith, ints, same, s_low, t_low);
      high = omega (arith, ints, same, s_high, t_high);
    }
