use Rattle.std.proofs.Common.{◌∙◌, ◌++◌, ◌∷◌, [], ap, arith, to_z, of_z, w64, ◌≡◌}
use Rattle.std.proofs.lemmas.Int.{ints}
use Rattle.vr_earliest.specs.Floors.{floor_of}
use Rattle.vr_earliest.proofs.FloorLemmas.{floors-more}
use Rattle.vr_earliest.proofs.floors.floors_of.Goals as goal

pub loop-key-preserved : goal.loop-key-preserved
loop-key-preserved c =
    let x = c.floor_of.result in
    let r = c.floor_of.ensures.range in
    let read : to_z w64 (of_z w64 x) ≡ x = omega (arith, ints, r.at_least, r.at_most) in
    floors-more c.args.rows.now c.loop-key.key c.loop-key.floors.items c.push.new.self.items x c.loop-key.invariant
    (c.floor_of.ensures.value ∙ ap floor_of c.of_key.ensures.value) r (c.in_ok-push.ensures.items ∙ ap (λ y. c.loop-key.floors.items ++ y ∷ []) read)
