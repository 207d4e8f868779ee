use Rattle.std.proofs.Common.{◌≡◌, ◌<◌, ◌-ℤ◌, ◌<ℤ◌, false, subst, arith, w64, to_z, of_z}
use Rattle.std.specs.Int.{w128}
use Rattle.std.specs.Prelude.{IfSome, pos}
use Rattle.std.proofs.lemmas.Int.{ints, quot_fits}
use Rattle.vr_guided.specs.Guides.{is_gain}
use Rattle.vr_guided.proofs.GuideLemmas.{none_at_zero}
use Rattle.vr_guided.proofs.guiding.Guiding.enough_against.Goals as goal

-- src/guiding.rt: the weight of a cost is not zero, and what is saved fits when it is weighed over it
pub nonzero_div-weighed : goal.nonzero_div-weighed
nonzero_div-weighed c =
    let s = c.args.self.now.sound in
    let q_from = s.q_in_range.at_least in
    let q_to = s.q_in_range.at_most in
    let low = c.weighed-weighed.ensures.low in
    let high = c.weighed-weighed.ensures.high in
    let some : 0 < of_z w64 c.args.self.now.lambda.q = omega (arith, ints, q_from, q_to) in
    let above : pos 0 <ℤ to_z w64 (of_z w64 c.args.self.now.lambda.q) = omega (arith, ints, q_from, q_to) in
    (some, quot_fits w64 _ _ (omega (arith, ints, q_from, q_to, low, high)) above)

pub returns : goal.returns
returns c =
    let low = c.requires.at_least in
    let high = c.requires.at_most in
    let as_read : to_z w128 (of_z w128 c.args.saved) ≡ c.args.saved = omega (arith, ints, low, high) in
    subst (λ z. IfSome c.where_enough.result (λ e. is_gain c.args.self.now.lambda e (pos 0 -ℤ z) ≡ false)) as_read c.where_enough.ensures

pub returns-then-saved-eq0 : goal.returns-then-saved-eq0
returns-then-saved-eq0 c =
    let from = c.requires.at_least in
    let to = c.requires.at_most in
    let none = c.if-saved-eq0.true in
    none_at_zero c.args.self.now.lambda (pos 0) c.args.saved c.args.self.now.sound.q_in_range.at_least
    (omega (arith, ints)) (omega (arith, ints, from, to, none))
