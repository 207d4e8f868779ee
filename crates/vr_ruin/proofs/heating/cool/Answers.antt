use Rattle.std.proofs.Common.{◌≡◌, ◌∙◌, ◌+◌, ◌-◌, suc, ap, sym, arith}
use Rattle.vr_ruin.specs.Steps.{cooled}
use Rattle.vr_ruin.proofs.StopLemmas.{less_hot}
use Rattle.vr_ruin.proofs.heating.cool.Goals as goal

pub loop-level-preserved : goal.loop-level-preserved
loop-level-preserved c =
    let once = less_hot c.loop-level.h in
    let more : c.args.levels - c.loop-level._level ≡ suc (c.args.levels - (c.loop-level._level + 1)) = omega (arith, c.loop-level-test.true) in
    record {
      less = omega (arith, once, c.loop-level.invariant.less);
      left = sym (ap (λ levels. cooled levels c.loop-level.h) more) ∙ c.loop-level.invariant.left;
    }
