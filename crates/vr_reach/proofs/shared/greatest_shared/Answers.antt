use Rattle.std.proofs.Common.{◌∙◌, ◌≤ℤ◌, sym, arith}
use Rattle.vr_steps.proofs.LevelLemmas.{level_is}
use Rattle.vr_reach.proofs.GreatestLemmas.{from-ok, greatest_more, greatest_some}
use Rattle.vr_reach.proofs.SharedLemmas.{first_none, first_some}
use Rattle.vr_reach.proofs.shared.greatest_shared.Goals as goal

pub loop-b-preserved : goal.loop-b-preserved
loop-b-preserved c =
    let left = level_is c.args.left.now c.loop-b.b c.level.result.now c.level.ensures in
    let right = level_is c.args.right.now c.loop-b.b c.level-in-loop-b.result.now c.level-in-loop-b.ensures in
    rw c.greater-best.ensures
    (greatest_more c.args.left.now c.args.right.now c.loop-b.b c.meet_into.new.out
    (rw (left, right) (from-ok c.meet_into.result _ (sym c.is_err.ensures.value ∙ c.if-is_err.false) c.meet_into.ensures.exact))
    c.loop-b.best c.greatest.result c.loop-b.invariant c.greatest.ensures.empty c.greatest.ensures.greatest)

pub returns-clause-none : goal.returns-clause-none
returns-clause-none c =
    first_none c.args.left.now c.args.right.now c.loop-b.b (omega arith) (omega arith) (λ b lt lu. omega arith) (λ x y. y ≤ℤ x) c.loop-b.best c.loop-b.invariant

pub returns-clause-some : goal.returns-clause-some
returns-clause-some c = greatest_some c.args.left.now c.args.right.now c.loop-b.best
    (first_some c.args.left.now c.args.right.now c.loop-b.b (omega arith) (omega arith)
    (λ b lt lu. omega arith) (λ x y. y ≤ℤ x) c.loop-b.best c.loop-b.invariant)
