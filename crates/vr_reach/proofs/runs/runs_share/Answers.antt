use Rattle.std.proofs.Common.{◌≤ℤ◌, arith}
use Rattle.std.proofs.lemmas.Int.{ints}
use Rattle.vr_reach.proofs.SingleLemmas.{begins_within, overlap, turned}
use Rattle.vr_reach.proofs.runs.runs_share.Goals as goal

pub returns-then-a-b : goal.returns-then-a-b
returns-then-a-b c =
    let a = c.args.a in
    let b = c.args.b in
    let first : a.lo ≤ℤ b.hi = (let test = c.if-a-b.true in omega (arith, ints, test)) in (
      λ t. overlap a b c.requires.first c.requires.second first (omega (arith, ints, t)),
      λ shared. let second = begins_within b a (turned a b shared) in grind (arith, ints, second),
    )

pub returns-else-a-b : goal.returns-else-a-b
returns-else-a-b c =
    (λ t. absurd cc, λ shared. let first = begins_within c.args.a c.args.b shared in let test = c.if-a-b.false in absurd (omega (arith, ints, first, test)))
