use Rattle.std.proofs.Common.{arith}
use Rattle.vr_known.proofs.LookedLemmas.{looked_once}
use Rattle.vr_known.proofs.nests.first_open.Goals as goal

pub returns-clause-looked : goal.returns-clause-looked
returns-clause-looked g c =
    let sieve = c.args.sieve.now in
    let few = c.if-passed-limit.false in
    let same = c.limit-limit.ensures in
    let fits = c.limit-limit.type_inv in
    looked_once (g.S.Sieve.can_ask sieve) g.S.Sieve.judged g.S.Sieve.looked (g.S.Sieve.tries sieve) _ _ c.args.passed
    c.first.ensures.can_ask c.first.ensures.judged c.first.ensures.looked (omega (arith, few, same)) (omega (arith, fits, same))
