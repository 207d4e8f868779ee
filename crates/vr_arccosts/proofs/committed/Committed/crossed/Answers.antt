use Rattle.std.proofs.Common.{arith}
use Rattle.std.proofs.lemmas.Int.{ints}
use Rattle.vr_arccosts.proofs.AddedLemmas.{crossed-adds}
use Rattle.vr_arccosts.proofs.committed.Committed.crossed.Goals as goal

pub returns-clause-exact : goal.returns-clause-exact
returns-clause-exact c =
    let a = c.args in
    let one = c.between_adds-one.ensures in
    let other = c.between_adds-other.ensures in
    let both = crossed-adds a.self.kept.now.model a.self.routes.now.lists a.v a.a a.w
    a.b c.requires.is_one c.front.ensures c.front-2.ensures one.value other.value in
    omega (arith, ints, one.range.low, one.range.high, other.range.low, other.range.high, both)
