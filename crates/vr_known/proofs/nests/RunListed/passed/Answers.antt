use Rattle.std.proofs.Common.{rules}
use Rattle.vr_known.specs.Passing.{IsBlockOf}
use Rattle.vr_known.proofs.PassingLemmas.{run_passed}
use Rattle.vr_known.proofs.nests.RunListed.passed.Goals as goal

pub returns : goal.returns
returns g c =
    let now = c.args.self.now in
    let move_at = g.N.Numbered.move_at now.numbers in
    let block = c.in_ok-block.block in
    let stands : IsBlockOf block move_at = search rules in
    run_passed (g.S.Sieve.covers c.args.sieve.now) (g.N.Numbered.passes now.numbers) move_at now.next now.end c.many.result
    block stands (c.has.ensures c.if-not-has.false) c.many.ensures
