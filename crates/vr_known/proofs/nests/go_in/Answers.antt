use Rattle.std.proofs.Common.{arith}
use Rattle.vr_known.specs.Nests.{rest_inside}
use Rattle.vr_known.proofs.PassingLemmas.{passes_beyond, passes_opened}
use Rattle.vr_known.proofs.nests.go_in.Goals as goal

pub returns-in-None-clause-passes : goal.returns-in-None-clause-passes
returns-in-None-clause-passes g c =
    let now = c.loop-each.each in
    passes_opened (g.S.Sieve.covers c.args.sieve.now) (g.F.Family.passes now.family) (g.F.Family.moves now.family) now.next now.end
    c.loop-each-test.true (rest_inside g.F.Inner.Listed.rest c.open-opened.result) c.open-opened.ensures c.loop-each.invariant.passes

pub loop-each-preserved-in-Some : goal.loop-each-preserved-in-Some
loop-each-preserved-in-Some g c =
    let now = c.loop-each.each in
    let inv = c.loop-each.invariant in
    record {
      fits = inv.fits;
      none = inv.none;
      fewer = omega (arith, inv.fewer);
      passes = passes_beyond (g.S.Sieve.covers c.args.sieve.now) (g.F.Family.passes now.family) (g.F.Family.moves now.family) now.next
          now.end c.loop-each-test.true (rest_inside g.F.Inner.Listed.rest c.open-opened.result) c.open-opened.ensures inv.passes
          c.in-Some.many c.saturating_add.result c.in-Some.ensures c.saturating_add.ensures;
    }

pub loop-each-preserved : goal.loop-each-preserved
loop-each-preserved g c =
    let now = c.loop-each.each in
    let inv = c.loop-each.invariant in
    record {
      fits = inv.fits;
      none = inv.none;
      fewer = omega (arith, inv.fewer);
      passes = passes_beyond (g.S.Sieve.covers c.args.sieve.now) (g.F.Family.passes now.family) (g.F.Family.moves now.family) now.next
          now.end c.loop-each-test.true (rest_inside g.F.Inner.Listed.rest c.open-opened.result) c.open-opened.ensures inv.passes
          c.in-Some.many c.saturating_add.result c.in-Some.ensures c.saturating_add.ensures;
    }
