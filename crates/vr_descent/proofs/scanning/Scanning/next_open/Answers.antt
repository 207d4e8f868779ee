use Rattle.std.proofs.Common.{rules, ◌+◌, subst, arith}
use Rattle.vr_known.specs.Passing.{Takes}
use Rattle.vr_known.proofs.LookedLemmas.{within_rises}
use Rattle.vr_known.proofs.PassingLemmas.{passes_none}
use Rattle.vr_descent.specs.Refused.{IsPassed}
use Rattle.vr_descent.proofs.scanning.Scanning.next_open.Goals as goal

pub returns-in-Some-clause-takes : goal.returns-in-Some-clause-takes
returns-in-Some-clause-takes g c = record {
  behind = c.args.list.now;
  passes = passes_none (IsPassed (g.A.Accept.model c.args.self.now.accept.now)
      (g.A.Accept.takes c.args.self.now.accept.now) c.args.self.now.routes.now.lists c.args.self.now.rest)
      c.args.list.now c.args.place.now (search rules);
  first = c.in-Some.ensures;
}

pub returns-in-Some-clause-looked : goal.returns-in-Some-clause-looked
returns-in-Some-clause-looked g c =
    let more = within_rises c.args.self.now.rest c.args.place.now (c.args.place.now + 1) (omega arith) in
    omega (arith, more)

pub returns-clause-takes : goal.returns-clause-takes
returns-clause-takes g c =
    subst (λ l.
    Takes (IsPassed (g.A.Accept.model c.args.self.now.accept.now)
    (g.A.Accept.takes c.args.self.now.accept.now) c.args.self.now.routes.now.lists c.args.self.now.rest)
    l c.args.place.now c.next_by_sieve.result c.next_by_sieve.new.list c.next_by_sieve.new.place) c.in_default.ensures c.next_by_sieve.ensures.takes
