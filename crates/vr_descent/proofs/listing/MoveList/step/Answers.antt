use Rattle.std.proofs.Common.{rules, ◌∙◌, ◌++◌, ◌+◌, sym, ap, subst, arith}
use Rattle.vr_known.specs.Passing.{Takes}
use Rattle.vr_known.proofs.LookedLemmas.{looked_none, within_rises}
use Rattle.vr_known.proofs.PassingLemmas.{passes_from, passes_none}
use Rattle.vr_descent.proofs.listing.MoveList.step.Goals as goal

pub returns-in-Some-clause-takes : goal.returns-in-Some-clause-takes
returns-in-Some-clause-takes g c = record {
  behind = c.args.self.now;
  passes = passes_none (g.S.Sieve.covers c.args.sieve.now) c.args.self.now c.args.passed.now (search rules);
  first = sym c.self.view_is ∙ ap (λ l. l ++ c.self.inside.behind) c.in-Some.ensures;
}

pub returns-in-Some-clause-looked : goal.returns-in-Some-clause-looked
returns-in-Some-clause-looked g c =
    let limit = g.S.Sieve.tries c.args.sieve.now in
    looked_none (g.S.Sieve.can_ask c.args.sieve.now) g.S.Sieve.judged g.S.Sieve.looked limit _ _ _ c.requires.can_ask
    (within_rises limit c.args.passed.now (c.args.passed.now + 1) (omega arith))

pub returns-clause-takes : goal.returns-clause-takes
returns-clause-takes g c =
    let covers = g.S.Sieve.covers c.args.sieve.now in
    let t = subst (λ l. Takes covers c.self.inside.behind c.args.passed.now c.step-found.result l c.step-found.new.passed)
    c.stretch-self-inside.ensures c.step-found.ensures.takes in
    record {
      behind = t.behind;
      passes = passes_from covers _ _ _ _ _
          (sym (ap (λ l. l ++ c.self.inside.behind) c.in_default.ensures.0) ∙ c.self.view_is) t.passes;
      first = t.first;
    }
