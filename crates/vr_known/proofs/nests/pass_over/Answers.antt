use Rattle.std.proofs.Common.{ℕ, ◌≤◌, ◌<◌, subst}
use Rattle.std.specs.Prelude.{IfSome}
use Rattle.vr_known.proofs.LookedLemmas.{followed_by, looked_further}
use Rattle.vr_known.proofs.PassingLemmas.{passes_from, passes_run}
use Rattle.vr_known.proofs.nests.pass_over.Goals as goal

pub returns-in-Some-clause-passes : goal.returns-in-Some-clause-passes
returns-in-Some-clause-passes g c =
    let now = c.go_to_next.new.run in
    let covers = g.S.Sieve.covers c.args.sieve.now in
    let first = c.in-Some.first in
    passes_from covers _ _ _ _ _ c.go_to_next.ensures.rest
    (passes_run covers (g.N.Numbered.passes now.numbers) (g.N.Numbered.move_at now.numbers)
    now.next first now.end c.args.count.now c.many-many.result c.saturating_add.result
    (subst (λ o. IfSome o (λ n. now.next ≤ n)) c.in-Some.is c.first_open.ensures.from)
    (subst (λ o. IfSome o (λ n. n ≤ now.end)) c.in-Some.is c.first_open.ensures.within)
    (subst (λ o. IfSome o (λ n. (k : ℕ) → now.next ≤ k → k < n → covers (g.N.Numbered.move_at now.numbers k))) c.in-Some.is c.first_open.ensures.passed)
    c.many-many.ensures c.saturating_add.ensures)

pub returns-in-Some-clause-looked : goal.returns-in-Some-clause-looked
returns-in-Some-clause-looked g c =
    let now = c.go_to_next.new.run in
    let passes = g.N.Numbered.passes now.numbers in
    let move_at = g.N.Numbered.move_at now.numbers in
    let sieve = c.args.sieve.now in
    let limit = g.S.Sieve.tries sieve in
    looked_further (g.S.Sieve.can_ask sieve) g.S.Sieve.judged g.S.Sieve.looked limit _ _ _ _ _
    (followed_by limit passes move_at now.next c.in-Some.first now.end c.args.count.now c.many-many.result c.saturating_add.result
    c.if-run.false (c.go_to_next.ensures.there c.if-run.false)
    (subst (λ o. IfSome o (λ n. now.next ≤ n)) c.in-Some.is c.first_open.ensures.from) c.many-many.ensures c.saturating_add.ensures)
    c.first_open.ensures.looked
