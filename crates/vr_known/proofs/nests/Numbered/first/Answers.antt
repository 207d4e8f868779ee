use Rattle.std.proofs.Common.{◌≡◌, ℕ, subst}
use Rattle.std.specs.Prelude.{IfSome}
use Rattle.vr_routes.specs.Runs.{with_last}
use Rattle.vr_known.proofs.PassingLemmas.{told_of_each}
use Rattle.vr_known.proofs.nests.Numbered.first.Goals as goal

pub returns-in-Some-clause-passed : goal.returns-in-Some-clause-passed
returns-in-Some-clause-passed g c =
    let covers = g.S.Sieve.covers c.args.sieve.now in
    let move_at = g.Self.Numbered.move_at c.args.self.now in
    let same = subst (λ o. IfSome o (λ mv. (k : ℕ) → with_last mv k ≡ move_at k)) c.in-Some.is c.run.ensures in
    told_of_each (λ k. covers (with_last c.in-Some.mv k)) (λ k. covers (move_at k)) (λ k is. subst covers (same k) is)
    c.args.from c.first.result c.first.ensures.passed
