use Rattle.std.proofs.Common.{ℕ, subst}
use Rattle.std.specs.Prelude.{slice_index}
use Rattle.vr_routes.specs.Runs.{with_last}
use Rattle.vr_moves_active.proofs.swap_active_moves.NewcomersNumbered.first.Goals as goal

pub returns-in-Some-clause-passed : goal.returns-in-Some-clause-passed
returns-in-Some-clause-passed g c k low high =
    let u : ℕ = slice_index c.args.self.now.nodes.now k in
    let within = c.end_within.ensures in
    subst (λ m. g.S.Sieve.covers c.args.sieve.now (with_last m u)) c.make-mv.ensures
    (c.in-Some.ensures.passed u (within.low k low high) (within.high k low high))
