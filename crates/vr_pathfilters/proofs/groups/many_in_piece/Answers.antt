use Rattle.std.proofs.Common.{ℕ, List, sum_by, sym, ap, ◌∙◌}
use Rattle.std.specs.Prelude.{slice_range}
use Rattle.vr_routes.specs.Pieces.{nodes_of}
use Rattle.vr_balance.proofs.BalanceLemmas.{sum-chain}
use Rattle.vr_pathfilters.specs.Groups.{one_in_group}
use Rattle.vr_pathfilters.proofs.groups.many_in_piece.Goals as goal

pub returns-in-Chain-clause-value : goal.returns-in-Chain-clause-value
returns-in-Chain-clause-value c =
    let f : ℕ → ℕ = one_in_group c.args.numbers.now c.args.g in
    let lists : List (List ℕ) = c.args.routes.now.lists in
    let chain = c.in-Chain in
    c.many_in-in-Chain.ensures.value ∙ (ap (λ l. sum_by f (slice_range l chain.from chain.to)) c.list.ensures.value
    ∙ sym (ap (λ p. sum_by f (nodes_of lists p)) chain.is ∙ sum-chain f lists chain.vehicle chain.from chain.to chain.reversed))
