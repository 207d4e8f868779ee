use Rattle.std.proofs.Common.{◌∙◌, ℕ, List, ap, arith}
use Rattle.std.specs.Prelude.{ℤ, slice_range}
use Rattle.std.proofs.lemmas.Int.{ints}
use Rattle.vr_model.specs.tables.Numbers.{total_by, number_at}
use Rattle.vr_routes.specs.Pieces.{nodes_of}
use Rattle.vr_usecosts.proofs.GroupLemmas.{total-chain}
use Rattle.vr_usecosts.proofs.groups.saved_by_piece.Goals as goal

pub returns-in-Chain-clause-value : goal.returns-in-Chain-clause-value
returns-in-Chain-clause-value c =
    let f : ℕ → ℤ = number_at c.args.saved.now in
    let lists : List (List ℕ) = c.args.routes.now.lists in
    let chain = c.in-Chain in
    let r = c.saved_by_nodes-in-Chain.ensures in
    let here = ap (λ l. total_by f (slice_range l chain.from chain.to)) c.list.ensures.value in
    let there = ap (λ p. total_by f (nodes_of lists p)) chain.is ∙ total-chain f lists chain.vehicle chain.from chain.to chain.reversed in
    omega (arith, ints, r.value, r.range.low, r.range.high, here, there)
