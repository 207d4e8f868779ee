use Rattle.std.proofs.Common.{ℕ, List, Bool, sym, ap, ◌∙◌}
use Rattle.std.specs.Prelude.{slice_range}
use Rattle.std.specs.List.{list_all}
use Rattle.vr_routes.specs.Pieces.{nodes_of}
use Rattle.vr_pathfilters.specs.Groups.{allows_node}
use Rattle.vr_pathfilters.proofs.GroupLemmas.{all-chain}
use Rattle.vr_pathfilters.proofs.groups.piece_allows.Goals as goal

pub returns-in-Chain : goal.returns-in-Chain
returns-in-Chain c =
    let lists : List (List ℕ) = c.args.routes.now.lists in
    let p : ℕ → Bool = allows_node c.args.filter.now.model.now c.args.filter.now.numbers lists c.args.filter.now.balance in
    let chain = c.in-Chain in
    c.nodes_allow-in-Chain.ensures ∙ (ap (λ l. list_all p (slice_range l chain.from chain.to)) c.list.ensures.value
    ∙ sym (ap (λ x. list_all p (nodes_of lists x)) chain.is ∙ all-chain p lists chain.vehicle chain.from chain.to chain.reversed))
