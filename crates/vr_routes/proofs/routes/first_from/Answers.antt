use Rattle.std.proofs.Common.{◌∙◌, ℕ, List, sym, rules}
use Rattle.std.specs.Prelude.{nat_lt}
use Rattle.std.proofs.lemmas.Option.{slice_get_past, slice_get-get_or}
use Rattle.std.proofs.lemmas.List.Sorted.{IsPartitionPoint-from_clause}
use Rattle.vr_routes.proofs.InactiveLemmas.{lower_first, first_from}
use Rattle.vr_routes.proofs.routes.first_from.Goals as goal

pub returns-then-place-nodes : goal.returns-then-place-nodes
returns-then-place-nodes c =
    let xs : List ℕ = c.args.nodes.now in
    let node : ℕ = c.args.node in
    let point = IsPartitionPoint-from_clause (λ x. nat_lt x node) xs _ c.partition_point-place.ensures.partitioned
    (lower_first xs node c.requires.ascending) (λ a r q k. search rules) in
    sym (first_from xs node _ c.partition_point-place.ensures.bound point ∙ slice_get-get_or xs c.partition_point-place.result 0 c.if-place-nodes.true)

pub returns : goal.returns
returns c =
    let xs : List ℕ = c.args.nodes.now in
    let node : ℕ = c.args.node in
    let point = IsPartitionPoint-from_clause (λ x. nat_lt x node) xs _ c.partition_point-place.ensures.partitioned
    (lower_first xs node c.requires.ascending) (λ a r q k. search rules) in
    sym (first_from xs node _ c.partition_point-place.ensures.bound point ∙ slice_get_past xs c.partition_point-place.result c.if-place-nodes.false)
