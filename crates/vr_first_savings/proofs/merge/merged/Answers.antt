use Rattle.std.proofs.Common.{◌∙◌, ◌^◌, ℕ, refl, ap, sym, subst, pos, length}
use Rattle.std.specs.Prelude.{replicate}
use Rattle.std.proofs.lemmas.List.{get_or-replicate, length-replicate}
use Rattle.vr_first_savings.specs.Bounds.{AreBounds}
use Rattle.vr_first_savings.proofs.BoundLemmas.{bounds-unknown}
use Rattle.vr_first_savings.proofs.merge.merged.Goals as goal

pub merge_all-requires-clause-number : goal.merge_all-requires-clause-number
merge_all-requires-clause-number c =
    ap length (c.deref_mut.ensures.value ∙ c.in_ok-bounds.ensures.items_if_clones_equal (λ y e. e))
    ∙ length-replicate c.args.lookups.now.closed.model.now.nodes (pos (2 ^ 41))

pub merge_all-requires-clause-bounds : goal.merge_all-requires-clause-bounds
merge_all-requires-clause-bounds c =
    let model = c.args.lookups.now.closed.model.now in
    subst (AreBounds model c.args.routes.items) (sym (c.deref_mut.ensures.value ∙ c.in_ok-bounds.ensures.items_if_clones_equal (λ y e. e)))
    (bounds-unknown model c.args.routes.items (replicate model.nodes (pos (2 ^ 41))) model.nodes
    c.args.lookups.now.closed.well_formed c.requires.apart refl (λ k low. get_or-replicate model.nodes k (pos (2 ^ 41)) (pos 0) low))
