use Rattle.std.proofs.Common.{List, sym, ap, subst, ◌∙◌}
use Rattle.std.specs.List.{All}
use Rattle.vr_tsplib.specs.declared.section_rows.SiteRow.{SiteRow}
use Rattle.vr_tsplib.specs.Ranges.{IsSiteInRange}
use Rattle.vr_tsplib.specs.Trees.{sites}
use Rattle.vr_tsplib.proofs.TreeLemmas.{sites_near}
use Rattle.vr_tsplib.proofs.trees.matrix.Goals as goal

pub plane-requires : goal.plane-requires
plane-requires c =
    let Near : List SiteRow → Type 0 = λ rows. All IsSiteInRange rows in
    let are = c.deref.ensures.value ∙ c.in_ok-places-in-Plane.ensures ∙ ap (sites c.args.n) c.as_slice.ensures in
    subst Near (sym are) (sites_near c.args.n c.args.state.now.sites c.requires.near)
