use Rattle.std.proofs.Common.{◌∙◌, ◌<◌, ap, sym, subst, length}
use Rattle.std.specs.Prelude.{slice_index_or}
use Rattle.std.proofs.lemmas.List.{length-map}
use Rattle.vr_first_insert.specs.declared.known_best.KnownItem.TheVariants.{Nothing}
use Rattle.vr_first_insert.specs.Found.{known_after}
use Rattle.vr_first_insert.specs.Kept.{leaves_best}
use Rattle.vr_first_insert.proofs.RowFacts.{none, read}
use Rattle.vr_first_insert.proofs.known_items.KnownItems.leaves_best.Goals as goal

pub returns : goal.returns
returns c =
    let changes = c.self.inside.changes in
    let found = c.self.inside.found in
    c.still_leaves_best.ensures
    ∙ ap (λ known. leaves_best known c.args.class c.args.best.now) (ap (known_after changes) (sym (c.get-found.ensures.value none))
    ∙ (sym
    (read changes found c.args.i none (subst (λ n. c.args.i < n) (sym (ap length c.self.view_is) ∙ length-map found (known_after changes)) c.requires))
    ∙ ap (λ row. slice_index_or row c.args.i Nothing) c.self.view_is))
