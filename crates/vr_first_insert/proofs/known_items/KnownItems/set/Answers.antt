use Rattle.std.proofs.Common.{◌∙◌, ap}
use Rattle.std.specs.Prelude.{map, slice_set}
use Rattle.vr_first_insert.specs.Found.{known_after}
use Rattle.vr_first_insert.proofs.RowFacts.{written}
use Rattle.vr_first_insert.proofs.known_items.KnownItems.set.Goals as goal

pub returns : goal.returns
returns c =
    ap (map (known_after c.self.inside.changes)) c.set.ensures ∙ written c.self.inside.changes c.self.inside.found c.args.i c.args.known
    ∙ ap (λ row. slice_set row c.args.i c.args.known) c.self.view_is
