use Rattle.std.proofs.Common.{◌∙◌, map, ap}
use Rattle.vr_first_insert.specs.Found.{known_after}
use Rattle.vr_first_insert.proofs.RowFacts.{nothing_found}
use Rattle.vr_first_insert.proofs.known_items.KnownItems.with_none.Goals as goal

pub returns : goal.returns
returns c = ap (map (known_after 0)) c.in_ok-found.ensures ∙ nothing_found c.args.count
