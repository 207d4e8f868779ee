use Rattle.std.proofs.Common.{◌∙◌, ap}
use Rattle.vr_known.proofs.lists.ListsFamily.open.Goals as goal

pub returns : goal.returns
returns g c = c.open.ensures ∙ ap (g.L.OfList.moves c.args.self.now.of c.args.k) c.len.ensures.value
