use Rattle.std.proofs.Common.{◌∙◌, ◌<◌, ◌∷◌, [], cond, length, ap, sym, subst}
use Rattle.vr_routes.specs.Pieces.{ListAfter, part_at}
use Rattle.vr_routes.proofs.PartLemmas.{second_part}
use Rattle.vr_routes.proofs.changes.Change.part.Goals as goal

pub returns-then-k-eq0 : goal.returns-then-k-eq0
returns-then-k-eq0 c =
    let f : ListAfter = c.self.inside.first in
    let s : ListAfter = c.self.inside.second in
    sym (sym (ap (λ parts. part_at parts c.args.k) c.self.view_is) ∙ ap (part_at (f ∷ cond c.self.inside.has_second (s ∷ []) [])) c.if-k-eq0.true)

pub returns-else-k-eq0 : goal.returns-else-k-eq0
returns-else-k-eq0 c =
    let f : ListAfter = c.self.inside.first in
    let s : ListAfter = c.self.inside.second in
    sym (sym (ap (λ parts. part_at parts c.args.k) c.self.view_is)
    ∙ second_part f s c.self.inside.has_second c.args.k (subst (λ parts. c.args.k < length parts) (sym c.self.view_is) c.requires.part) c.if-k-eq0.false)
