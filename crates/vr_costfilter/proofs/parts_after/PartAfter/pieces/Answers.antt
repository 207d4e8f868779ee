use Rattle.std.proofs.Common.{sym, subst}
use Rattle.std.specs.Prelude.{All}
use Rattle.vr_routes.specs.Pieces.{no_part, IsWithin}
use Rattle.vr_costfilter.proofs.parts_after.PartAfter.pieces.Goals as goal

pub returns-clause-within : goal.returns-clause-within
returns-clause-within c =
    let part = c.args.self.now in
    subst (All (IsWithin part.routes.now.lists)) (sym c.pieces.ensures.value) (part.sound.parts_are.each_within part.k no_part part.sound.part)
