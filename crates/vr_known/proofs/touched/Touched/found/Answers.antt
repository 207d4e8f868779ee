use Rattle.std.proofs.Common.{sym, subst}
use Rattle.vr_known.specs.Touching.{AreFound}
use Rattle.vr_known.proofs.touched.Touched.found.Goals as goal

pub returns-in-RelocatePair : goal.returns-in-RelocatePair
returns-in-RelocatePair c =
    let at = c.in-RelocatePair in
    subst (λ mv. AreFound c.args.model.now c.args.routes.now.lists mv c.put_elsewhere.result) (sym at.is) (c.put_elsewhere.ensures at.s at.t)
