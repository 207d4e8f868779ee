use Rattle.std.proofs.Common.{subst, sym}
use Rattle.vr_model.specs.moves.Moves.{with_route}
use Rattle.std.specs.Prelude.{slice_set}
use Rattle.vr_loads.specs.Kept.{AreCarried}
use Rattle.vr_loads.proofs.KeptLemmas.{carried-put}
use Rattle.vr_loads.proofs.loads.Loads.put.Goals as goal

pub returns : goal.returns
returns c = λ lists are.
    subst (λ l. AreCarried c.args.model.now c.args.d (with_route lists c.args.v c.args.list.now) (slice_set l c.args.v c.write.new.self)) (sym c.self.view_is)
    (carried-put c.args.model.now c.args.d lists c.args.self.now c.args.v c.args.list.now c.write.new.self are c.requires.kept c.write.ensures)
