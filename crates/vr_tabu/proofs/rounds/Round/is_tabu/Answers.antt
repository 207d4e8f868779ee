use Rattle.vr_model.proofs.routes.Lists.{are-lists}
use Rattle.vr_tabu.proofs.rounds.Round.is_tabu.Goals as goal

pub invariant_of-lists : goal.invariant_of-lists
invariant_of-lists c =
    record {
      before = are-lists c.args.self.now.model.now c.args.self.now.routes.now.lists c.args.self.now.known.valid;
      after = c.requires.lists;
    }
