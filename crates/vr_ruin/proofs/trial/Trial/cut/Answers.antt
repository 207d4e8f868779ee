use Rattle.std.proofs.Common.{◌∙◌, ap, length, sym}
use Rattle.vr_rules.proofs.PlacingLemmas.{built-count}
use Rattle.vr_ruin.proofs.trial.Trial.cut.Goals as goal

pub cut_list-requires-clause-room : goal.cut_list-requires-clause-room
cut_list-requires-clause-room c = ap length c.deref_mut-2.ensures.value ∙ c.self.invariant.room_many
    ∙ sym (built-count c.self.inside.asker c.self.inside.routes.lists c.self.invariant.built)
