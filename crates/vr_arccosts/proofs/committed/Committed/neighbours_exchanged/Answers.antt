use Rattle.std.proofs.Common.{◌∙◌}
use Rattle.vr_arccosts.proofs.AddedLemmas.{list-read, neighbours-add}
use Rattle.vr_arccosts.proofs.committed.Committed.neighbours_exchanged.Goals as goal

pub returns-clause-exact : goal.returns-clause-exact
returns-clause-exact c =
    let a = c.args in
    list-read c.between_adds.ensures.range
    (c.between_adds.ensures.value ∙ neighbours-add a.self.kept.now.model a.self.routes.now.lists a.v a.a c.requires.is_one)
