use Rattle.std.proofs.Common.{◌∙◌, ap, sym, subst, length}
use Rattle.std.proofs.lemmas.Result.{on_ok_weaker}
use Rattle.vr_rules.specs.Placing.{AreBuilt, AreMarks}
use Rattle.vr_rules.proofs.PlacingLemmas.{AreBuilt-empty, AreMarks-empty}
use Rattle.vr_first_arc.specs.Choices.{all_filled}
use Rattle.vr_first_arc.proofs.solution.fill_empty.Goals as goal

pub fill_all-requires-clause-built : goal.fill_all-requires-clause-built
fill_all-requires-clause-built c =
    subst (AreBuilt c.args.lookups.now.closed.model.now) (sym c.requires.empty) (AreBuilt-empty c.args.lookups.now.closed.model.now)

pub fill_all-requires-clause-marks : goal.fill_all-requires-clause-marks
fill_all-requires-clause-marks c =
    let model = c.args.lookups.now.closed.model.now in
    subst (λ lists. AreMarks model.nodes lists c.deref_mut.result.now) (sym c.requires.empty)
    (AreMarks-empty model c.deref_mut.result.now (c.deref_mut.ensures.value ∙ c.in_ok-marks.ensures.items_if_clones_equal (λ y e. e)))

pub returns-clause-lists : goal.returns-clause-lists
returns-clause-lists c =
    let model = c.args.lookups.now.closed.model.now in
    on_ok_weaker c.fill_all.result (λ filled. filled ∙ ap (all_filled model (length model.vehicles)) c.requires.empty) c.fill_all.ensures.filled
