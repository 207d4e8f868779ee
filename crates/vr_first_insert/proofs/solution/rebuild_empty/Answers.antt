use Rattle.std.proofs.Common.{◌∙◌, ap, sym, subst, length}
use Rattle.vr_model.specs.first.Items.{items}
use Rattle.vr_model.specs.first.CheapestInsertion.{rebuilt}
use Rattle.vr_rules.specs.Placing.{AreBuilt}
use Rattle.vr_rules.proofs.PlacingLemmas.{AreBuilt-empty}
use Rattle.vr_first_insert.proofs.solution.rebuild_empty.Goals as goal

pub rebuild-requires-clause-built : goal.rebuild-requires-clause-built
rebuild-requires-clause-built c =
    subst (AreBuilt c.args.lookups.now.closed.model.now) (sym c.in_ok-empty.ensures.lists) (AreBuilt-empty c.args.lookups.now.closed.model.now)

pub returns-clause-lists : goal.returns-clause-lists
returns-clause-lists c =
    let model = c.args.lookups.now.closed.model.now in
    c.in_ok-rebuild.ensures.rebuilt ∙ ap (rebuilt model (length (items model))) c.in_ok-empty.ensures.lists
