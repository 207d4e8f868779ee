use Rattle.std.proofs.Common.{◌≡◌, length, subst, sym}
use Rattle.std.specs.Prelude.{IfOk}
use Rattle.vr_model.specs.first.CheapestInsertion.{rebuilt}
use Rattle.vr_model.specs.first.Items.{items}
use Rattle.vr_model.specs.tables.Tables.{visits}
use Rattle.vr_rules.specs.Placing.{AreBuilt}
use Rattle.vr_first_insert.proofs.solution.rebuild.Goals as goal

pub rebuilt_over-requires : goal.rebuilt_over-requires
rebuilt_over-requires c = subst (λ model. AreBuilt model c.args.routes.now.lists)
    (sym c.in_ok-lookups.ensures) (record { are_lists = c.requires.lists; are_open = c.requires.open_lists })

pub returns-clause-lists : goal.returns-clause-lists
returns-clause-lists c = subst (λ model. IfOk c.rebuilt_over.result (λ after. after.lists ≡ rebuilt model (length (items model)) c.args.routes.now.lists))
    c.in_ok-lookups.ensures c.rebuilt_over.ensures.lists

pub returns-clause-visits : goal.returns-clause-visits
returns-clause-visits c =
    subst (λ model. IfOk c.rebuilt_over.result (λ after. after.visits ≡ visits model)) c.in_ok-lookups.ensures c.rebuilt_over.ensures.visits

pub returns-clause-built : goal.returns-clause-built
returns-clause-built c = subst (λ model. IfOk c.rebuilt_over.result (λ after. AreBuilt model after.lists)) c.in_ok-lookups.ensures c.rebuilt_over.ensures.built
