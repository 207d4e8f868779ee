use Rattle.std.proofs.Common.{◌∙◌, ap, sym, subst}
use Rattle.std.specs.Prelude.{IsTrue}
use Rattle.std.specs.List.{list_all}
use Rattle.vr_rules.specs.Placing.{fits_beside, fits_by, has_room, item_nodes}
use Rattle.vr_rules.proofs.PenaltyLemmas.{groups_fit-open}
use Rattle.vr_rules.proofs.PlacingLemmas.{fits_beside-marks}
use Rattle.vr_model.specs.routes.Rules.{is_open}
use Rattle.vr_ruin.proofs.RoomLemmas.{ungrouped-fits}
use Rattle.vr_ruin.proofs.asking.Asker.has_room.Goals as goal

pub groups_have_room-requires-clause-fit : goal.groups_have_room-requires-clause-fit
groups_have_room-requires-clause-fit c =
    let model = c.self.inside.lookups.closed.model.now in
    subst (λ marks. IsTrue (list_all (fits_by marks) model.groups)) (sym c.deref.ensures.value)
    (groups_fit-open model c.self.inside.lookups.closed.well_formed c.args.routes.now.lists c.in_ok-marks.marks.items
    c.in_ok-marks.ensures (ap (λ m. is_open m c.args.routes.now.lists) c.self.view_is ∙ c.requires.are_open))

pub returns-then-not-is_grouped : goal.returns-then-not-is_grouped
returns-then-not-is_grouped c =
    ungrouped-fits c.args.self.now c.args.routes.now.lists (item_nodes c.args.item) c.requires (sym c.is_grouped.ensures ∙ c.if-not-is_grouped.true)

pub returns : goal.returns
returns c =
    let model = c.self.inside.lookups.closed.model.now in
    c.groups_have_room.ensures ∙ ap (λ marks. list_all (has_room marks c.args.item) model.groups) c.deref.ensures.value
    ∙ fits_beside-marks model c.self.inside.lookups.closed.well_formed c.args.routes.now.lists c.in_ok-marks.marks.items c.args.item c.in_ok-marks.ensures
    ∙ ap (λ m. fits_beside m c.args.routes.now.lists (item_nodes c.args.item)) c.self.view_is
