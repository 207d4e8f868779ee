use Rattle.std.proofs.Common.{◌≡◌, ◌∙◌, [], ap, subst, arith}
use Rattle.std.specs.List.{list_all}
use Rattle.vr_model.specs.tables.Tables.{is_visit}
use Rattle.vr_model.specs.routes.Routes.{route}
use Rattle.vr_rules.specs.Fronts.{AreFrontsOf}
use Rattle.vr_rules.proofs.PlacingLemmas.{built-count, built-visits}
use Rattle.std.proofs.lemmas.List.{get_or_default}
use Rattle.vr_first_arc.proofs.fill.fill_from_start.Goals as goal

pub open-requires-clause-vehicle : goal.open-requires-clause-vehicle
open-requires-clause-vehicle c =
    omega (arith, c.requires.vehicle, built-count c.args.filling.now.lookups.now.closed.model.now c.args.lists.now c.requires.built)

pub open-requires-clause-visits : goal.open-requires-clause-visits
open-requires-clause-visits c =
    let lists = c.args.lists.now in
    let list : c.as_slice-list.result.now ≡ route lists c.args.v = c.as_slice-list.ensures
    ∙ get_or_default lists c.args.v c.index-lists-v.result [] c.requires.vehicle in
    ap (list_all (is_visit c.args.filling.now.lookups.now.closed.model.now)) list
    ∙ built-visits c.args.filling.now.lookups.now.closed.model.now lists c.args.v c.requires.built

pub fill-requires-clause-fronts : goal.fill-requires-clause-fronts
fill-requires-clause-fronts c =
    let lists = c.args.lists.now in
    let list : c.as_slice-list.result.now ≡ route lists c.args.v = c.as_slice-list.ensures
    ∙ get_or_default lists c.args.v c.index-lists-v.result [] c.requires.vehicle in
    subst (λ list. AreFrontsOf c.args.filling.now.lookups.now.closed.model.now c.args.v list c.in_ok-fronts.fronts) list c.in_ok-fronts.ensures
