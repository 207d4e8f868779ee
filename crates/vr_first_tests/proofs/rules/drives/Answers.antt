use Rattle.std.proofs.Common.{◌∙◌, ap}
use Rattle.std.specs.List.{list_all}
use Rattle.vr_model.specs.routes.Routes.{is_distinct}
use Rattle.vr_model.specs.tables.Tables.{is_visit}
use Rattle.vr_model.proofs.routes.Lists.{route-visits, route-distinct}
use Rattle.vr_first_tests.proofs.rules.drives.Goals as goal

pub route_open-requires-clause-visits : goal.route_open-requires-clause-visits
route_open-requires-clause-visits c =
    ap (list_all (is_visit c.args.closed.model.now)) c.list.ensures.value
    ∙ route-visits c.args.closed.model.now c.args.routes.now.lists 0 c.requires.lists

pub route_open-requires-clause-distinct : goal.route_open-requires-clause-distinct
route_open-requires-clause-distinct c =
    ap is_distinct c.list.ensures.value
    ∙ route-distinct c.args.closed.model.now c.args.routes.now.lists 0 c.requires.lists
