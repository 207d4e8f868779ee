use Rattle.std.proofs.Common.{◌∙◌, ap}
use Rattle.std.specs.List.{list_all}
use Rattle.vr_model.specs.routes.Routes.{is_distinct}
use Rattle.vr_model.specs.tables.Tables.{is_visit}
use Rattle.vr_model.proofs.routes.Lists.{route-visits, route-distinct}
use Rattle.vr_bench.proofs.schedules.first_line.Goals as goal

pub build-requires-clause-visits : goal.build-requires-clause-visits
build-requires-clause-visits c =
    ap (list_all (is_visit c.args.closed.model.now)) c.list.ensures.value
    ∙ route-visits c.args.closed.model.now c.args.routes.now.lists 0 c.requires

pub build-requires-clause-distinct : goal.build-requires-clause-distinct
build-requires-clause-distinct c =
    ap is_distinct c.list.ensures.value
    ∙ route-distinct c.args.closed.model.now c.args.routes.now.lists 0 c.requires
