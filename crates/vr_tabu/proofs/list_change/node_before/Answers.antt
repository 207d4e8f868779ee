use Rattle.std.proofs.Common.{sym}
use Rattle.vr_model.specs.routes.Routes.{route}
use Rattle.vr_tabu.proofs.BeforeLemmas.{absent_where_elsewhere, absent_where_inactive, before_none}
use Rattle.vr_tabu.proofs.list_change.node_before.Goals as goal

pub returns-then-seat-v : goal.returns-then-seat-v
returns-then-seat-v c =
    let lists = c.args.routes.now.lists in
    sym (before_none c.args.origin (route lists c.args.v) c.args.visit
    (absent_where_elsewhere lists c.args.visit c.args.v c.in-Some.seat.vehicle c.in-Some.seat.place
    c.know_once.ensures c.in-Some.ensures c.requires.vehicle c.if-seat-v.true))

pub returns-in-None : goal.returns-in-None
returns-in-None c =
    let lists = c.args.routes.now.lists in
    sym (before_none c.args.origin (route lists c.args.v) c.args.visit (absent_where_inactive lists c.args.visit c.args.v c.in-None.ensures c.requires.vehicle))
