use Rattle.std.proofs.Common.{◌∙◌}
use Rattle.std.specs.Prelude.{◌==◌}
use Rattle.vr_model.specs.deciding.Testing.{eq_of_test}
use Rattle.vr_model.proofs.tables.Tests.{fails}
use Rattle.vr_routes.proofs.PairLemmas.{apart_first, apart_second, together_tells}
use Rattle.vr_routes.proofs.pairs.pair_places.Goals as goal

pub returns-in-None : goal.returns-in-None
returns-in-None c = apart_first c.args.routes.now.lists c.args.pair.pickup c.args.pair.delivery c.in-None.ensures

pub returns-in-None-seat : goal.returns-in-None-seat
returns-in-None-seat c = apart_second c.args.routes.now.lists c.args.pair.pickup c.args.pair.delivery c.in-None-seat.ensures

pub returns-then-first-second : goal.returns-then-first-second
returns-then-first-second c =
    let a = c.in-Some.first in
    let b = c.in-Some-seat.second in
    together_tells c.args.routes.now.lists c.args.pair.pickup c.args.pair.delivery a.vehicle
    a.place b.vehicle b.place c.know_once.ensures c.in-Some.ensures c.in-Some-seat.ensures
    ∙ fails (a.vehicle == b.vehicle) (λ h. c.if-first-second.true (eq_of_test a.vehicle b.vehicle h))
