use Rattle.std.proofs.Common.{◌∙◌, ap, sym}
use Rattle.std.specs.Prelude.{◌&&◌}
use Rattle.vr_model.specs.deciding.Testing.{test_of_eq}
use Rattle.vr_model.proofs.tables.Tests.{apart}
use Rattle.vr_strings.specs.Strings.{takes_place}
use Rattle.vr_strings.proofs.TakenNodes.{none_taken, seat_taken}
use Rattle.vr_strings.proofs.leaving.is_taken.Goals as goal

pub returns-then-seat-v : goal.returns-then-seat-v
returns-then-seat-v c =
    let seat = c.in-Some.seat in
    c.takes.ensures ∙ sym (ap (λ b. b && takes_place c.args.string seat.place) (test_of_eq seat.vehicle c.args.v c.if-seat-v.true))
    ∙ seat_taken c.args.routes.now.lists c.args.v c.args.string c.args.node c.requires.vehicle
    c.know_once.ensures c.requires.string seat.vehicle seat.place c.in-Some.ensures

pub returns-else-seat-v : goal.returns-else-seat-v
returns-else-seat-v c =
    let seat = c.in-Some.seat in
    let other = apart seat.vehicle c.args.v c.if-seat-v.false in
    other ∙ sym (ap (λ b. b && takes_place c.args.string seat.place) other)
    ∙ seat_taken c.args.routes.now.lists c.args.v c.args.string c.args.node c.requires.vehicle
    c.know_once.ensures c.requires.string seat.vehicle seat.place c.in-Some.ensures

pub returns-in-None : goal.returns-in-None
returns-in-None c = none_taken c.args.routes.now.lists c.args.v c.args.string c.args.node c.requires.vehicle c.requires.string c.in-None.ensures
