use Rattle.std.proofs.Common.{◌∙◌, ap, subst, length}
use Rattle.vr_model.specs.routes.Routes.{route}
use Rattle.vr_routes.specs.Seats.{IsOnce}
use Rattle.vr_ruin.proofs.CuttingLemmas.{cut_in_is, place_is}
use Rattle.vr_ruin.proofs.cutting.cut_at_seat.Goals as goal

pub returns-clause-value : goal.returns-clause-value
returns-clause-value c =
    let t = c.args.trial.now in
    let v = c.args.seat.vehicle in
    cut_in_is t.model c.args.longest c.args.visit v t.lists c.args.cut.now.items c.args.words.now c.cut.new.self.lists
    c.insert.new.self.items c.draw_string-string.new.words c.draw_string-string.result c.len-n.result c.args.seat.place
    c.in_ok-cut.ensures.lists c.in_ok-insert.ensures.items c.draw_string-string.ensures.value
    (c.len-n.ensures.value ∙ ap (λ ls. length (route ls v)) c.routes-routes.ensures.lists)
    (place_is t.lists c.args.visit v c.args.seat.place (subst IsOnce c.routes-routes.ensures.lists c.know_once.ensures) c.requires.seat)
