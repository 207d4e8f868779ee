use Rattle.std.proofs.Common.{◌≡◌, ◌∙◌, ap, sym, subst, length}
use Rattle.std.specs.Prelude.{◌==◌, OnOk}
use Rattle.vr_model.specs.routes.Routes.{holds, is_active}
use Rattle.vr_routes.specs.Seats.{IsOnce, IsSeat}
use Rattle.vr_ruin.specs.Cuttings.{ruined_of}
use Rattle.vr_ruin.proofs.CuttingLemmas.{in_none, is_cut_now, was_cut}
use Rattle.vr_ruin.proofs.cutting.cut_at.Goals as goal

pub returns-in-None-clause-value : goal.returns-in-None-clause-value
returns-in-None-clause-value c =
    let t = c.args.trial.now in
    let state = ruined_of t.lists c.args.cut.now.items c.args.words.now in
    let more = sym (c.is_enough.ensures ∙ ap (λ xs. length xs == c.args.size.count) c.deref.ensures.value) ∙ c.if-is_enough.false in
    in_none t.model c.args.size.longest c.args.size.count c.args.visit state more
    (ap (λ ls. is_active ls c.args.visit) (sym c.routes-routes.ensures.lists) ∙ c.in-None.ensures)

pub returns-then-is_cut-clause-value : goal.returns-then-is_cut-clause-value
returns-then-is_cut-clause-value c =
    let t = c.args.trial.now in
    let v = c.in-Some.seat.vehicle in
    let state = ruined_of t.lists c.args.cut.now.items c.args.words.now in
    let more = sym (c.is_enough.ensures ∙ ap (λ xs. length xs == c.args.size.count) c.deref.ensures.value) ∙ c.if-is_enough.false in
    was_cut t.model c.args.size.longest c.args.size.count c.args.visit state more v
    c.in-Some.seat.place (subst IsOnce c.routes-routes.ensures.lists c.know_once.ensures)
    (subst (λ ls. IsSeat ls c.args.visit v c.in-Some.seat.place) c.routes-routes.ensures.lists c.in-Some.ensures)
    (sym (c.is_cut.ensures ∙ ap (λ xs. holds xs v) c.deref-in-Some.ensures.value) ∙ c.if-is_cut.true)

pub returns-else-is_cut-clause-value : goal.returns-else-is_cut-clause-value
returns-else-is_cut-clause-value c =
    let t = c.args.trial.now in
    let v = c.in-Some.seat.vehicle in
    let state = ruined_of t.lists c.args.cut.now.items c.args.words.now in
    let more = sym (c.is_enough.ensures ∙ ap (λ xs. length xs == c.args.size.count) c.deref.ensures.value) ∙ c.if-is_enough.false in
    subst (λ after. OnOk c.cut_at_seat.result (ruined_of c.cut_at_seat.new.trial.lists c.cut_at_seat.new.cut.items c.cut_at_seat.new.words ≡ after))
    (is_cut_now t.model c.args.size.longest c.args.size.count c.args.visit state more v
    c.in-Some.seat.place (subst IsOnce c.routes-routes.ensures.lists c.know_once.ensures)
    (subst (λ ls. IsSeat ls c.args.visit v c.in-Some.seat.place) c.routes-routes.ensures.lists c.in-Some.ensures)
    (sym (c.is_cut.ensures ∙ ap (λ xs. holds xs v) c.deref-in-Some.ensures.value) ∙ c.if-is_cut.false)) c.cut_at_seat.ensures.value
