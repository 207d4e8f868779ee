use Rattle.std.proofs.Common.{◌≡◌, ◌∙◌, length, ap, sym, subst, arith}
use Rattle.vr_model.specs.routes.Rules.{place_of}
use Rattle.vr_routes.specs.Seats.{IsSeat}
use Rattle.vr_pathfilters.proofs.PairLemmas.{found_between, not_between, place_behind, place_elsewhere, place_in_front, place_inactive}
use Rattle.vr_pathfilters.proofs.new_lists.NewList.place.Goals as goal

pub returns-then-is_at : goal.returns-then-is_at
returns-then-is_at c =
    found_between c.self.invariant c.args.node c.mark_of-place.result (sym c.is_at.ensures ∙ c.if-is_at.true) ∙ ap (λ l. place_of l c.args.node) c.self.view_is

pub returns-then-seat-self : goal.returns-then-seat-self
returns-then-seat-self c =
    let none = not_between c.self.invariant c.args.node c.mark_of-place.result c.mark_of-place.ensures (sym c.is_at.ensures ∙ c.if-is_at.false) in
    let other = c.if-seat-self.true in
    c.len-then-seat-self.ensures ∙ (ap length (sym c.self.view_is)
    ∙ (place_elsewhere c.self.invariant c.args.node c.in-Some.seat.vehicle c.in-Some.seat.place none
    c.in-Some.ensures (λ e. absurd (omega (arith, other, e))) ∙ ap (λ l. place_of l c.args.node) c.self.view_is))

pub returns-then-seat-self-2 : goal.returns-then-seat-self-2
returns-then-seat-self-2 c =
    let same : c.in-Some.seat.vehicle ≡ c.self.inside.ends.v = (let kept = c.if-seat-self.false in omega (arith, kept)) in
    let seat = subst (λ w. IsSeat c.self.inside.ends.routes.now.lists c.args.node w c.in-Some.seat.place) same c.in-Some.ensures in
    place_in_front c.self.invariant c.args.node c.in-Some.seat.place seat c.if-seat-self-2.true ∙ ap (λ l. place_of l c.args.node) c.self.view_is

pub returns-then-seat-self-3 : goal.returns-then-seat-self-3
returns-then-seat-self-3 c =
    let none = not_between c.self.invariant c.args.node c.mark_of-place.result c.mark_of-place.ensures (sym c.is_at.ensures ∙ c.if-is_at.false) in
    c.len-then-seat-self-3.ensures ∙ (ap length (sym c.self.view_is)
    ∙ (place_elsewhere c.self.invariant c.args.node c.in-Some.seat.vehicle c.in-Some.seat.place none c.in-Some.ensures
    (λ _. (c.if-seat-self-2.false, c.if-seat-self-3.true)) ∙ ap (λ l. place_of l c.args.node) c.self.view_is))

pub returns-in-None : goal.returns-in-None
returns-in-None c =
    let none = not_between c.self.invariant c.args.node c.mark_of-place.result c.mark_of-place.ensures (sym c.is_at.ensures ∙ c.if-is_at.false) in
    c.len.ensures
    ∙ (ap length (sym c.self.view_is)
    ∙ (place_inactive c.self.invariant c.args.node none c.in-None.ensures ∙ ap (λ l. place_of l c.args.node) c.self.view_is))

pub returns-else-seat-self-3 : goal.returns-else-seat-self-3
returns-else-seat-self-3 c =
    let same : c.in-Some.seat.vehicle ≡ c.self.inside.ends.v = (let kept = c.if-seat-self.false in omega (arith, kept)) in
    let seat = subst (λ w. IsSeat c.self.inside.ends.routes.now.lists c.args.node w c.in-Some.seat.place) same c.in-Some.ensures in
    place_behind c.self.invariant c.args.node c.in-Some.seat.place seat c.if-seat-self-3.false ∙ ap (λ l. place_of l c.args.node) c.self.view_is
