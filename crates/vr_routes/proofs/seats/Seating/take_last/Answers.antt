use Rattle.std.proofs.Common.{◌≡◌, ◌<◌, [], length, sym, subst, ◌∙◌, arith}
use Rattle.std.proofs.lemmas.List.{get_or_default}
use Rattle.vr_model.specs.routes.Routes.{route}
use Rattle.vr_routes.proofs.SeatLemmas.{last_in_range, take_seated}
use Rattle.vr_routes.proofs.seats.Seating.take_last.Goals as goal

pub index_mut-requires-2 : goal.index_mut-requires-2
index_mut-requires-2 c =
    let rows = c.self.inside.rows.items in
    let low : c.args.v < length rows = subst (λ s. c.args.v < length s.lists) (sym c.self.view_is) c.requires.vehicle in
    let row : c.index_mut.result.now ≡ route rows c.args.v = c.index_mut.ensures.value ∙ get_or_default rows c.args.v c.index_mut.result.now [] low in
    let within = last_in_range rows c.self.inside.seats.items c.self.invariant c.args.v c.in_ok-node.node c.pop.new.self low (sym row ∙ c.in_ok-node.ensures) in
    omega (arith, within)

pub invariant_of-self-2 : goal.invariant_of-self-2
invariant_of-self-2 c =
    let rows = c.self.inside.rows.items in
    let low : c.args.v < length rows = subst (λ s. c.args.v < length s.lists) (sym c.self.view_is) c.requires.vehicle in
    let row : c.index_mut.result.now ≡ route rows c.args.v = c.index_mut.ensures.value ∙ get_or_default rows c.args.v c.index_mut.result.now [] low in
    take_seated rows c.self.inside.seats.items c.self.invariant c.args.v c.in_ok-node.node c.pop.new.self low (sym row ∙ c.in_ok-node.ensures)
