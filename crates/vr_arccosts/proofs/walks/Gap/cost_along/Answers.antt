use Rattle.std.proofs.Common.{◌≡◌, ◌∙◌, ℕ, List, cond, take, drop, ap, sym, arith}
use Rattle.std.proofs.lemmas.Int.{ints}
use Rattle.std.specs.Prelude.{pos, ◌+ℤ◌}
use Rattle.vr_model.specs.tables.Tables.{arc_cost, vehicle_at}
use Rattle.vr_model.specs.routes.Routes.{route}
use Rattle.vr_routes.specs.Pieces.{joined}
use Rattle.vr_balance.specs.Sums.{last_of, path_sum}
use Rattle.vr_arccosts.specs.Chains.{first_node_or}
use Rattle.vr_arccosts.proofs.walks.Gap.cost_along.Goals as goal

pub is_left_empty-requires : goal.is_left_empty-requires
is_left_empty-requires c =
    let of = c.args.self.now.of in
    let there = of.costs.now.there in
    let many = of.have.as_many in
    record {
      vehicle = omega (arith, there, many);
      order = c.args.self.now.order;
      high = c.args.self.now.place;
      within = c.requires.within;
      few = c.requires.few;
    }

pub returns-then-is_left_empty-clause-value : goal.returns-then-is_left_empty-clause-value
returns-then-is_left_empty-clause-value c =
    let list : List ℕ = route c.args.self.now.of.routes.now.lists c.args.self.now.of.costs.now.vehicle in
    let nodes : List ℕ = joined c.args.self.now.of.routes.now.lists c.args.pieces.now in
    let from = last_of (vehicle_at c.args.self.now.of.costs.now.model.now c.args.self.now.of.costs.now.vehicle).start (take c.args.self.now.front list) in
    let to = first_node_or (drop c.args.self.now.behind list) (vehicle_at c.args.self.now.of.costs.now.model.now c.args.self.now.of.costs.now.vehicle).end in
    let cost = arc_cost c.args.self.now.of.costs.now.model.now c.args.self.now.of.costs.now.vehicle in
    sym (ap (λ b. cond b (pos 0) (path_sum cost from nodes +ℤ cost (last_of from nodes) to)) (sym c.is_left_empty.ensures ∙ c.if-is_left_empty.true))

pub returns-clause-value : goal.returns-clause-value
returns-clause-value c =
    let list : List ℕ = route c.args.self.now.of.routes.now.lists c.args.self.now.of.costs.now.vehicle in
    let nodes : List ℕ = joined c.args.self.now.of.routes.now.lists c.args.pieces.now in
    let from = last_of (vehicle_at c.args.self.now.of.costs.now.model.now c.args.self.now.of.costs.now.vehicle).start (take c.args.self.now.front list) in
    let to = first_node_or (drop c.args.self.now.behind list) (vehicle_at c.args.self.now.of.costs.now.model.now c.args.self.now.of.costs.now.vehicle).end in
    let cost = arc_cost c.args.self.now.of.costs.now.model.now c.args.self.now.of.costs.now.vehicle in
    let whole = ap (λ b. cond b (pos 0) (path_sum cost from nodes +ℤ cost (last_of from nodes) to)) (sym c.is_left_empty.ensures ∙ c.if-is_left_empty.false) in
    let p = c.path_along-path.ensures in
    let before = c.node_before-from.ensures.value in
    let at : last_of c.node_before-from.result nodes ≡ last_of from nodes = ap (λ x. last_of x nodes) before in
    let along : path_sum cost c.node_before-from.result nodes ≡ path_sum cost from nodes = ap (λ x. path_sum cost x nodes) before in
    let arc : cost c.path_along-path.result.at c.node_behind-to.result ≡ cost (last_of from nodes) to = ap (λ x. cost x c.node_behind-to.result) (p.at ∙ at)
    ∙ ap (cost (last_of from nodes)) c.node_behind-to.ensures.value in
    let a = c.cost.ensures in
    omega (arith, ints, p.cost, p.range.low, p.range.high, a.value, a.not_negative, a.bound, along, arc, whole)
