use Rattle.std.proofs.Common.{◌≡◌, ◌∙◌, ◌+ℤ◌, ℕ, cond, ap, sym, arith, to_z, of_z, w64}
use Rattle.std.proofs.lemmas.Bool.{eq-eqb}
use Rattle.std.proofs.lemmas.Int.{ints}
use Rattle.vr_model.specs.tables.Tables.{arc_cost}
use Rattle.vr_ruin.specs.Increases.{arc_cost_at, detour, node_before, node_after, visit_increase}
use Rattle.vr_ruin.proofs.increase.pair_increase.Goals as goal

pub returns-then-s-t-clause-value : goal.returns-then-s-t-clause-value
returns-then-s-t-clause-value c =
    let model = c.args.list.now.closed.model.now in
    let list = c.args.list.now.nodes.now in
    let v : ℕ = c.args.list.now.vehicle in
    let s : ℕ = c.args.s in
    let fits : to_z w64 (of_z w64 c.together.result) ≡ c.together.result = omega (arith, ints, c.together.ensures.low, c.together.ensures.high) in
    fits ∙ c.together.ensures.value
    ∙ sym (ap (λ b. cond b (arc_cost model v (node_before model v list s) c.args.pickup
    +ℤ detour model v c.args.pickup c.args.delivery (node_after model v list s) (arc_cost_at model v list s))
    (visit_increase model v list c.args.pickup s +ℤ visit_increase model v list c.args.delivery c.args.t)) (eq-eqb s c.args.t c.if-s-t.true))
