use Rattle.std.proofs.Common.{◌≡◌, ◌∙◌, ◌<◌, ℕ, List, length, take, ap, sym, arith}
use Rattle.std.proofs.lemmas.Int.{ints}
use Rattle.vr_model.specs.tables.Tables.{arc_cost, vehicle_at}
use Rattle.vr_model.specs.declared.records.Model.{Model}
use Rattle.vr_balance.specs.Sums.{last_of}
use Rattle.vr_arccosts.specs.Runs.{at_place}
use Rattle.vr_arccosts.proofs.CrossLemmas.{front-gone, front-left}
use Rattle.vr_arccosts.proofs.fronts.BothFronts.with_other.Goals as goal
use Rattle.vr_arccosts.proofs.fronts.BothFronts.with_other.Goals.{else-self-eq0-via-then-self-eq0+else-self-other, else-self-eq0-via-else-self-eq0}

pub returns-then-self-other-clause-value : goal.returns-then-self-other-clause-value
returns-then-self-other-clause-value c =
    sym (front-gone c.args.self.now.fronts.line.now.costs.model.now c.args.self.now.fronts.other.now.costs.vehicle c.args.self.now.fronts.line.now.list.now
    c.args.self.now.fronts.other.now.list.now c.args.self.now.fronts.a c.args.self.now.b c.if-self-eq0.true c.if-self-other.true)

pub returns-clause-value : goal.returns-clause-value
returns-clause-value c =
    let model : Model = c.args.self.now.fronts.line.now.costs.model.now in
    let w = c.args.self.now.fronts.other.now.costs.vehicle in
    let list : List ℕ = c.args.self.now.fronts.line.now.list.now in
    let other : List ℕ = c.args.self.now.fronts.other.now.list.now in
    let low = c.args.self.now.within in
    let some : c.args.self.now.fronts.a ≡ 0 → c.args.self.now.b < length other = λ none. elim c.else-self-eq0.branch [
      | else-self-eq0-via-then-self-eq0+else-self-other x ↦ (let differ = x.if-self-other.false in omega (arith, differ, low))
      | else-self-eq0-via-else-self-eq0 x ↦ absurd (x.if-self-eq0.false none)
    ] in
    let on = c.cost-on.ensures in
    let last = c.last.ensures.value in
    let at : c.node_at.result ≡ at_place model w other c.args.self.now.b = c.node_at.ensures.value
    ∙ ap (λ (m : Model). at_place m w other c.args.self.now.b) c.args.self.now.fronts.same in
    let on-is : c.cost-on.result
    ≡ arc_cost model w (last_of (vehicle_at model w).start (take c.args.self.now.fronts.a list)) (at_place model w other c.args.self.now.b) =
    on.value ∙ (ap (λ (m : Model). arc_cost m w c.last.result c.node_at.result) c.args.self.now.fronts.same
    ∙ (ap (λ n. arc_cost model w n c.node_at.result) last
    ∙ ap (arc_cost model w (last_of (vehicle_at model w).start (take c.args.self.now.fronts.a list))) at)) in
    let is = front-left model w list other c.args.self.now.fronts.a c.args.self.now.b c.args.self.now.fronts.place low some in
    let front = c.args.self.now.front_is in
    let range = c.args.self.now.front_range in
    omega (arith, ints, on-is, is, front, range.low, range.high, on.not_negative, on.bound)
