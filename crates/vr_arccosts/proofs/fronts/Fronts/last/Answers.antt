use Rattle.std.proofs.Common.{◌∙◌, ℕ, List, take, ap, sym, arith}
use Rattle.vr_model.specs.tables.Tables.{vehicle_at}
use Rattle.vr_model.specs.declared.records.Model.{Model}
use Rattle.vr_balance.specs.Sums.{last_of}
use Rattle.vr_arccosts.proofs.PathLemmas.{last-kept}
use Rattle.vr_arccosts.proofs.fronts.Fronts.last.Goals as goal

pub returns-then-self-eq0-clause-value : goal.returns-then-self-eq0-clause-value
returns-then-self-eq0-clause-value c =
    let w = c.args.self.now.other.now.costs.vehicle in
    let list : List ℕ = c.args.self.now.line.now.list.now in
    c.start.ensures.value ∙ (ap (λ (m : Model). (vehicle_at m w).start) c.args.self.now.same
    ∙ ap (λ n. last_of (vehicle_at c.args.self.now.line.now.costs.model.now w).start (take n list)) (sym c.if-self-eq0.true))

pub returns-clause-value : goal.returns-clause-value
returns-clause-value c =
    let model : Model = c.args.self.now.line.now.costs.model.now in
    let list : List ℕ = c.args.self.now.line.now.list.now in
    let some = c.if-self-eq0.false in
    c.node_before.ensures.value
    ∙ last-kept (vehicle_at model c.args.self.now.line.now.costs.vehicle).start list c.args.self.now.a (omega (arith, some)) c.args.self.now.place
    ∙ sym (last-kept (vehicle_at model c.args.self.now.other.now.costs.vehicle).start list c.args.self.now.a (omega (arith, some)) c.args.self.now.place)
