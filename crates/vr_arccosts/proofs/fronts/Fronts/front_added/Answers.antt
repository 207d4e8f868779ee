use Rattle.std.proofs.Common.{◌≡◌, ◌∙◌, ℕ, List, take, ap, arith}
use Rattle.std.proofs.lemmas.Int.{ints}
use Rattle.std.proofs.lemmas.Slice.{between_from_start}
use Rattle.std.specs.Prelude.{slice_index_or, slice_range}
use Rattle.vr_arccosts.specs.Along.{between_cost}
use Rattle.vr_arccosts.specs.Runs.{front_added}
use Rattle.vr_model.specs.tables.Tables.{arc_cost, vehicle_at}
use Rattle.vr_model.specs.declared.records.Model.{Model}
use Rattle.vr_arccosts.specs.Chains.{chain_sum}
use Rattle.vr_arccosts.proofs.CrossLemmas.{front-cost}
use Rattle.vr_arccosts.proofs.fronts.Fronts.front_added.Goals as goal

pub returns-clause-value : goal.returns-clause-value
returns-clause-value c =
    let line = c.args.self.now.line.now.sound in
    let model : Model = c.args.self.now.line.now.costs.model.now in
    let v = c.args.self.now.line.now.costs.vehicle in
    let w = c.args.self.now.other.now.costs.vehicle in
    let list : List ℕ = c.args.self.now.line.now.list.now in
    let x = slice_index_or list 0 0 in
    let start = (vehicle_at model w).start in
    let same-start : c.start.result ≡ start = c.start.ensures.value ∙ ap (λ (m : Model). (vehicle_at m w).start) c.args.self.now.same in
    let to = c.cost-to.ensures in
    let chain = c.chain-chain.ensures in
    let old = c.stretch-old.ensures in
    let to-is : c.cost-to.result ≡ arc_cost model w start x = to.value
    ∙ (ap (λ (m : Model). arc_cost m w c.start.result x) c.args.self.now.same ∙ ap (λ n. arc_cost model w n x) same-start) in
    let chain-is : c.chain-chain.result ≡ chain_sum (arc_cost model v) (take c.args.self.now.a list) =
    chain.value model v list line.sums c.args.self.now.place ∙ ap (chain_sum (arc_cost model v)) (between_from_start list c.args.self.now.a) in
    let old-is = old.value model v list line.sums in
    let some = c.if-self-eq0.false in
    let front = front-cost model v w c.requires.costs start list c.args.self.now.a (omega (arith, some)) c.args.self.now.place in
    omega (
      arith,
      ints,
      to-is,
      chain-is,
      old-is,
      front,
      to.not_negative,
      to.bound,
      chain.range.at_least,
      chain.range.at_most,
      old.range.at_least,
      old.range.at_most,
    )

pub returns-then-self-eq0-clause-value : goal.returns-then-self-eq0-clause-value
returns-then-self-eq0-clause-value c =
    let line = c.args.self.now.line.now.sound in
    let model : Model = c.args.self.now.line.now.costs.model.now in
    let v = c.args.self.now.line.now.costs.vehicle in
    let w = c.args.self.now.other.now.costs.vehicle in
    let list : List ℕ = c.args.self.now.line.now.list.now in
    let old = c.stretch-old.ensures in
    let old-is = old.value model v list line.sums in
    let none : front_added model v list w c.args.self.now.a ≡ front_added model v list w 0 = ap (front_added model v list w) c.if-self-eq0.true in
    let stretch : between_cost model v list 0 c.args.self.now.a (slice_range list 0 c.args.self.now.a)
    ≡ between_cost model v list 0 0 (slice_range list 0 0) = ap (λ n. between_cost model v list 0 n (slice_range list 0 n)) c.if-self-eq0.true in
    omega (arith, ints, none, stretch, old-is, old.range.at_least, old.range.at_most)
