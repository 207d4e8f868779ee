use Rattle.std.proofs.Common.{◌≡◌, ◌∙◌, ℕ, List, ap, arith}
use Rattle.std.proofs.lemmas.Int.{ints}
use Rattle.std.specs.Prelude.{slice_range}
use Rattle.vr_model.specs.declared.records.Model.{Model}
use Rattle.vr_arccosts.specs.Along.{between_cost}
use Rattle.vr_arccosts.proofs.fronts.BothFronts.added.Goals as goal

pub returns-clause-value : goal.returns-clause-value
returns-clause-value c =
    let line = c.args.self.now.fronts.line.now.sound in
    let model : Model = c.args.self.now.fronts.line.now.costs.model.now in
    let w = c.args.self.now.fronts.other.now.costs.vehicle in
    let list : List ℕ = c.args.self.now.fronts.line.now.list.now in
    let other : List ℕ = c.args.self.now.fronts.other.now.list.now in
    let got = c.with_front-got.ensures in
    let left = c.with_other-left.ensures in
    let old = c.stretch-old.ensures in
    let gone = c.stretch-other_old.ensures in
    let old-is = old.value model c.args.self.now.fronts.line.now.costs.vehicle list line.sums in
    let gone-is : c.stretch-other_old.result ≡ between_cost model w other 0 c.args.self.now.b (slice_range other 0 c.args.self.now.b) =
    gone.value c.args.self.now.fronts.other.now.costs.model.now w other c.args.self.now.fronts.other.now.sound.sums
    ∙ ap (λ (m : Model). between_cost m w other 0 c.args.self.now.b (slice_range other 0 c.args.self.now.b)) c.args.self.now.fronts.same in
    omega (
      arith,
      ints,
      got.value,
      left.value,
      old-is,
      gone-is,
      got.range.low,
      got.range.high,
      left.range.low,
      left.range.high,
      old.range.at_least,
      old.range.at_most,
      gone.range.at_least,
      gone.range.at_most,
    )
