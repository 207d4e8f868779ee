use Rattle.std.proofs.Common.{◌≡◌, ◌∙◌, ◌+◌, ◌≤◌, ℕ, List, length, subst, sym, arith}
use Rattle.std.proofs.lemmas.Int.{ints}
use Rattle.std.specs.Prelude.{slice_range}
use Rattle.vr_model.specs.routes.Routes.{route}
use Rattle.vr_model.specs.tables.Tables.{arc_cost}
use Rattle.vr_model.specs.declared.records.Model.{Model}
use Rattle.vr_arccosts.specs.Chains.{chain_sum}
use Rattle.vr_arccosts.proofs.LineLemmas.{line-told}
use Rattle.vr_arccosts.proofs.RunLemmas.{left-adds}
use Rattle.vr_arccosts.proofs.committed.Committed.left_added.Goals as goal

pub returns-clause-value : goal.returns-clause-value
returns-clause-value c =
    let model : Model = c.args.self.kept.now.model in
    let lists : List (List ℕ) = c.args.self.routes.now.lists in
    let v = c.args.v in
    let list : List ℕ = route lists v in
    let line = c.line_of-line.ensures in
    let without = c.between_adds-without.ensures in
    let chain = c.chain-chain.ensures in
    let m = c.line_of-line.result.costs.model.now in
    let n = c.line_of-line.result.costs.vehicle in
    let mine : List ℕ = c.line_of-line.result.list.now in
    let chain-is : c.chain-chain.result ≡ chain_sum (arc_cost model v) (slice_range list c.args.a (c.args.a + c.args.k)) =
    chain.value m n mine c.line_of-line.result.sound.sums (subst (λ (l : List ℕ). c.args.a + c.args.k ≤ length l) (sym line.list) c.requires.place)
    ∙ line-told (λ m n l. chain_sum (arc_cost m n) (slice_range l c.args.a (c.args.a + c.args.k))) line.model line.vehicle line.list in
    let is = left-adds model lists v c.args.a c.args.k c.between_adds-without.result c.chain-chain.result c.requires.place without.value chain-is in
    omega (arith, ints, is, without.range.low, without.range.high, chain.range.at_least, chain.range.at_most)
