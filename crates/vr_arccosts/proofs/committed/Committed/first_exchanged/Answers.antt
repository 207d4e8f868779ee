use Rattle.std.proofs.Common.{ℕ, ◌+◌, List, ap, subst, arith}
use Rattle.std.specs.Prelude.{ℤ}
use Rattle.std.proofs.lemmas.Int.{ints}
use Rattle.vr_model.specs.declared.neighbours.Move.TheVariants.{Exchange}
use Rattle.vr_arccosts.specs.ArcMoves.{arcs_added}
use Rattle.vr_arccosts.specs.Runs.{AddsNoLess}
use Rattle.vr_arccosts.proofs.RunLemmas.{first-or-behind}
use Rattle.vr_arccosts.proofs.committed.Committed.first_exchanged.Goals as goal

pub returns-clause-no_less : goal.returns-clause-no_less
returns-clause-no_less c b low high =
    let run = c.args in
    let model = run.self.kept.now.model in
    let lists : List (List ℕ) = run.self.routes.now.lists in
    let next = c.starting.ensures in
    let from = next.from in
    let after = c.if-asked-a-2.false in
    let one = c.neighbours_exchanged.ensures in
    let no = c.if-neighbours_exchanged-asked.false in
    let same = ap (λ u. arcs_added model lists (Exchange run.v run.a u (run.a + 1))) c.if-v-w.false in
    first-or-behind (λ n. AddsNoLess model lists (Exchange run.v run.a run.w n) run.asked.bound) (run.a + 1) b (omega (arith, after, low))
    (λ _. omega (arith, ints, one.exact, one.range.low, one.range.high, same, no))
    (λ behind. subst (λ (d : ℤ). AddsNoLess model lists (Exchange run.v run.a run.w b) d)
    next.bound (c.first_apart-2.ensures.no_less b (omega (arith, from, behind)) high))
