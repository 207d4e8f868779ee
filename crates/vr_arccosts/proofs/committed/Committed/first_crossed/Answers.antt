use Rattle.std.proofs.Common.{ℕ, List, refl, subst, arith}
use Rattle.std.specs.Prelude.{ℤ}
use Rattle.std.proofs.lemmas.Int.{ints}
use Rattle.vr_model.specs.declared.neighbours.Move.TheVariants.{Cross}
use Rattle.vr_routes.proofs.FactLemmas.{of_cross}
use Rattle.vr_arccosts.specs.Runs.{AddsNoLess}
use Rattle.vr_arccosts.proofs.RunLemmas.{first-or-behind}
use Rattle.vr_arccosts.proofs.committed.Committed.first_crossed.Goals.{else-a-gt0-via-then-a-gt0+else-crossed-asked, else-a-gt0-via-else-a-gt0}
use Rattle.vr_arccosts.proofs.committed.Committed.first_crossed.Goals as goal

pub returns-clause-no_less : goal.returns-clause-no_less
returns-clause-no_less c b low high =
    let model = c.args.self.kept.now.model in
    let lists : List (List ℕ) = c.args.self.routes.now.lists in
    let next = c.starting.ensures in
    first-or-behind (λ n. AddsNoLess model lists (Cross c.args.v c.args.a c.args.w n) c.args.asked.bound) 0 b (omega arith)
    (elim c.else-a-gt0.branch [
      | else-a-gt0-via-then-a-gt0+else-crossed-asked x ↦ (let one = x.crossed.ensures in
          let no = x.if-crossed-asked.false in
          λ _. omega (arith, ints, one.exact, one.range.low, one.range.high, no))
      | else-a-gt0-via-else-a-gt0 x ↦ (let none = x.if-a-gt0.false in
          λ one. absurd ((of_cross model lists c.args.v c.args.a c.args.w 0 one).some (omega (arith, none)) refl))
    ])
    (λ behind. subst (λ (d : ℤ). AddsNoLess model lists (Cross c.args.v c.args.a c.args.w b) d)
    next.bound (c.first-2.ensures.no_less b (let from = next.from in omega (arith, from, behind)) high))
