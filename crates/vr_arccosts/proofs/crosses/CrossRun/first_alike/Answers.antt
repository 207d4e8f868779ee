use Rattle.std.proofs.Common.{◌≡◌, ℕ, List, inl, inr, subst, arith}
use Rattle.std.specs.Prelude.{ℤ, ◌≤ℤ◌}
use Rattle.std.proofs.lemmas.Int.{ints}
use Rattle.std.proofs.lemmas.Bool.{cases_lt}
use Rattle.vr_model.specs.declared.neighbours.Move.TheVariants.{Cross}
use Rattle.vr_arccosts.specs.ArcMoves.{arcs_added}
use Rattle.vr_arccosts.specs.Runs.{AddsNoLess}
use Rattle.vr_arccosts.proofs.crosses.CrossRun.first_alike.Goals as goal

pub returns-clause-no_less : goal.returns-clause-no_less
returns-clause-no_less c b low high =
    let run = c.args.self.now in
    let model = run.lists.kept.now.model in
    let lists : List (List ℕ) = run.lists.routes.now.lists in
    let n = c.len-n.result in
    let left = c.ending.ensures in
    let from = left.from in
    let past = c.if-b-n.false in
    elim (cases_lt b n) [
      | inl less ↦ subst (λ (d : ℤ). AddsNoLess model lists (Cross run.v run.a run.w b) d) left.bound
          (c.first_left-b.ensures.no_less b (omega (arith, from, low)) (omega (arith, less, past)))
      | inr more ↦ (
          let many = c.len-n.ensures.value in
          let places = run.places in
          let none = c.if-self-gt0.false in
          let last : n ≡ b = omega (arith, many, places, high, more) in
          let empty : 0 ≡ run.a = omega (arith, none) in
          let one = c.crossed.ensures in
          let no = c.if-crossed-asked.false in
          λ _. subst (λ a. run.asked.bound ≤ℤ arcs_added model lists (Cross run.v a run.w b)) empty
          (subst (λ m. run.asked.bound ≤ℤ arcs_added model lists (Cross run.v 0 run.w m))
          last (omega (arith, ints, one.exact, one.range.low, one.range.high, no))))
    ]
