use Rattle.std.proofs.Common.{◌≡◌, ◌∙◌, ℕ, ◌+◌, cond, length, sym, ap, arith}
use Rattle.std.specs.Prelude.{filter}
use Rattle.vr_model.specs.tables.Numbers.{from_to}
use Rattle.vr_known.proofs.NestLemmas.{count_more}
use Rattle.vr_known.proofs.nests.Numbered.many.Goals as goal
use Rattle.vr_known.proofs.nests.Numbered.many.Goals.{then-has, else-has}

pub loop-k-preserved : goal.loop-k-preserved
loop-k-preserved g c =
    let passes = g.Self.Numbered.passes c.args.self.now in
    let k = c.loop-k.k in
    let so_far : ℕ = length (filter passes (from_to c.args.from k)) in
    let low = c.loop-k.invariant.1 in
    let more = count_more passes c.args.from k (omega (arith, low)) in
    elim c.if-has.branch [
      | then-has w ↦ (
          let one : length (filter passes (from_to c.args.from (k + 1))) ≡ so_far + 1 = more
          ∙ ap (λ t. so_far + cond t 1 0) (sym c.has.ensures ∙ w.if-has.true) in
          let is = w.many-is in
          (is ∙ (ap (λ n. n + 1) c.loop-k.invariant.0 ∙ sym one), omega (arith, is, low)))
      | else-has w ↦ (
          let none : length (filter passes (from_to c.args.from (k + 1))) ≡ so_far + 0 = more
          ∙ ap (λ t. so_far + cond t 1 0) (sym c.has.ensures ∙ w.if-has.false) in
          let same : so_far ≡ so_far + 0 = omega arith in
          let is = w.many-is in
          (is ∙ (c.loop-k.invariant.0 ∙ (same ∙ sym none)), omega (arith, is, low)))
    ]
