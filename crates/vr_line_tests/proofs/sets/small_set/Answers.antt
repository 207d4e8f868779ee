use Rattle.std.proofs.Common.{◌≡◌, ℤ, pos, sym, ◌∙◌, arith}
use Rattle.std.proofs.lemmas.Int.{ints}
use Rattle.std.proofs.lemmas.Result.{IfOk-weaker}
use Rattle.vr_spans.specs.Runs.{has, StaysWithin}
use Rattle.vr_spans.proofs.Short.{short_numbers}
use Rattle.vr_line_tests.proofs.sets.small_set.Goals as goal

pub returns : goal.returns
returns c = IfOk-weaker c.from_runs.result (λ set. (x : ℤ) → has set x ≡ has c.args.runs.now x) (StaysWithin (pos 0) (pos 2)) (λ set same x is.
    let near = short_numbers c.args.runs.now c.requires x (sym (same x) ∙ is) in
    let low = near.0 in
    let high = near.1 in
    (omega (arith, ints, low, high), omega (arith, ints, low, high))) c.from_runs.ensures.exact
