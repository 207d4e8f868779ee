use Rattle.std.proofs.Common.{◌≡◌, ℤ, sym, ◌∙◌}
use Rattle.std.proofs.lemmas.Result.{IfOk-weaker}
use Rattle.vr_spans.specs.Runs.{has}
use Rattle.vr_steps.specs.Levels.{IsCumuls}
use Rattle.vr_steps.proofs.SampleLines.{runs_are_cumuls}
use Rattle.vr_bench.proofs.crossing.set_of.Goals as goal

pub returns : goal.returns
returns c = IfOk-weaker c.from_runs.result (λ set. (x : ℤ) → has set x ≡ has c.args.runs.now x) IsCumuls
    (λ set same x is. runs_are_cumuls c.args.runs.now c.requires x (sym (same x) ∙ is)) c.from_runs.ensures.exact
