use Rattle.std.proofs.Common.{◌∙◌, sym, arith}
use Rattle.vr_reach.proofs.RunLemmas.{not_single, only_run, single}
use Rattle.vr_reach.proofs.runs.run_of.Goals as goal

pub returns-then-runs-gt1-clause-known : goal.returns-then-runs-gt1-clause-known
returns-then-runs-gt1-clause-known c = sym (not_single _ (omega (arith, c.len-runs.ensures.value, c.if-runs-gt1.true)))

pub returns-then-runs-eq1-clause-run : goal.returns-then-runs-eq1-clause-run
returns-then-runs-eq1-clause-run c =
    only_run c.args.set.now c.run.result (sym c.len-runs.ensures.value ∙ c.if-runs-eq1.true) c.run.ensures c.len-runs.ensures.normal

pub returns-then-runs-eq1-clause-known : goal.returns-then-runs-eq1-clause-known
returns-then-runs-eq1-clause-known c = sym (single _ (omega (arith, c.len-runs.ensures.value, c.if-runs-gt1.false)))

pub returns-clause-known : goal.returns-clause-known
returns-clause-known c = sym (single _ (omega (arith, c.len-runs.ensures.value, c.if-runs-gt1.false)))
