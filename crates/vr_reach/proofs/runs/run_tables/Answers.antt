use Rattle.std.proofs.Common.{◌∙◌, ◌<◌, ◌∷◌, [], ℕ, List, Option, length, get_or, ap, sym, subst, arith}
use Rattle.std.proofs.lemmas.List.{length-append}
use Rattle.vr_spans.specs.declared.runs.Run.{Run}
use Rattle.vr_reach.specs.VisitRuns.{AreKnownRuns}
use Rattle.vr_reach.proofs.RunLemmas.{table_more}
use Rattle.vr_reach.proofs.runs.run_tables.Goals as goal

pub loop-k-preserved : goal.loop-k-preserved
loop-k-preserved c =
    let tables = c.args.tables.now in
    let before = c.loop-k.found in
    let new = c.in_ok-runs_of.field-0 in
    let n = length-append before (new ∷ []) in
    let long = c.loop-k.invariant.one_of_each in
    record {
      one_of_each = ap length c.in_ok-push.ensures.ok ∙ omega (arith, n, long);
      each = subst (λ found. (j : ℕ) (other : Option (List Run)) → j < length found → AreKnownRuns (get_or tables j []) (get_or found j other))
          (sym c.in_ok-push.ensures.ok)
          (table_more tables before c.loop-k.k new long c.loop-k.invariant.each
          (subst (λ sets. AreKnownRuns sets new) (sym (c.get.ensures.value [])) c.in_ok-runs_of.ensures));
    }
