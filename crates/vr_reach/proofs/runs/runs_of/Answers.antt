use Rattle.std.proofs.Common.{◌∙◌, ◌<◌, ◌≤◌, ◌∷◌, [], ℕ, length, get_or, ap, sym, subst, arith}
use Rattle.std.specs.Prelude.{is_some}
use Rattle.std.proofs.lemmas.List.{length-append}
use Rattle.vr_spans.specs.declared.runs.Run.{Run}
use Rattle.vr_reach.specs.VisitRuns.{IsRunOf}
use Rattle.vr_reach.proofs.RunLemmas.{run_more, singles_end, singles_more, singles_stop}
use Rattle.vr_reach.proofs.runs.runs_of.Goals as goal

pub loop-k-preserved : goal.loop-k-preserved
loop-k-preserved c =
    let sets = c.args.sets.now in
    let before = c.loop-k.runs in
    let run = c.in-Some.run' in
    let n = length-append before (run ∷ []) in
    let long = c.loop-k.invariant.one_of_each in
    record {
      one_of_each = ap length c.in_ok-push.ensures.ok ∙ omega (arith, n, long);
      each = subst (λ runs. (j : ℕ) (other : Run) → j < length runs → IsRunOf (get_or sets j []) (get_or runs j other)) (sym c.in_ok-push.ensures.ok)
          (run_more sets before c.loop-k.k run long c.loop-k.invariant.each
          (subst (λ set. IsRunOf set run) (sym (c.get.ensures.value [])) c.in-Some.ensures.run));
      single = singles_more sets c.loop-k.k c.get.result.now (omega arith) (c.get.ensures.value []) c.loop-k.invariant.single (sym c.in-Some.ensures.known);
    }

pub returns-in_default : goal.returns-in_default
returns-in_default c =
    record {
      runs = tt;
      known = sym (singles_stop c.args.sets.now c.loop-k.k c.get.result.now (omega arith)
          (c.get.ensures.value []) (sym c.run_of.ensures.known ∙ ap is_some c.in_default.is));
    }

pub returns : goal.returns
returns c =
    let sets = c.args.sets.now in
    let high : length sets ≤ c.loop-k.k = (let done = c.loop-k-test.false in let n = c.len-k-end.ensures in omega (arith, done, n)) in
    record {
      runs = record {
        one_of_each = (let long = c.loop-k.invariant.one_of_each in
            let n = c.loop-k.auto.k-end in
            let m = c.len-k-end.ensures in
            omega (arith, long, n, m, high));
        each = λ k other low. c.loop-k.invariant.each k other (let long = c.loop-k.invariant.one_of_each in omega (arith, low, long, high));
      };
      known = sym (singles_end sets c.loop-k.k high c.loop-k.invariant.single);
    }
