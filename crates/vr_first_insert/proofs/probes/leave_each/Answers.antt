use Rattle.std.proofs.Common.{◌∙◌, ◌+◌, ℕ, List, arith}
use Rattle.std.proofs.lemmas.List.{length-set}
use Rattle.vr_spans.specs.declared.runs.Run.{Run}
use Rattle.vr_rules.proofs.FrontLemmas.{moved_more}
use Rattle.vr_reach.specs.Standing.{IsReachedAt}
use Rattle.vr_first_insert.proofs.probes.leave_each.Goals as goal

pub loop-d-preserved : goal.loop-d-preserved
loop-d-preserved c =
    let m = c.loop-d.invariant in
    let here = c.loop-d.probes.here.items in
    let new = c.leave_rows.new.here in
    let P = λ (d : ℕ) (levels : List (List Run)). IsReachedAt c.args.old.now.lookups.now.closed.model.now
    d c.args.old.now.vehicle c.args.new.now (c.args.front + 1) levels in
    record {
      long = length-set here c.loop-d.d new ∙ m.long;
      done = λ d other low lt. moved_more P here c.loop-d.d new
          (omega (arith, m.long, c.requires.enough, c.loop-d-test.true)) m.done c.in_ok-leave_rows.ensures d other low lt;
    }
