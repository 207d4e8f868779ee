use Rattle.std.proofs.Common.{◌≡◌, ◌*◌, pos}
use Rattle.std.specs.Prelude.{◌≤ℤ◌, neg_ℤ}
use Rattle.vr_model.specs.tables.Numbers.{total_by, below}
use Rattle.vr_check.specs.Asked.{asked_line}
use Rattle.vr_check.specs.Breaks.{plan_of_taken, time_inside}
use Rattle.vr_check.proofs.breaks.Taken.time.Given as goal

abbrev pub invariant-loop-i : goal.invariant-loop-i
invariant-loop-i l = record {
  sum : l.total ≡ total_by (time_inside (asked_line l.self.of.asked) (plan_of_taken l.self) l.k) (below l.i);
  low : neg_ℤ (pos (9223372036854775808 * l.i)) ≤ℤ l.total;
  high : l.total ≤ℤ pos (9223372036854775808 * l.i);
}
