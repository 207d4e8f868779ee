use Rattle.std.proofs.Common.{◌≡◌, length}
use Rattle.std.specs.List.{list_all}
use Rattle.vr_model.specs.tables.Numbers.{below, from_to}
use Rattle.vr_check.specs.Asked.{asked_line}
use Rattle.vr_check.specs.Breaks.{plan_of_taken}
use Rattle.vr_check.specs.Plans.{starts_in_range}
use Rattle.vr_check.proofs.breaks.Taken.all_in_range.Given as goal

abbrev pub invariant-loop-i : goal.invariant-loop-i
invariant-loop-i l =
    list_all (starts_in_range (asked_line l.self.of.asked) (plan_of_taken l.self)) (from_to l.i (length (asked_line l.self.of.asked).breaks))
    ≡ list_all (starts_in_range (asked_line l.self.of.asked) (plan_of_taken l.self)) (below (length (asked_line l.self.of.asked).breaks))
