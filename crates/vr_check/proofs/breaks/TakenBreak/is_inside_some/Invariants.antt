use Rattle.std.proofs.Common.{◌≡◌, length}
use Rattle.std.specs.List.{list_any}
use Rattle.vr_model.specs.tables.Numbers.{below, from_to}
use Rattle.vr_model.specs.schedules.Schedules.{is_inside}
use Rattle.vr_check.specs.Asked.{asked_line}
use Rattle.vr_check.specs.Breaks.{plan_of_taken}
use Rattle.vr_check.proofs.breaks.TakenBreak.is_inside_some.Given as goal

abbrev pub invariant-loop-k : goal.invariant-loop-k
invariant-loop-k l =
    list_any (is_inside (asked_line l.self.taken.of.asked) (plan_of_taken l.self.taken) l.self.i) (from_to l.k (length (asked_line l.self.taken.of.asked).arcs))
    ≡ list_any (is_inside (asked_line l.self.taken.of.asked) (plan_of_taken l.self.taken) l.self.i) (below (length (asked_line l.self.taken.of.asked).arcs))
