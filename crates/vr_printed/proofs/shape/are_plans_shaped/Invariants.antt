use Rattle.std.proofs.Common.{◌≡◌, length}
use Rattle.std.specs.List.{list_all}
use Rattle.vr_model.specs.tables.Numbers.{from_to}
use Rattle.vr_printed.specs.Shape.{is_shaped_in, are_plans_shaped}
use Rattle.vr_printed.proofs.shape.are_plans_shaped.Given as goal

abbrev pub invariant-loop-d : goal.invariant-loop-d
invariant-loop-d l = list_all (is_shaped_in l.model l.vehicle l.route) (from_to l.d (length l.model.dimensions)) ≡ are_plans_shaped l.model l.vehicle l.route
