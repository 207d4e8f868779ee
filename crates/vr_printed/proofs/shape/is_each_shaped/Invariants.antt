use Rattle.std.proofs.Common.{◌≡◌, length}
use Rattle.std.specs.List.{list_all}
use Rattle.vr_model.specs.tables.Numbers.{below, from_to}
use Rattle.vr_printed.specs.Shape.{is_shaped_at}
use Rattle.vr_printed.proofs.shape.is_each_shaped.Given as goal

abbrev pub invariant-loop-v : goal.invariant-loop-v
invariant-loop-v l = list_all (is_shaped_at l.model l.routes) (from_to l.v (length l.routes))
    ≡ list_all (is_shaped_at l.model l.routes) (below (length l.routes))
