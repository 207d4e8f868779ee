-- The list that a part of a change gives its vehicle.
use Rattle.std.specs.Prelude.{ℕ, List}
use Rattle.vr_routes.specs.Pieces.{joined, part_at}
use Rattle.vr_costfilter.specs.declared.parts_after.PartAfter.{PartAfter}

-- the vehicle
abbrev pub vehicle_after : PartAfter → ℕ
vehicle_after part = (part_at part.change.now part.k).vehicle

-- the list
abbrev pub list_after : PartAfter → List ℕ
list_after part = joined part.routes.now.lists (part_at part.change.now part.k).pieces
