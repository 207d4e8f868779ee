use Rattle.std.proofs.Common.{arith}
use Rattle.vr_routes.proofs.conditions.is_make_active.Goals as goal

pub returns-then-w-vehicles : goal.returns-then-w-vehicles
returns-then-w-vehicles c model same = let e = c.is_inactive.ensures model same in grind (arith, e)

pub returns-else-is_inactive : goal.returns-else-is_inactive
returns-else-is_inactive c model same = let e = c.is_inactive.ensures model same in grind (arith, e)
