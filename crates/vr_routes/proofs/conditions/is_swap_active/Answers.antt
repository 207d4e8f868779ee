use Rattle.std.proofs.Common.{arith}
use Rattle.vr_routes.proofs.conditions.is_swap_active.Goals as goal

pub returns-then-a-len : goal.returns-then-a-len
returns-then-a-len c model same = let e = c.is_inactive.ensures model same in grind (arith, e)
