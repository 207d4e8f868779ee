use Rattle.std.proofs.Common.{arith}
use Rattle.vr_ruin.proofs.places.arc_from.Goals as goal

pub bounds-costs-a : goal.bounds-costs-a
bounds-costs-a c = let many = c.requires.costs.many in let low = c.requires.node in omega (arith, many, low)
