use Rattle.std.proofs.Common.{◌≡◌, take}
use Rattle.vr_costfilter.specs.GlobalCosts.{vehicles_of}
use Rattle.vr_costfilter.proofs.reaches.vehicles_of.Given as goal

-- the vehicles of the parts so far
abbrev pub invariant-loop-k : goal.invariant-loop-k
invariant-loop-k l = l.vehicles.items ≡ vehicles_of (take l.k l.change)
