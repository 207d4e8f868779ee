use Rattle.std.proofs.Common.{◌≡◌, take}
use Rattle.std.specs.Prelude.{◌+ℤ◌}
use Rattle.vr_model.specs.tables.Numbers.{total_by}
use Rattle.vr_model.specs.tables.Tables.{vehicle_at}
use Rattle.vr_loads.specs.Loads.{taken}
use Rattle.vr_ruin.proofs.carrying.load_along.Given as goal

-- what is taken at the start and at the visits so far
abbrev pub invariant-loop-k : goal.invariant-loop-k
invariant-loop-k l = l.load ≡ taken l.list.closed.model.now l.d l.list.vehicle (vehicle_at l.list.closed.model.now l.list.vehicle).start
    +ℤ total_by (taken l.list.closed.model.now l.d l.list.vehicle) (take l.k l.nodes)
