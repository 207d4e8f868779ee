use Rattle.std.proofs.Common.{◌≡◌, length}
use Rattle.std.specs.List.{list_all}
use Rattle.vr_model.specs.tables.Numbers.{from_to}
use Rattle.vr_model.specs.tables.Tables.{dimension_at}
use Rattle.vr_ruin.specs.Timeless.{costs_no_time, is_timeless}
use Rattle.vr_ruin.proofs.asking.is_timeless.Given as goal

-- no schedules cost anything in the dimensions that are left exactly if they cost nothing in any
abbrev pub invariant-loop-d : goal.invariant-loop-d
invariant-loop-d l = list_all (λ d. costs_no_time (dimension_at l.lookups.closed.model.now d)) (from_to l.d (length l.lookups.closed.model.now.dimensions))
    ≡ is_timeless l.lookups.closed.model.now
