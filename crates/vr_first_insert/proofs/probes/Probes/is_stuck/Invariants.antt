use Rattle.std.proofs.Common.{◌≡◌, [], length}
use Rattle.std.specs.Prelude.{slice_index_or}
use Rattle.std.specs.List.{list_any}
use Rattle.vr_model.specs.tables.Numbers.{from_to}
use Rattle.vr_reach.specs.Standing.{is_stuck}
use Rattle.vr_first_insert.specs.Probes.{is_stuck_in_some}
use Rattle.vr_first_insert.proofs.probes.Probes.is_stuck.Given as goal

abbrev pub invariant-loop-d : goal.invariant-loop-d
invariant-loop-d l = list_any (λ d. is_stuck (slice_index_or l.self.here.items d [])) (from_to l.d (length l.closed.model.now.dimensions))
    ≡ is_stuck_in_some l.closed.model.now l.self
