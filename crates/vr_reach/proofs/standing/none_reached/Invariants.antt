use Rattle.std.proofs.Common.{◌≡◌, true, take}
use Rattle.std.specs.List.{list_all}
use Rattle.vr_model.specs.routes.Routes.{is_empty}
use Rattle.vr_reach.proofs.standing.none_reached.Given as goal

-- the sets so far are empty
abbrev pub invariant-loop-b : goal.invariant-loop-b
invariant-loop-b l = list_all is_empty (take l.b l.levels) ≡ true
