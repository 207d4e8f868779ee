use Rattle.std.proofs.Common.{◌≡◌, map, take}
use Rattle.vr_printed.specs.Printed.{visits_of}
use Rattle.vr_printed.proofs.lists.printed_lists.Given as goal

abbrev pub invariant-loop-route : goal.invariant-loop-route
invariant-loop-route l = l.lists ≡ map visits_of (take l.route-index l.routes)
