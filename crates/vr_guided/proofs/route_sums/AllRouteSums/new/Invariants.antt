use Rattle.std.proofs.Common.{◌≡◌, length}
use Rattle.vr_guided.proofs.route_sums.AllRouteSums.new.Given as goal

abbrev pub invariant-loop : goal.invariant-loop
invariant-loop l = record {
  many : length l.vehicles.items ≡ l.counter;
}
