use Rattle.std.proofs.Common.{◌≡◌, length}
use Rattle.vr_routes_tests.proofs.changes.all_make.Given as goal

abbrev pub invariant-loop-row : goal.invariant-loop-row
invariant-loop-row l = record {
  visits : l.routes.visits ≡ l.base.visits;
  many : length l.routes.lists ≡ length l.base.lists;
}
