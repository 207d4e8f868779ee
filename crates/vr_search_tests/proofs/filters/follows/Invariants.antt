use Rattle.std.proofs.Common.{◌≡◌}
use Rattle.vr_model.specs.tables.Tables.{visits}
use Rattle.vr_search_tests.proofs.filters.follows.Given as goal

abbrev pub ghosts-try_move : goal.ghosts-try_move
ghosts-try_move g a = record { name = a.blank.name; parts = a.blank.parts }

-- the filter stands at the lists so far
abbrev pub invariant-loop-mv : goal.invariant-loop-mv
invariant-loop-mv g l = record {
  of_model : l.routes.visits ≡ visits l.closed.model.now;
  stands : g.F.PathFilter.stands_at l.filter l.routes;
}
