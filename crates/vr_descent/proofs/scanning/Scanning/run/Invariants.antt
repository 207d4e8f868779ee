use Rattle.std.proofs.Common.{◌≡◌, ◌≤◌, ◌<◌, ◌^◌, length}
use Rattle.std.specs.Prelude.{true}
use Rattle.std.specs.List.{list_all}
use Rattle.vr_model.specs.moves.Moves.{moves}
use Rattle.vr_model.specs.moves.MoveTests.{is_move}
use Rattle.vr_model.specs.search.Scans.{scan_from, scan}
use Rattle.vr_descent.specs.Asking.{AsksFor, Keeps}
use Rattle.vr_descent.specs.Scanned.{is_acceptable}
use Rattle.vr_descent.proofs.scanning.Scanning.run.Given as goal

-- the scan of the moves that are left, behind those tried, ends as the scan of all
abbrev pub invariant-loop-mv : goal.invariant-loop-mv
invariant-loop-mv g l = record {
  fits : l.self.rest < 2 ^ 64;
  keeps : Keeps g.J.Judge.model g.J.Judge.committed l.self.routes.now l.initial.judge l.judge;
  asked : AsksFor g.J.Judge.asked g.J.Judge.looked l.initial.judge l.judge l.place;
  within : l.place ≤ l.self.rest;
  ends : scan_from l.place (is_acceptable l.closed.model.now (g.A.Accept.takes l.self.accept.now) l.self.routes.now.lists) l.self.rest l.list
      ≡ scan (moves l.closed.model.now l.self.routes.now.lists)
      (is_acceptable l.closed.model.now (g.A.Accept.takes l.self.accept.now) l.self.routes.now.lists) l.self.rest;
  moves : list_all (is_move l.closed.model.now l.self.routes.now.lists) l.list ≡ true;
}

abbrev pub decreases-loop-mv : goal.decreases-loop-mv
decreases-loop-mv g l = length l.list
