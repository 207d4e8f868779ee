use Rattle.std.proofs.Common.{◌≡◌, ◌≤◌, ◌+◌, length, true, [], ◌∷◌}
use Rattle.std.specs.Prelude.{IfSome, filter, fold}
use Rattle.std.specs.List.{list_all}
use Rattle.vr_model.specs.first.Choosing.{better}
use Rattle.vr_model.specs.moves.Moves.{apply, moves}
use Rattle.vr_model.specs.moves.MoveTests.{is_move}
use Rattle.vr_model.specs.routes.Costs.{cost}
use Rattle.vr_descent.specs.Asking.{AsksFor, Keeps}
use Rattle.vr_tabu.specs.Rounds.{IsChangeOf, IsDifferenceKnown, move_of}
use Rattle.vr_tabu.specs.Tabus.{tabus_of}
use Rattle.vr_tabu.specs.TabuSearches.{is_candidate, least_candidate}
use Rattle.vr_tabu.proofs.rounds.Round.run_over.Given as goal

-- the least candidate is the best of the moves that are left and the best candidate so far
abbrev pub invariant-loop-mv : goal.invariant-loop-mv
invariant-loop-mv g l = record {
  keeps : Keeps g.J.Judge.model g.J.Judge.committed l.self.routes.now l.initial.judge l.judge;
  asked : AsksFor g.J.Judge.asked g.J.Judge.looked l.initial.judge l.judge l.length;
  within : l.length ≤ l.rest;
  counted : l.length + length l.list ≡ length (moves l.self.model.now l.self.routes.now.lists);
  moves : list_all (is_move l.self.model.now l.self.routes.now.lists) l.list ≡ true;
  known : IfSome l.best (IsDifferenceKnown l.self.model.now l.self.routes.now.lists);
  kept : IfSome l.best (IsChangeOf l.self.model.now l.self.routes.now.lists l.kept);
  left : fold (better (λ mv. cost l.self.model.now (apply l.self.model.now l.self.routes.now.lists mv) ∷ [])) (move_of l.best)
      (filter (is_candidate l.self.model.now (tabus_of l.self.state.now.tabus) l.self.state.now.best.routes.lists l.self.routes.now.lists) l.list)
      ≡ least_candidate l.self.model.now (tabus_of l.self.state.now.tabus) l.self.state.now.best.routes.lists l.self.routes.now.lists;
}

abbrev pub decreases-loop-mv : goal.decreases-loop-mv
decreases-loop-mv g l = length l.list
