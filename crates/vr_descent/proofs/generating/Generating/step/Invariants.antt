use Rattle.std.proofs.Common.{◌≡◌, ◌++◌, length}
use Rattle.vr_descent.specs.Listing.{left_in}
use Rattle.vr_model.specs.moves.Moves.{moves_over}
use Rattle.vr_model.specs.tables.Tables.{visits}
use Rattle.vr_model.specs.tables.WellFormed.{IsWellFormed}
use Rattle.vr_known.specs.Passing.{Looked, Passes}
use Rattle.vr_descent.proofs.generating.Generating.step.Given as goal

-- some known moves were passed
abbrev pub invariant-loop-mv : goal.invariant-loop-mv
invariant-loop-mv g l = record {
  well_formed : IsWellFormed l.self-inside.model.now;
  of_model : l.self-inside.routes.now.visits ≡ visits l.self-inside.model.now;
  passes : Passes (g.S.Sieve.covers l.sieve) (left_in l.initial.self-inside.current
      ++ moves_over l.initial.self-inside.model.now l.initial.self-inside.behind.now l.initial.self-inside.routes.now.lists) l.initial.passed
      (left_in l.self-inside.current ++ moves_over l.self-inside.model.now l.self-inside.behind.now l.self-inside.routes.now.lists) l.passed;
  looked : Looked (g.S.Sieve.can_ask l.sieve) g.S.Sieve.judged g.S.Sieve.looked (g.S.Sieve.tries l.sieve) l.initial.judge l.initial.passed l.judge l.passed;
}

abbrev pub decreases-loop-mv : goal.decreases-loop-mv
decreases-loop-mv g l = length l.self-inside.behind.now
