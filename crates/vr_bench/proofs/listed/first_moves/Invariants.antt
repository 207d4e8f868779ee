use Rattle.std.proofs.Common.{All}
use Rattle.std.specs.Prelude.{IsTrue}
use Rattle.vr_model.specs.moves.MoveTests.{is_move}
use Rattle.vr_bench.proofs.listed.first_moves.Given as goal

abbrev pub invariant-loop-mv : goal.invariant-loop-mv
invariant-loop-mv l = All (λ mv. IsTrue (is_move l.closed.model.now l.routes.lists mv)) l.kept.items
