use Rattle.std.proofs.Common.{subst, arith}
use Rattle.std.specs.Prelude.{IfSome}
use Rattle.std.proofs.lemmas.Int.{ints}
use Rattle.vr_span.specs.Pieces.{BeginsInHorizon}
use Rattle.vr_span.proofs.ShortLemmas.{shorter_is, shorter_not}
use Rattle.vr_span.proofs.shortest.shorter.Goals.{In-Some}
use Rattle.vr_span.proofs.shortest.shorter.Goals as goal

-- the ends of the other piece
theirs : (c : In-Some) → BeginsInHorizon c.in-Some.other
theirs c = subst (λ found. IfSome found BeginsInHorizon) c.in-Some.is c.requires.behind

pub returns-then-other-piece : goal.returns-then-other-piece
returns-then-other-piece c =
    let mine = c.requires.piece in
    let other = theirs (goal.at.returns-then-other-piece c).In-Some in
    let test = c.if-other-piece.true in
    shorter_is c.args.piece c.args.behind c.in-Some.other c.in-Some.is (omega (arith, ints, test, mine.cumul, mine.start, other.cumul, other.start))

pub returns-else-other-piece : goal.returns-else-other-piece
returns-else-other-piece c =
    let mine = c.requires.piece in
    let other = theirs (goal.at.returns-else-other-piece c).In-Some in
    let test = c.if-other-piece.false in
    shorter_not c.args.piece c.args.behind c.in-Some.other c.in-Some.is (omega (arith, ints, test, mine.cumul, mine.start, other.cumul, other.start))
