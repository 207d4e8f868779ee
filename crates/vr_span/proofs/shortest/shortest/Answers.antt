use Rattle.std.proofs.Common.{◌-◌, sym, subst, pos, arith}
use Rattle.std.specs.Prelude.{IfSome, IsNone}
use Rattle.vr_span.specs.declared.pieces.Piece.{Piece}
use Rattle.vr_span.specs.Pieces.{IsShortest}
use Rattle.vr_span.proofs.ShortLemmas.{all_of_rest, ends_at, ends_of_rest, shortest_none, shortest_some}
use Rattle.vr_span.proofs.shortest.shortest.Goals as goal

abbrev none : Piece
none = record { lo = pos 0; hi = pos 0; first = pos 0; last = pos 0 }

pub shorter-requires-clause-piece : goal.shorter-requires-clause-piece
shorter-requires-clause-piece c =
    let some = c.pieces-test.true in
    let most = c.pieces.invariant.most in
    ends_at (c.pieces.k - 1) c.args.pieces.now none (omega (arith, some, most)) c.requires

pub shorter-requires-clause-behind : goal.shorter-requires-clause-behind
shorter-requires-clause-behind c = ends_of_rest c.pieces.k c.args.pieces.now c.pieces.best c.requires c.pieces.invariant.best

pub returns-clause-some : goal.returns-clause-some
returns-clause-some c =
    let done = c.pieces-test.false in
    let is = all_of_rest c.pieces.k c.args.pieces.now c.pieces.best (omega (arith, done)) c.pieces.invariant.best in
    subst (λ best. IfSome best (IsShortest c.args.pieces.now)) (sym is) (shortest_some c.args.pieces.now c.requires)

pub returns-clause-none : goal.returns-clause-none
returns-clause-none c =
    let done = c.pieces-test.false in
    let is = all_of_rest c.pieces.k c.args.pieces.now c.pieces.best (omega (arith, done)) c.pieces.invariant.best in
    λ nothing. shortest_none c.args.pieces.now (subst IsNone is nothing)
