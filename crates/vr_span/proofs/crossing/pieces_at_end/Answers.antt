use Rattle.std.proofs.Common.{◌≡◌, ◌+◌, [], length, sym, subst, arith}
use Rattle.vr_steps.specs.Arcs.{IsSoundHop}
use Rattle.vr_steps.specs.Levels.{IsCumuls}
use Rattle.vr_model.proofs.schedules.Crossing.{reached_by_crossing}
use Rattle.vr_model.proofs.schedules.LevelEnds.{reached_at_start}
use Rattle.vr_steps.proofs.LawLemmas.{arc_alone, lines_stand_for_theirs}
use Rattle.vr_span.specs.Pieces.{ArePieces, Arrive}
use Rattle.vr_span.specs.Starts.{AreReachedPiecesAt}
use Rattle.vr_span.proofs.LineLemmas.{begin_at, behind_at}
use Rattle.vr_span.proofs.crossing.pieces_at_end.Goals as goal

pub loop-k-init : goal.loop-k-init
loop-k-init c = record {
  pieces = c.in_ok-begin.ensures.pieces;
  told = begin_at lines_stand_for_theirs c.args.line.now c.requires.sound reached_at_start
      c.get.result.now (c.get.ensures.value []) c.begin.new.out c.in_ok-begin.ensures.exact;
}

pub cross-requires-clause-hop : goal.cross-requires-clause-hop
cross-requires-clause-hop c =
    subst IsSoundHop (c.get-hop.ensures.value c.get-hop.result.now) (c.requires.sound.each_hop c.loop-k.k c.get-hop.result.now (omega arith))

pub cross-requires-clause-next : goal.cross-requires-clause-next
cross-requires-clause-next c =
    subst IsCumuls (c.get-allowed.ensures.value []) (c.requires.sound.cumuls (c.loop-k.k + 1) [] (omega (arith, c.requires.sound.stops)))

pub loop-k-preserved : goal.loop-k-preserved
loop-k-preserved c =
    let line = c.args.line.now in
    let hop = c.get-hop.result.now in
    let set = c.get-allowed.result.now in
    let out = c.cross.new.out in
    let arrive = subst (λ from. Arrive hop from set out) c.as_slice.ensures c.in_ok-cross.ensures.exact in
    record {
      pieces = subst ArePieces (sym c.swap.ensures.x_after) c.in_ok-cross.ensures.pieces;
      told = subst (AreReachedPiecesAt line (c.loop-k.k + 1)) (sym c.swap.ensures.x_after)
          (behind_at lines_stand_for_theirs line c.requires.sound reached_by_crossing arc_alone c.loop-k.k (omega arith) hop
          c.get-hop.ensures.value set (c.get-allowed.ensures.value []) c.loop-k.here out c.loop-k.invariant.told arrive);
    }

pub returns-clause-told : goal.returns-clause-told
returns-clause-told c =
    let all : c.loop-k.k ≡ length c.args.line.now.hops = omega arith in
    subst (λ n. AreReachedPiecesAt c.args.line.now n c.loop-k.here) all c.loop-k.invariant.told
