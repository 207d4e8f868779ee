use Rattle.std.proofs.Common.{◌+◌, subst, sym, arith}
use Rattle.vr_steps.proofs.LineLemmas.{crossing_of}
use Rattle.vr_steps.proofs.LawLemmas.{lines_stand_for_theirs, reached_behind_arc, start_is_reached}
use Rattle.vr_reach.specs.Rows.{IsForwardRow}
use Rattle.vr_reach.proofs.SweepLemmas.{begun, pushed}
use Rattle.vr_reach.proofs.walks.walk_along.Goals as goal

pub loop-k-init : goal.loop-k-init
loop-k-init c = begun lines_stand_for_theirs c.args.line.now c.requires start_is_reached c.get.result.now
    c.start_levels_into.new.out c.get.ensures.value c.in_ok-start_levels_into.ensures.exact c.in_ok-start_levels_into.ensures.levels

pub cross_uncounted-requires : goal.cross_uncounted-requires
cross_uncounted-requires c =
    crossing_of c.args.line.now c.requires c.loop-k.k (c.loop-k.k + 1) (omega arith) (omega (arith, c.requires.stops))
    c.loop-k.here c.loop-k.invariant.form c.get-in-loop-k.result.now (c.get-in-loop-k.ensures.value c.get-in-loop-k.result.now)
    c.get-in-loop-k-2.result.now (c.get-in-loop-k-2.ensures.value c.get-in-loop-k-2.result.now)

pub loop-k-preserved : goal.loop-k-preserved
loop-k-preserved c = subst (IsForwardRow c.args.line.now (c.loop-k.k + 1)) (sym c.swap.ensures.x_after)
    (pushed lines_stand_for_theirs c.args.line.now c.requires reached_behind_arc c.loop-k.k
    c.get-in-loop-k-2.result.now c.get-in-loop-k.result.now c.loop-k.here c.cross_uncounted.new.out (omega arith)
    c.get-in-loop-k-2.ensures.value c.get-in-loop-k.ensures.value c.loop-k.invariant
    c.in_ok-cross_uncounted.ensures.exact c.in_ok-cross_uncounted.ensures.levels)
