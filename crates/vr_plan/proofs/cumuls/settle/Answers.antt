use Rattle.std.proofs.Common.{◌≡◌, ◌+◌, pos, to_z, of_z, w64, subst, sym, rules, arith}
use Rattle.std.proofs.lemmas.Int.{ints}
use Rattle.vr_reach.specs.Shared.{IsLeastSharedCumul}
use Rattle.vr_steps.specs.Arcs.{IsSoundHop}
use Rattle.vr_steps.specs.Levels.{IsCumuls}
use Rattle.vr_steps.proofs.LineLemmas.{crossing_of}
use Rattle.vr_model.specs.tables.Numbers.{horizon}
use Rattle.vr_model.specs.tables.WellFormed.{IsIn}
use Rattle.vr_plan.proofs.PinLemmas.{unfeasible_behind, settled_behind, chosen_where_settled, shared_range}
use Rattle.vr_plan.proofs.cumuls.settle.Goals as goal

pub returns-in_default-clause-stops : goal.returns-in_default-clause-stops
returns-in_default-clause-stops c = λ stops.
    unfeasible_behind c.args.sound.line.now c.args.behind.now c.args.sound.sound c.requires.behind
    c.loop-k.k (omega arith) c.loop-k.cumuls c.loop-k.here c.loop-k.invariant.settled
    c.get-allowed.result.now c.get-hop.result.now c.cross_uncounted.new.out c.levels.result.now c.get-allowed.ensures.value c.get-hop.ensures.value
    c.in_ok-cross_uncounted.ensures.exact c.in_ok-cross_uncounted.ensures.levels c.levels.ensures (c.in_default.ensures.none (search rules))

pub keep-requires-clause-allowed : goal.keep-requires-clause-allowed
keep-requires-clause-allowed c = subst IsCumuls (c.get-allowed.ensures.value c.get-allowed.result.now)
    (c.args.sound.sound.cumuls (c.loop-k.k + 1) c.get-allowed.result.now (omega (arith, c.args.sound.sound.stops)))

pub cross_uncounted-requires : goal.cross_uncounted-requires
cross_uncounted-requires c = crossing_of c.args.sound.line.now c.args.sound.sound c.loop-k.k (c.loop-k.k + 1)
    (omega arith) (omega (arith, c.args.sound.sound.stops)) c.loop-k.here c.loop-k.invariant.levels c.get-hop.result.now
    (c.get-hop.ensures.value c.get-hop.result.now) c.get-allowed.result.now (c.get-allowed.ensures.value c.get-allowed.result.now)

pub cross_uncounted-requires-in-loop-k : goal.cross_uncounted-requires-in-loop-k
cross_uncounted-requires-in-loop-k c = record {
  each_break = c.args.sound.sound.each_break;
  few_breaks = c.args.sound.sound.few_breaks;
  form = c.loop-k.invariant.levels;
  arc = subst IsSoundHop (c.get-hop.ensures.value c.get-hop.result.now) (c.args.sound.sound.each_hop c.loop-k.k c.get-hop.result.now (omega arith));
  cumuls = c.in_ok-keep.ensures.cumuls;
}

pub loop-k-preserved : goal.loop-k-preserved
loop-k-preserved c =
    let x = to_z w64 (of_z w64 c.in-Some.least) in
    let least = c.in-Some.ensures.some in
    let range = shared_range c.args.sound.line.now.breaks c.cross_uncounted.new.out
    c.levels.result.now c.in-Some.least c.in_ok-cross_uncounted.ensures.levels least.shared in
    let same : x ≡ c.in-Some.least = omega (arith, ints, range) in
    rw (c.swap.ensures.x_after, c.in_ok-push.ensures.ok) (record {
      settled = settled_behind c.args.sound.line.now c.args.behind.now c.args.sound.sound
          c.requires.behind c.loop-k.k (omega arith) c.loop-k.cumuls c.loop-k.here c.loop-k.invariant.settled
          c.get-allowed.result.now c.get-hop.result.now c.cross_uncounted.new.out c.levels.result.now c.get-allowed.ensures.value
          c.get-hop.ensures.value c.in_ok-cross_uncounted.ensures.exact c.in_ok-cross_uncounted.ensures.levels c.levels.ensures
          x (subst (IsLeastSharedCumul c.cross_uncounted.new.out c.levels.result.now) (sym same) least) c.keep.new.only c.cross_uncounted-in-loop-k.new.out
          c.in_ok-keep.ensures.exact c.in_ok-keep.ensures.cumuls c.in_ok-cross_uncounted-2.ensures.exact (subst (IsIn (pos 0) horizon) (sym same) range);
      levels = c.in_ok-cross_uncounted-2.ensures.levels;
    })

pub returns-clause-settled : goal.returns-clause-settled
returns-clause-settled c =
    λ goes. chosen_where_settled c.args.sound.line.now c.args.sound.sound c.loop-k.cumuls c.loop-k.here c.loop-k.k (omega arith) c.loop-k.invariant.settled
