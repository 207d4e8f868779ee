use Rattle.std.proofs.Common.{◌≡◌, ◌+◌, ◌-◌, suc, ◌++◌, set, drop, ap, ap₂, sym, subst, ◌∙◌, arith}
use Rattle.std.specs.Prelude.{slice_index_or}
use Rattle.std.proofs.lemmas.List.{length-set}
use Rattle.vr_model.specs.tables.Tables.{breaks_of, dimension_at}
use Rattle.vr_model.proofs.schedules.LinesSound.{lines_are_sound}
use Rattle.vr_steps.specs.Levels.{AreLevels, AreCrossedBack}
use Rattle.vr_steps.proofs.LawLemmas.{end_reached_before_arc}
use Rattle.vr_reach.specs.DrivenRows.{IsReachingOn}
use Rattle.vr_reach.specs.Rows.{row_at}
use Rattle.vr_reach.proofs.AlongLemmas.{crossing_by, last_from, reaching_before}
use Rattle.vr_reach.proofs.SweepLemmas.{hold_earlier, read_back, set_front, HoldFrom}
use Rattle.vr_reach.proofs.along.reach_back.Goals as goal

pub stops-init : goal.stops-init
stops-init c =
    let of = c.args.stops.now.of in
    let within = c.requires.known.within in
    let begun = c.requires.begun in
    record {
      within = omega (arith, begun, c.len.ensures.value);
      long = c.requires.long;
      each = last_from of.closed.model.now of.d of.v of.list.now c.args.known c.args.rows.now
          c.requires.known c.requires.long _ (omega (arith, within, c.len.ensures.value));
    }

pub cross_uncounted-requires : goal.cross_uncounted-requires
cross_uncounted-requires c =
    let stops = c.args.stops.now in
    let of = stops.of in
    let m = c.stops.invariant in
    let breaks = breaks_of (dimension_at of.closed.model.now of.d) of.v in
    let same : c.stops.k - 1 + 1 ≡ c.stops.k = omega arith in
    let read = ap (λ rows. slice_index_or rows 0 c.index-done-0.result) (c.split_at_mut-left.ensures.back ∙ ap (λ i. drop i c.stops.rows) same)
    ∙ read_back c.stops.rows c.stops.k c.index-done-0.result (omega (arith, m.long, m.within)) in
    crossing_by of.closed.model.now of.d of.v stops.ends.now stops.ends_are.breaks_are _
    (subst (AreLevels breaks) (sym read) (m.each c.stops.k (omega arith) (omega (arith, m.long, m.within))).form)
    c.hop_from-hop.result c.hop_from-hop.ensures.sound c.set_at-here.result.now c.set_at-here.ensures.cumuls

pub stops-preserved : goal.stops-preserved
stops-preserved c =
    let stops = c.args.stops.now in
    let of = stops.of in
    let m = c.stops.invariant in
    let k = c.stops.k - 1 in
    let new = c.cross_uncounted.new.out in
    let breaks_same = stops.ends_are.breaks_are.same in
    let same : k + 1 ≡ c.stops.k = omega arith in
    let next : c.stops.k ≡ suc k = omega arith in
    let read = ap (λ rows. slice_index_or rows 0 c.index-done-0.result) (c.split_at_mut-left.ensures.back ∙ ap (λ i. drop i c.stops.rows) same)
    ∙ read_back c.stops.rows c.stops.k c.index-done-0.result (omega (arith, m.long, m.within)) in
    let whole : set c.split_at_mut-left.result.0.now k new ++ c.split_at_mut-left.result.1.now ≡ set c.stops.rows k new =
    ap₂ (λ front back. set front k new ++ back) c.split_at_mut-left.ensures.front c.split_at_mut-left.ensures.back ∙ set_front c.stops.rows k new in
    let crossed = subst (λ to. AreCrossedBack to c.hop_from-hop.result c.set_at-here.result.now stops.ends.now.breaks new)
    read c.in_ok-cross_uncounted.ensures.exact in
    let behind = subst (λ i. IsReachingOn of i (row_at c.stops.rows c.stops.k)) next (m.each c.stops.k (omega arith) (omega (arith, m.long, m.within))) in
    rw whole (record {
      within = omega (arith, m.within);
      long = length-set c.stops.rows k new ∙ m.long;
      each = hold_earlier (IsReachingOn of) k c.stops.rows new (omega (arith, m.long, m.within))
          (subst (λ i. HoldFrom (IsReachingOn of) i c.stops.rows) next m.each) (record {
            form = subst (λ breaks. AreLevels breaks new) breaks_same c.in_ok-cross_uncounted.ensures.levels;
            reaching = reaching_before lines_are_sound of.closed.model.now of.closed.well_formed of.d of.v
                of.dimension of.vehicle of.list.now of.used end_reached_before_arc stops.ends.now.breaks breaks_same
                k (omega (arith, m.within)) c.hop_from-hop.result c.hop_from-hop.ensures.exact c.set_at-here.result.now
                c.set_at-here.ensures (row_at c.stops.rows c.stops.k) new behind.reaching crossed;
          });
    })

pub returns : goal.returns
returns c = record {
  row_of_each_stop = c.stops.invariant.long;
  each = λ k low. c.stops.invariant.each k (omega arith) (let long = c.stops.invariant.long in omega (arith, low, long));
}
