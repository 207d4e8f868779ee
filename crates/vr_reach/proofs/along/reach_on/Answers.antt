use Rattle.std.proofs.Common.{◌≡◌, ◌+◌, ◌++◌, set, ap, ap₂, sym, subst, ◌∙◌, arith}
use Rattle.std.specs.Prelude.{slice_index_or}
use Rattle.std.proofs.lemmas.List.{length-set}
use Rattle.vr_model.specs.tables.Tables.{breaks_of, dimension_at}
use Rattle.vr_steps.specs.Levels.{AreLevels, AreCrossed}
use Rattle.vr_reach.specs.DrivenRows.{IsReachedOn}
use Rattle.vr_reach.specs.Rows.{row_at}
use Rattle.vr_reach.proofs.AlongLemmas.{crossing_by}
use Rattle.vr_reach.proofs.DrivenLemmas.{next_on}
use Rattle.vr_reach.proofs.SweepLemmas.{hold_next, read_front, set_back}
use Rattle.vr_reach.proofs.along.reach_on.Goals as goal

pub loop-k-init : goal.loop-k-init
loop-k-init c =
    let known = c.requires.known in
    let within = known.within in
    let begun = c.requires.begun in
    record {
      within = omega (arith, within, begun);
      long = c.requires.long;
      each = λ j low. known.each j (omega (arith, low, begun));
    }

pub cross_uncounted-requires : goal.cross_uncounted-requires
cross_uncounted-requires c =
    let stops = c.args.stops.now in
    let of = stops.of in
    let m = c.loop-k.invariant in
    let breaks = breaks_of (dimension_at of.closed.model.now of.d) of.v in
    let read = ap (λ rows. slice_index_or rows c.loop-k.k c.index-done-k.result) c.split_at_mut-done.ensures.front
    ∙ read_front c.loop-k.rows (c.loop-k.k + 1) c.loop-k.k c.index-done-k.result (omega arith) (omega (arith, m.long, c.len-n.ensures.value)) in
    crossing_by of.closed.model.now of.d of.v stops.ends.now stops.ends_are.breaks_are
    _ (subst (AreLevels breaks) (sym read) (m.each c.loop-k.k (omega arith)).form)
    c.hop_from-hop.result c.hop_from-hop.ensures.sound c.set_at-next.result.now c.set_at-next.ensures.cumuls

pub loop-k-preserved : goal.loop-k-preserved
loop-k-preserved c =
    let stops = c.args.stops.now in
    let m = c.loop-k.invariant in
    let k = c.loop-k.k in
    let new = c.cross_uncounted.new.out in
    let same = stops.ends_are.breaks_are.same in
    let read = ap (λ rows. slice_index_or rows k c.index-done-k.result) c.split_at_mut-done.ensures.front
    ∙ read_front c.loop-k.rows (k + 1) k c.index-done-k.result (omega arith) (omega (arith, m.long, c.len-n.ensures.value)) in
    let whole : c.split_at_mut-done.result.0.now ++ set c.split_at_mut-done.result.1.now 0 new ≡ set c.loop-k.rows (k + 1) new =
    ap₂ (λ front back. front ++ set back 0 new) c.split_at_mut-done.ensures.front c.split_at_mut-done.ensures.back ∙ set_back c.loop-k.rows (k + 1) new in
    let crossed = subst (λ from. AreCrossed from c.hop_from-hop.result c.set_at-next.result.now stops.ends.now.breaks new)
    read c.in_ok-cross_uncounted.ensures.exact in
    rw whole (record {
      within = omega (arith, c.len-n.ensures.value);
      long = length-set c.loop-k.rows (k + 1) new ∙ m.long;
      each = hold_next (IsReachedOn stops.of) k c.loop-k.rows new (omega (arith, m.long, c.len-n.ensures.value)) m.each (record {
        form = subst (λ breaks. AreLevels breaks new) same c.in_ok-cross_uncounted.ensures.levels;
        reached = next_on stops.of stops.ends.now.breaks same k (omega (arith, c.len-n.ensures.value)) c.hop_from-hop.result c.hop_from-hop.ensures.exact
            c.set_at-next.result.now c.set_at-next.ensures (row_at c.loop-k.rows k) new (m.each k (omega arith)).reached crossed;
      });
    })

pub returns : goal.returns
returns c = record {
  row_of_each_stop = c.loop-k.invariant.long;
  each = λ k low. c.loop-k.invariant.each k (let within = c.loop-k.invariant.within in omega (arith, low, within, c.len-n.ensures.value));
}
