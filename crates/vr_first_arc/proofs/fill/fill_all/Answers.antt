use Rattle.std.proofs.Common.{◌∙◌, ap, sym, arith, length}
use Rattle.vr_model.specs.first.Items.{items}
use Rattle.vr_model.specs.first.PathCheapestArc.{filled}
use Rattle.vr_rules.proofs.PlacingLemmas.{built-count}
use Rattle.vr_first_arc.proofs.AppendLemmas.{all_filled-more}
use Rattle.vr_first_arc.proofs.fill.fill_all.Goals as goal

pub fill_from_start-requires-clause-vehicle : goal.fill_from_start-requires-clause-vehicle
fill_from_start-requires-clause-vehicle c =
    omega (arith, c.loop-v-test.true, c.len-v-end.ensures, built-count c.args.filling.now.lookups.now.closed.model.now c.loop-v.lists c.loop-v.invariant.built)

pub loop-v-preserved : goal.loop-v-preserved
loop-v-preserved c =
    let model = c.args.filling.now.lookups.now.closed.model.now in
    record {
      fills = c.in_ok-fill_from_start.ensures.filled ∙ ap (filled model c.loop-v.v (length (items model))) c.loop-v.invariant.fills
          ∙ sym (all_filled-more model c.loop-v.v c.args.lists.now);
      built = c.in_ok-fill_from_start.ensures.built;
      marked = c.in_ok-fill_from_start.ensures.marked;
    }
