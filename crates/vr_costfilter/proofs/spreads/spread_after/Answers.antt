use Rattle.std.proofs.Common.{◌≡◌, ◌∙◌, ◌<◌, ℕ, List, ap, length, subst, sym, arith}
use Rattle.std.specs.Prelude.{fold}
use Rattle.std.proofs.lemmas.List.{take_all}
use Rattle.std.proofs.lemmas.List.Sums.{fold_more}
use Rattle.vr_routes.specs.Pieces.{no_part, part_at}
use Rattle.vr_costfilter.specs.SortedEnds.{extent_but}
use Rattle.vr_costfilter.proofs.ReachLemmas.{extent-but-is}
use Rattle.vr_costfilter.specs.GlobalCosts.{vehicles_of}
use Rattle.vr_costfilter.specs.Spreads.{spread_of, spread_of_kept, with_changed, IsSpreadInRange}
use Rattle.vr_costfilter.proofs.KeptLemmas.{spread-told}
use Rattle.vr_costfilter.proofs.spreads.spread_after.Goals as goal

pub loop-k-init : goal.loop-k-init
loop-k-init c =
    let model = c.args.paid.now.early.now.model.now in
    let d = c.args.paid.now.d in
    let parts = c.args.paid.now.early.now.change.now in
    let e = c.spread_but-spread.ensures in
    let vehicles = c.deref.ensures.0 ∙ c.vehicles_of-vehicles.ensures in
    let extent = extent_but (vehicles_of parts) c.args.orders.now in
    let value : c.spread_but-spread.result ≡ spread_of extent = e.value ∙ ap (λ us. spread_of (extent_but us c.args.orders.now)) vehicles in
    record {
      value = λ lists are orders. value ∙ spread-told model lists parts d extent
          (extent-but-is model d lists c.args.orders.now orders (vehicles_of parts)) (subst IsSpreadInRange value e.range);
      range = e.range;
    }

pub loop-k-preserved : goal.loop-k-preserved
loop-k-preserved c =
    let model = c.args.paid.now.early.now.model.now in
    let parts = c.args.paid.now.early.now.change.now in
    let e = c.with_changed-spread.ensures in
    let low = subst (λ n. c.loop-k.k < n) c.parts-k-end.ensures.value c.loop-k-test.true in
    record {
      value = λ lists are orders. e.value lists are
          ∙ ap (λ s. with_changed model lists c.args.paid.now.d s (part_at parts c.loop-k.k)) (c.loop-k.invariant.value lists are orders)
          ∙ sym (fold_more (with_changed model lists c.args.paid.now.d)
          (spread_of_kept model lists parts c.args.paid.now.d (length lists)) parts c.loop-k.k no_part low);
      range = e.range;
    }

pub returns-clause-value : goal.returns-clause-value
returns-clause-value c lists are orders =
    c.loop-k.invariant.value lists are orders
    ∙ ap (fold (with_changed c.args.paid.now.early.now.model.now lists c.args.paid.now.d)
    (spread_of_kept c.args.paid.now.early.now.model.now lists c.args.paid.now.early.now.change.now c.args.paid.now.d (length lists)))
    (take_all c.loop-k.k c.args.paid.now.early.now.change.now (omega (arith, c.parts-k-end.ensures.value, c.loop-k-test.false)))
