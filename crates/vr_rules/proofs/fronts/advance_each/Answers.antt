use Rattle.std.proofs.Common.{◌∙◌, ◌++◌, ℕ, sym, subst, arith}
use Rattle.std.proofs.lemmas.List.{length-set}
use Rattle.vr_rules.specs.declared.fronts.Front.{Front}
use Rattle.vr_rules.specs.Fronts.{IsFrontOf}
use Rattle.vr_rules.specs.Placing.{item_nodes}
use Rattle.vr_rules.proofs.FrontLemmas.{moved_more, left_behind}
use Rattle.vr_rules.proofs.fronts.advance_each.Goals as goal

pub advance-requires : goal.advance-requires
advance-requires c = record {
  front = (subst (λ front. IsFrontOf c.args.longer.now.closed.model.now c.loop-d.d c.args.longer.now.v c.args.longer.now.list.now front)
      (sym c.index_mut.ensures.value)
      (c.loop-d.invariant.left c.loop-d.d c.index_mut.result.now (omega arith) (omega (arith, c.loop-d.invariant.long)))).front_of_list;
}

pub loop-d-preserved : goal.loop-d-preserved
loop-d-preserved c =
    let model = c.args.longer.now.closed.model.now in
    let v = c.args.longer.now.v in
    let list = c.args.longer.now.list.now in
    let m = c.loop-d.invariant in
    let fronts = c.loop-d.fronts.items in
    let new = c.advance.new.self in
    let here = subst (λ front. IsFrontOf model c.loop-d.d v list front) (sym c.index_mut.ensures.value)
    (m.left c.loop-d.d c.index_mut.result.now (omega arith) (omega (arith, m.long))) in
    let Moved = λ (d : ℕ) (front : Front). IsFrontOf model d v (list ++ item_nodes c.args.longer.now.item) front in
    let Left = λ (d : ℕ) (front : Front). IsFrontOf model d v list front in
    record {
      long = length-set fronts c.loop-d.d new ∙ m.long;
      moved = λ d other low lt. moved_more Moved fronts c.loop-d.d new (omega (arith, m.long)) m.moved
          (record {
            front_of_list = c.in_ok-advance.ensures.front;
            dimension_is = c.in_ok-advance.ensures.dimension ∙ here.dimension_is;
            vehicle_is = c.in_ok-advance.ensures.vehicle ∙ here.vehicle_is;
          }) d other low lt;
      left = λ d other low lt. left_behind Left fronts c.loop-d.d new m.left d other low lt;
    }
