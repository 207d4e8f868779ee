use Rattle.std.proofs.Common.{◌∙◌, ◌+◌, suc, refl, ap, sym, arith, length, map}
use Rattle.std.specs.Prelude.{None}
use Rattle.vr_model.specs.tables.Numbers.{each, from_to}
use Rattle.vr_model.proofs.tables.Ranges.{walk_begins, walk_ends, walk_opens}
use Rattle.vr_ruin.specs.Placings.{best_of}
use Rattle.vr_ruin.specs.declared.placing.Placing.TheVariants.{Two}
use Rattle.vr_ruin.proofs.AskLemmas.{best_of_both}
use Rattle.vr_ruin.proofs.asking.Asker.best_pair.Goals as goal

pub loop-s-init : goal.loop-s-init
loop-s-init c = let n = suc (length c.args.list.nodes.now) in
    record {
      model = refl;
      left = walk_begins (λ ss. best_of c.args.self.now c.args.list.vehicle c.args.list.nodes.now
          None (each ss λ s. map (Two c.args.pickup c.args.delivery s) (from_to s n))) n;
    }

pub loop-s-preserved : goal.loop-s-preserved
loop-s-preserved c =
    let model = c.args.self.now in
    let list = c.args.list.nodes.now in
    let v = c.args.list.vehicle in
    let n = suc (length list) in
    let here = map (Two c.args.pickup c.args.delivery c.loop-s.s) (from_to c.loop-s.s n) in
    let later = each (from_to (c.loop-s.s + 1) n) λ s. map (Two c.args.pickup c.args.delivery s) (from_to s n) in
    let best = c.in_ok-best.ensures.best ∙ ap (λ m. best_of m v list c.loop-s.best here) c.loop-s.invariant.model in
    record {
      model = c.in_ok-best.ensures.model ∙ c.loop-s.invariant.model;
      left = ap (λ b. best_of model v list b later) best ∙ sym (best_of_both model v list c.loop-s.best here later)
          ∙ walk_opens (λ ss. best_of model v list c.loop-s.best (each ss λ s. map (Two c.args.pickup c.args.delivery s) (from_to s n)))
          n c.loop-s.s c.loop-s.invariant.left (omega (arith, c.loop-s-test.true));
    }

pub returns-clause-best : goal.returns-clause-best
returns-clause-best c = let n = suc (length c.args.list.nodes.now) in
    walk_ends (λ ss. best_of c.args.self.now c.args.list.vehicle c.args.list.nodes.now c.loop-s.best
    (each ss λ s. map (Two c.args.pickup c.args.delivery s) (from_to s n))) n c.loop-s.s c.loop-s.invariant.left (omega (arith, c.loop-s-test.false))
