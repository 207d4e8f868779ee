use Rattle.std.proofs.Common.{◌≡◌, ◌∙◌, suc, ap, sym, subst, arith, length}
use Rattle.std.specs.Prelude.{fold}
use Rattle.vr_model.specs.tables.Numbers.{below, each}
use Rattle.vr_model.proofs.tables.Ranges.{below-more}
use Rattle.vr_first_insert.specs.Placings.{weigh, AreLeastAhead}
use Rattle.vr_first_insert.proofs.InsertLemmas.{deliveries, fold-each}
use Rattle.vr_first_insert.proofs.one_list.best_pair.Goals as goal

pub best_delivery-requires-clause-ready : goal.best_delivery-requires-clause-ready
best_delivery-requires-clause-ready c = record { ready = c.requires; ahead = c.loop-s.invariant.ahead }

pub loop-s-preserved : goal.loop-s-preserved
loop-s-preserved c =
    let model = c.args.pair.now.list.lookups.now.closed.model.now in
    let list = c.args.pair.now.list.nodes.now in
    let f = deliveries model c.args.pair.now.list.vehicle list c.args.pair.now.class c.args.pair.now.pickup c.args.pair.now.delivery in
    record {
      best = c.in_ok-best.ensures.best ∙ ap (λ best. fold (weigh model list) best (f c.loop-s.s)) c.loop-s.invariant.best
          ∙ sym (fold-each (weigh model list) c.args.best f (below c.loop-s.s) c.loop-s.s)
          ∙ sym (ap (λ ks. fold (weigh model list) c.args.best (each ks f)) (below-more c.loop-s.s));
      ahead = subst (AreLeastAhead model c.args.pair.now.list.vehicle list c.args.pair.now.delivery) (sym c.in_ok-best.ensures.ahead) c.loop-s.invariant.ahead;
    }

pub returns : goal.returns
returns c =
    let model = c.args.pair.now.list.lookups.now.closed.model.now in
    let list = c.args.pair.now.list.nodes.now in
    let f = deliveries model c.args.pair.now.list.vehicle list c.args.pair.now.class c.args.pair.now.pickup c.args.pair.now.delivery in
    let end : c.loop-s.s ≡ suc (length list) = omega arith in
    c.loop-s.invariant.best ∙ ap (λ n. fold (weigh model list) c.args.best (each (below n) f)) end
