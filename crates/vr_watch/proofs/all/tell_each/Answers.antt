use Rattle.std.proofs.Common.{◌∷◌}
use Rattle.vr_watch.proofs.MapLemmas.{map-take_step, drop_step, map-take_end, map_in_part}
use Rattle.vr_model.proofs.tables.Refusals.{on_err}
use Rattle.vr_watch.proofs.all.tell_each.Goals as goal

pub loop-watcher-preserved : goal.loop-watcher-preserved
loop-watcher-preserved g c = let inv = c.loop-watcher.invariant in let n = c.in_ok-tell.ensures.told in record {
  told = λ later. map-take_step (λ w. (goal.Watch-dyn g (w.vtable, w.value)).after w.value later)
      (λ w. (goal.Watch-dyn g (w.vtable, w.value)).after w.value (c.args.event ∷ later)) c.loop-watcher.watch c.args.watch.now
      c.loop-watcher.watcher-index c.watcher-item.result _ c.loop-watcher-test.true inv.others (inv.told later) (n later);
  others = drop_step c.loop-watcher.watch c.args.watch.now c.loop-watcher.watcher-index _ inv.others;
}

pub returns-clause-told : goal.returns-clause-told
returns-clause-told g c = record {
  heard = λ later. map-take_end (λ w. (goal.Watch-dyn g (w.vtable, w.value)).after w.value later)
      (λ w. (goal.Watch-dyn g (w.vtable, w.value)).after w.value (c.args.event ∷ later))
      c.loop-watcher.watch c.args.watch.now c.loop-watcher.watcher-index
      c.loop-watcher-test.false c.loop-watcher.auto.watch (c.loop-watcher.invariant.told later);
}

pub returns-in_err-tell-clause-some_told : goal.returns-in_err-tell-clause-some_told
returns-in_err-tell-clause-some_told g c = on_err c.from_residual.result (record {
  front = c.loop-watcher.watcher-index;
  heard = λ later. map_in_part (λ w. (goal.Watch-dyn g (w.vtable, w.value)).after w.value later)
      (λ w. (goal.Watch-dyn g (w.vtable, w.value)).after w.value (c.args.event ∷ later))
      c.loop-watcher.watch c.args.watch.now c.loop-watcher.watcher-index c.watcher-item.result
      _ c.loop-watcher.invariant.others (c.loop-watcher.invariant.told later)
      (c.in_err-tell.ensures.as_before later);
})
