use Rattle.std.proofs.Common.{◌≡◌, ◌∷◌, List, map, take, drop}
use Rattle.vr_model.specs.declared.search.Event.{Event}
use Rattle.vr_watch.proofs.all.tell_each.Given as goal

-- the watchers so far have been told the event, and the others have not
abbrev pub invariant-loop-watcher : goal.invariant-loop-watcher
invariant-loop-watcher g l = record {
  told : (later : List Event) → map (λ w. (goal.Watch-dyn g (w.vtable, w.value)).after w.value later) (take l.watcher-index l.watch)
      ≡ map (λ w. (goal.Watch-dyn g (w.vtable, w.value)).after w.value (l.event ∷ later)) (take l.watcher-index l.initial.watch);
  others : drop l.watcher-index l.watch ≡ drop l.watcher-index l.initial.watch;
}
