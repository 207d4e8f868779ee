use Rattle.std.proofs.Common.{sym, subst}
use Rattle.std.specs.Prelude.{OnOk}
use Rattle.vr_watch.specs.Told.{Reported}
use Rattle.vr_app.specs.Found.{searched}
use Rattle.vr_app.specs.declared.words.Mode.{Mode}
use Rattle.vr_app.proofs.search.search.Goals as goal

pub returns-in-Log-clause-told : goal.returns-in-Log-clause-told
returns-in-Log-clause-told g c = λ log.
    let P : Mode → Type 0 = λ mode. OnOk c.search_watched.result
    (Reported (λ w. (goal.Watch-dyn g (w.vtable, w.value)).after w.value) c.args.watch.now.items
    c.search_watched.new.watch.items (searched mode c.args.lookups.now.closed.model.now c.args.first.lists).events) in
    subst P (sym c.in-Log.is) c.search_watched.ensures.told
