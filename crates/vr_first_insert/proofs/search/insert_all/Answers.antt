use Rattle.std.proofs.Common.{sym, subst}
use Rattle.vr_first_insert.specs.Waiting.{AreWaiting}
use Rattle.vr_first_insert.proofs.WaitingLemmas.{waiting-begun}
use Rattle.vr_first_insert.proofs.search.insert_all.Goals as goal

pub insert_waiting-requires-clause-waiting : goal.insert_waiting-requires-clause-waiting
insert_waiting-requires-clause-waiting c =
    let model = c.args.items.now.lookups.now.closed.model.now in
    let candidates = c.args.items.now.candidates.now in
    subst (AreWaiting model c.args.lists.now candidates) (sym c.deref_mut.ensures.value)
    (waiting-begun model c.args.lists.now candidates c.args.marks.now
    c.in_ok-waiting.waiting.items c.requires.items_are c.requires.marks c.in_ok-waiting.ensures)
