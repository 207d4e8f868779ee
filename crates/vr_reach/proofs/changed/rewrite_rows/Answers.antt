use Rattle.std.proofs.Common.{refl, subst, sym}
use Rattle.std.proofs.lemmas.Result.{on_ok_weaker}
use Rattle.vr_spans.proofs.RunsLemmas.{some_from_test}
use Rattle.vr_reach.specs.KnownRows.{AreFirstRows, AreLastRows, AreRowsIfUsed, AreRowsOf}
use Rattle.vr_reach.specs.Lists.{IsUsed}
use Rattle.vr_reach.proofs.AskedLemmas.{asked_so, so_asked}
use Rattle.vr_reach.proofs.AlongLemmas.{none_at_back, none_at_front, shared_first, shared_last}
use Rattle.vr_reach.proofs.Transfer.{not_empty}
use Rattle.vr_reach.proofs.changed.rewrite_rows.Goals as goal

pub asked_of-asked-requires-clause-used : goal.asked_of-asked-requires-clause-used
asked_of-asked-requires-clause-used c = subst (IsUsed c.args.stops.now.closed.model.now) (sym c.whole-whole.ensures)
    (record { some = not_empty c.args.list.now (some_from_test _ _ c.if-is_empty.false c.is_empty.ensures); tour = c.requires.tour })

pub of-stretch-requires-clause-front : goal.of-stretch-requires-clause-front
of-stretch-requires-clause-front c = none_at_front c.args.old.now c.whole-whole.result

pub of-stretch-requires-clause-back : goal.of-stretch-requires-clause-back
of-stretch-requires-clause-back c = none_at_back c.args.old.now c.whole-whole.result

pub rewrite-requires-clause-ahead : goal.rewrite-requires-clause-ahead
rewrite-requires-clause-ahead c =
    asked_so refl c.asked_of-asked.ensures (λ m d v l. AreFirstRows m d v l c.known_with-ahead.result c.args.rows.now.forward)
    (shared_first c.args.stops.now.closed.model.now c.args.stops.now.d c.args.stops.now.v c.args.old.now
    c.whole-whole.result c.args.rows.now c.requires.rows c.of-stretch.result.front c.of-stretch.ensures.front
    c.known_with-ahead.result c.known_with-ahead.ensures.empty c.known_with-ahead.ensures.some)

pub rewrite-requires-clause-behind : goal.rewrite-requires-clause-behind
rewrite-requires-clause-behind c =
    asked_so refl c.asked_of-asked.ensures (λ m d v l. AreLastRows m d v l c.known_with-behind.result c.args.rows.now.backward)
    (shared_last c.args.stops.now.closed.model.now c.args.stops.now.d c.args.stops.now.v c.args.old.now c.whole-whole.result c.args.rows.now c.requires.rows
    c.of-stretch.result.back c.of-stretch.ensures.back c.known_with-behind.result c.known_with-behind.ensures.empty c.known_with-behind.ensures.some)

pub returns : goal.returns
returns c = on_ok_weaker {Q = AreRowsIfUsed c.args.stops.now.closed.model.now c.args.stops.now.d c.args.stops.now.v c.args.list.now c.rewrite.new.self}
    _ (λ are _. so_asked c.whole-whole.ensures c.asked_of-asked.ensures (λ m d v l. AreRowsOf m d v l c.rewrite.new.self) are) c.rewrite.ensures
