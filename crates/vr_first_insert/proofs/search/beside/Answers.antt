use Rattle.std.proofs.Common.{◌∙◌, refl, subst, sym}
use Rattle.std.proofs.lemmas.List.Elements.{All-set}
use Rattle.vr_first_insert.specs.Kept.{candidate_at}
use Rattle.vr_first_insert.specs.Waiting.{unread_waiting, waiting_at, IsLeastAnywhere, IsWaiting}
use Rattle.vr_first_insert.proofs.WaitingLemmas.{passed-beside, told-anywhere, waiting-same}
use Rattle.vr_first_insert.proofs.search.beside.Goals as goal

pub returns-then-is_passed_over-clause-best : goal.returns-then-is_passed_over-clause-best
returns-then-is_passed_over-clause-best c =
    let model = c.args.on.now.items.lookups.now.closed.model.now in
    let item = waiting_at c.args.waiting.now c.args.k in
    let is = c.requires.waits c.args.k unread_waiting c.requires.place in
    passed-beside model c.args.on.now.lists.now (candidate_at c.args.on.now.items.candidates.now item.number)
    c.args.marks.now item.least c.args.best.now is.least
    (sym c.is_passed_over.ensures ∙ c.if-is_passed_over.true)

pub best_in_lists-requires : goal.best_in_lists-requires
best_in_lists-requires c = record {
  asked = c.requires.asked;
  candidate = (c.requires.waits c.args.k unread_waiting c.requires.place).there;
  may_hold = c.requires.may_hold (sym c.may_be_placed.ensures ∙ c.if-not-may_be_placed.false);
  rows = c.requires.rows;
}

pub returns-clause-waiting : goal.returns-clause-waiting
returns-clause-waiting c =
    let model = c.args.on.now.items.lookups.now.closed.model.now in
    let lists = c.args.on.now.lists.now in
    let candidates = c.args.on.now.items.candidates.now in
    let waiting = c.args.waiting.now in
    let item = waiting_at waiting c.args.k in
    let is = c.requires.waits c.args.k unread_waiting c.requires.place in
    All-set (IsWaiting model lists candidates) waiting c.args.k (record { number = item.number; least = c.least_told-least.result }) (record {
      there = is.there;
      least = subst (IsLeastAnywhere model lists (candidate_at candidates item.number)) (sym c.least_told-least.ensures)
          (told-anywhere model lists (candidate_at candidates item.number) c.args.best.now item.least c.in_ok-next.next is.least c.in_ok-next.ensures.best);
    }) c.requires.waits

pub returns-clause-same : goal.returns-clause-same
returns-clause-same c = waiting-same c.args.on.now.items.candidates.now c.args.waiting.now c.args.k _ refl
