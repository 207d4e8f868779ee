use Rattle.std.proofs.Common.{◌≡◌, ◌∙◌, ◌+◌, ◌-◌, [], ◌∷◌, sym, ap, subst, arith}
use Rattle.std.specs.Prelude.{IsTrue}
use Rattle.vr_model.specs.declared.search.Kind.TheVariants as kind
use Rattle.vr_model.specs.declared.search.Event.{Event}
use Rattle.vr_model.specs.routes.Costs.{cost}
use Rattle.vr_model.proofs.tables.Refusals.{on_err}
use Rattle.vr_watch.specs.Told.{Reported}
use Rattle.vr_watch.proofs.ToldLemmas.{none_behind, told_nothing}
use Rattle.vr_lns.specs.Cuts.{improves_on}
use Rattle.vr_lns.specs.Standing.{cut_event, round_events, lists_after_round, round_at, tries_in_round}
use Rattle.vr_lns.proofs.BoundLemmas.{made_told, told_by_round, tried_within}
use Rattle.vr_lns.proofs.standing.advance.Goals as goal

pub returns-in_err-ended-clause-told_in_part : goal.returns-in_err-ended-clause-told_in_part
returns-in_err-ended-clause-told_in_part g c =
    on_err c.from_residual.result (none_behind (λ w. (goal.Watch-dyn g (w.vtable, w.value)).after w.value) _ _ [] _ (told_nothing _ _))

pub overflow_add-at : goal.overflow_add-at
overflow_add-at g c =
    let k = c.args.cutting.now in
    let lists = c.args.routes.now.lists in
    let rest = c.args.limit.tries - c.args.at.now.used in
    let within = tried_within (λ after. IsTrue (improves_on k.model lists after)) rest (round_at k.model k.most c.args.limit lists c.args.at.now.used)
    c.in_ok-ended.ended (told_by_round k.model k.most lists rest) c.in_ok-ended.ensures.ends in
    omega (arith, within, ap (tries_in_round rest) c.in-Accepted.is, c.requires.tries, c.requires.used)

pub overflow_add-at-in-Complete : goal.overflow_add-at-in-Complete
overflow_add-at-in-Complete g c =
    let k = c.args.cutting.now in
    let lists = c.args.routes.now.lists in
    let rest = c.args.limit.tries - c.args.at.now.used in
    let within = tried_within (λ after. IsTrue (improves_on k.model lists after)) rest (round_at k.model k.most c.args.limit lists c.args.at.now.used)
    c.in_ok-ended.ended (told_by_round k.model k.most lists rest) c.in_ok-ended.ensures.ends in
    omega (arith, within, ap (tries_in_round rest) c.in-Complete.is, c.requires.tries, c.requires.used)

pub returns-in_err-note_all-in-Accepted-clause-made_at_most : goal.returns-in_err-note_all-in-Accepted-clause-made_at_most
returns-in_err-note_all-in-Accepted-clause-made_at_most g c =
    let k = c.args.cutting.now in
    let lists = c.args.routes.now.lists in
    let rest = c.args.limit.tries - c.args.at.now.used in
    let within = tried_within (λ after. IsTrue (improves_on k.model lists after)) rest (round_at k.model k.most c.args.limit lists c.args.at.now.used)
    c.in_ok-ended.ended (told_by_round k.model k.most lists rest) c.in_ok-ended.ensures.ends in
    on_err c.from_residual-in_err-note_all-in-Accepted.result (omega (arith, within, c.in_ok-ended.ensures.made, c.requires.used))

pub returns-in_ok-note_all-in-Accepted-clause-told : goal.returns-in_ok-note_all-in-Accepted-clause-told
returns-in_ok-note_all-in-Accepted-clause-told g c =
    let k = c.args.cutting.now in
    let lists = c.args.routes.now.lists in
    let used = c.args.at.now.used in
    let r = round_at k.model k.most c.args.limit lists used in
    let made = made_told r c.in-Accepted.place (sym c.in-Accepted.is ∙ c.in_ok-ended.ensures.ends) in
    let costs : c.round.new.total ≡ cost k.model made.0 = c.in_ok-ended.ensures.holds.costs
    ∙ ap (cost k.model) (c.in_ok-ended.ensures.lists ∙ ap (lists_after_round lists) made.1) in
    let same : c.event.result ≡ cut_event k.model made.0 (used + c.in-Accepted.place) = c.event.ensures
    ∙ ap {B = Event} (λ x. record { tries = used + c.in-Accepted.place; kind = kind.Move; cost = x }) costs in
    subst (λ es. Reported (λ w. (goal.Watch-dyn g (w.vtable, w.value)).after w.value) c.args.watch.now.items c.note_all.new.watch.items es)
    (ap (λ event. event ∷ []) same ∙ ap (round_events k.model used) (sym made.1)) c.in_ok-note_all-in-Accepted.ensures.told
