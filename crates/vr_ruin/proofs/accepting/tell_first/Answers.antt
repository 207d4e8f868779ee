use Rattle.std.proofs.Common.{◌≡◌, ◌∙◌, [], ◌∷◌, cond, ap, sym, subst, arith}
use Rattle.std.specs.Prelude.{OnErr, OnOk}
use Rattle.std.proofs.lemmas.Bool.{eq-eqb}
use Rattle.vr_watch.specs.Told.{Reported, ReportedInPart}
use Rattle.vr_ruin.specs.Answers.{first_event}
use Rattle.vr_ruin.proofs.accepting.tell_first.Goals as goal

-- the event that is told, if nothing is lacking
pub returns-clause-told : goal.returns-clause-told
returns-clause-told g c =
    let lack : c.args.first.lack ≡ 0 = omega (arith, c.if-first-ne0.false) in
    subst (λ es. OnOk c.note_all.result
    (Reported (λ w. (goal.Watch-dyn g (w.vtable, w.value)).after w.value) c.args.watch.now.items c.note_all.new.watch.items es))
    (ap (λ event. event ∷ []) c.event_of_first.ensures ∙ sym (ap (λ b. cond b (first_event c.args.first ∷ []) []) (eq-eqb c.args.first.lack 0 lack)))
    c.note_all.ensures.told

pub returns-clause-told_in_part : goal.returns-clause-told_in_part
returns-clause-told_in_part g c =
    let lack : c.args.first.lack ≡ 0 = omega (arith, c.if-first-ne0.false) in
    subst (λ es. OnErr c.note_all.result
    (ReportedInPart (λ w. (goal.Watch-dyn g (w.vtable, w.value)).after w.value) c.args.watch.now.items c.note_all.new.watch.items es))
    (ap (λ event. event ∷ []) c.event_of_first.ensures ∙ sym (ap (λ b. cond b (first_event c.args.first ∷ []) []) (eq-eqb c.args.first.lack 0 lack)))
    c.note_all.ensures.told_in_part
