use Rattle.std.proofs.Common.{◌≡◌, ◌∙◌, [], ◌∷◌, cond, ap, ap₂, sym, subst, arith}
use Rattle.std.specs.Prelude.{◌&&◌, OnErr, OnOk}
use Rattle.std.proofs.lemmas.Bool.{eq-eqb}
use Rattle.vr_watch.specs.Told.{Reported, ReportedInPart}
use Rattle.vr_ruin.specs.Searching.{accept_event, accept_events}
use Rattle.vr_ruin.proofs.accepting.accept.Given.{Over}
use Rattle.vr_ruin.proofs.accepting.accept.Goals.{After-event_of}
use Rattle.vr_ruin.proofs.accepting.accept.Goals as goal

-- the event that is told
told_is : (g : Over) (c : After-event_of g) → c.event_of.result ∷ [] ≡ accept_events c.args.at.now c.args.new
told_is g c =
    ap (λ event. event ∷ []) c.event_of.ensures
    ∙ sym (ap₂ (λ a b. cond (a && b) (accept_event c.args.at.now c.args.new ∷ []) [])
    (sym c.is_best.ensures ∙ c.if-not-is_best.false) (eq-eqb c.args.new.lack 0 (omega (arith, c.if-new-ne0.false))))

pub returns-clause-told : goal.returns-clause-told
returns-clause-told g c =
    subst (λ es. OnOk c.note_all.result
    (Reported (λ w. (goal.Watch-dyn g (w.vtable, w.value)).after w.value) c.args.watch.now.items c.note_all.new.watch.items es))
    (told_is g (goal.at.returns-clause-told g c).After-event_of) c.note_all.ensures.told

pub returns-clause-told_in_part : goal.returns-clause-told_in_part
returns-clause-told_in_part g c =
    subst (λ es. OnErr c.note_all.result
    (ReportedInPart (λ w. (goal.Watch-dyn g (w.vtable, w.value)).after w.value) c.args.watch.now.items c.note_all.new.watch.items es))
    (told_is g (goal.at.returns-clause-told_in_part g c).After-event_of) c.note_all.ensures.told_in_part
