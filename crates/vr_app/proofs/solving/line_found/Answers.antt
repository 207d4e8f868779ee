use Rattle.std.proofs.Common.{ℕ, List, Option, ap, refl, sym, subst}
use Rattle.vr_rules.specs.Placing.{lists_in}
use Rattle.vr_watch.specs.Told.{Reported}
use Rattle.vr_app.specs.Found.{found_events, found_with}
use Rattle.vr_app.proofs.solving.line_found.Goals as goal

pub returns-in-None-clause-told : goal.returns-in-None-clause-told
returns-in-None-clause-told g c = λ log.
    let P : Option (List (List ℕ)) → Type 0 = λ o. Reported (λ w. (goal.Watch-dyn g (w.vtable, w.value)).after w.value)
    c.args.watch.now.items c.args.watch.now.items (found_events (found_with c.args.mode c.args.lookups.now.closed.model.now o)) in
    subst P (sym (ap lists_in c.in-None.is)) (record { heard = λ later. refl })

pub returns-in_ok-line-in-Some-clause-told : goal.returns-in_ok-line-in-Some-clause-told
returns-in_ok-line-in-Some-clause-told g c = λ log.
    let P : Option (List (List ℕ)) → Type 0 = λ o. Reported (λ w. (goal.Watch-dyn g (w.vtable, w.value)).after w.value)
    c.args.watch.now.items c.line_from.new.watch.items (found_events (found_with c.args.mode c.args.lookups.now.closed.model.now o)) in
    subst P (sym (ap lists_in c.in-Some.is)) (c.in_ok-line-in-Some.ensures.told log)
