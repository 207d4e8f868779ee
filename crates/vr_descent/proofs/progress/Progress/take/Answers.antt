use Rattle.std.proofs.Common.{◌≡◌, ◌∙◌, ◌+◌, [], ◌∷◌, ◌+ℤ◌, w64, to_z, of_z, ap, subst, arith}
use Rattle.std.proofs.lemmas.Int.{ints}
use Rattle.vr_descent.specs.Searching.{move_event}
use Rattle.vr_model.specs.routes.Costs.{cost}
use Rattle.vr_model.specs.moves.Moves.{apply}
use Rattle.vr_model.specs.declared.search.Kind.TheVariants as kind
use Rattle.vr_watch.specs.Told.{Reported, ReportedInPart}
use Rattle.vr_model.proofs.tables.Refusals.{on_err}
use Rattle.vr_watch.proofs.ToldLemmas.{none_behind, told_nothing}
use Rattle.vr_descent.specs.declared.progress.Progress.{Progress}
use Rattle.vr_descent.proofs.progress.Progress.take.Goals as goal

pub returns-in_err-commit_change-clause-told_in_part : goal.returns-in_err-commit_change-clause-told_in_part
returns-in_err-commit_change-clause-told_in_part g c = on_err c.from_residual.result
    (none_behind (λ w. (goal.Watch-dyn g (w.vtable, w.value)).after w.value) _ _ [] _ (told_nothing _ _))

pub returns-in_err-note_all-clause-told_in_part : goal.returns-in_err-note_all-clause-told_in_part
returns-in_err-note_all-clause-told_in_part g c =
    let after = apply (g.J.Judge.model c.args.judge.now) c.args.routes.now.lists c.args.found.mv in
    let sum : to_z w64 (of_z w64 (to_z w64 (of_z w64 c.args.self.now.cost) +ℤ to_z w64 (of_z w64 c.args.found.difference)))
    ≡ cost (g.J.Judge.model c.args.judge.now) after =
    omega (arith, ints, c.requires.cost, c.requires.difference, c.requires.fits.least, c.requires.fits.greatest) in
    let same : c.event.result ≡ move_event (g.J.Judge.model c.args.judge.now)
    c.args.routes.now.lists c.args.found.mv (c.args.self.now.used + c.args.found.place)
    = c.event.ensures ∙ ap (λ k. record { tries = c.args.self.now.used + c.args.found.place; kind = kind.Move; cost = k }) sum in
    on_err c.from_residual-in_err-note_all.result
    (subst
    (λ event. ReportedInPart (λ w. (goal.Watch-dyn g (w.vtable, w.value)).after w.value) c.args.watch.now.items c.note_all.new.watch.items (event ∷ []))
    same c.in_err-note_all.ensures.told_in_part)

pub returns-clause-progress : goal.returns-clause-progress
returns-clause-progress g c =
    let after = apply (g.J.Judge.model c.args.judge.now) c.args.routes.now.lists c.args.found.mv in
    let sum : to_z w64 (of_z w64 (to_z w64 (of_z w64 c.args.self.now.cost) +ℤ to_z w64 (of_z w64 c.args.found.difference)))
    ≡ cost (g.J.Judge.model c.args.judge.now) after =
    omega (arith, ints, c.requires.cost, c.requires.difference, c.requires.fits.least, c.requires.fits.greatest) in
    ap {B = Progress} (λ k. record { used = c.args.self.now.used + c.args.found.place; found = c.args.self.now.found + 1; cost = k }) sum

pub returns-clause-told : goal.returns-clause-told
returns-clause-told g c =
    let after = apply (g.J.Judge.model c.args.judge.now) c.args.routes.now.lists c.args.found.mv in
    let sum : to_z w64 (of_z w64 (to_z w64 (of_z w64 c.args.self.now.cost) +ℤ to_z w64 (of_z w64 c.args.found.difference)))
    ≡ cost (g.J.Judge.model c.args.judge.now) after =
    omega (arith, ints, c.requires.cost, c.requires.difference, c.requires.fits.least, c.requires.fits.greatest) in
    let same : c.event.result ≡ move_event (g.J.Judge.model c.args.judge.now)
    c.args.routes.now.lists c.args.found.mv (c.args.self.now.used + c.args.found.place)
    = c.event.ensures ∙ ap (λ k. record { tries = c.args.self.now.used + c.args.found.place; kind = kind.Move; cost = k }) sum in
    subst (λ event. Reported (λ w. (goal.Watch-dyn g (w.vtable, w.value)).after w.value) c.args.watch.now.items c.note_all.new.watch.items (event ∷ []))
    same c.in_ok-note_all.ensures.told
