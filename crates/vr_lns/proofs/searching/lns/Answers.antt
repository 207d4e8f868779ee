use Rattle.std.proofs.Common.{◌≡◌, [], subst, sym}
use Rattle.vr_descent.specs.Ending.{HasEnded}
use Rattle.std.specs.Prelude.{IfOk, IsTrue, OnErr}
use Rattle.vr_model.specs.routes.Rules.{is_valid}
use Rattle.vr_model.specs.tables.Tables.{visits}
use Rattle.vr_model.proofs.tables.Refusals.{on_err}
use Rattle.vr_watch.specs.Told.{ReportedInPart}
use Rattle.vr_watch.proofs.ToldLemmas.{none_behind, told_nothing}
use Rattle.vr_lns.specs.PathLns.{path_lns}
use Rattle.vr_lns.proofs.searching.lns.Goals as goal

pub lns_over-requires-clause-of_model : goal.lns_over-requires-clause-of_model
lns_over-requires-clause-of_model g c = subst (λ model. c.args.routes.now.visits ≡ visits model) (sym c.in_ok-lookups.ensures) c.requires.of_model

pub lns_over-requires-clause-valid : goal.lns_over-requires-clause-valid
lns_over-requires-clause-valid g c = subst (λ model. IsTrue (is_valid model c.args.routes.now.lists)) (sym c.in_ok-lookups.ensures) c.requires.valid

pub returns-in_err-lookups-clause-told_in_part : goal.returns-in_err-lookups-clause-told_in_part
returns-in_err-lookups-clause-told_in_part g c =
    on_err c.from_residual.result (none_behind (λ w. (goal.Watch-dyn g (w.vtable, w.value)).after w.value) _ _ [] _ (told_nothing _ _))

pub returns-clause-ended : goal.returns-clause-ended
returns-clause-ended g c =
    subst (λ model. IfOk c.lns_over.result
    (λ report. HasEnded (λ w. (goal.Watch-dyn g (w.vtable, w.value)).after w.value) model c.args.limit
    (path_lns model c.args.routes.now.lists c.args.limit c.args.cut) c.args.routes.now c.lns_over.new.routes c.args.watch.now.items
    c.lns_over.new.watch.items report c.lns_over.new.routes)) c.in_ok-lookups.ensures c.lns_over.ensures.ended

pub returns-clause-valid : goal.returns-clause-valid
returns-clause-valid g c = subst (λ model. IsTrue (is_valid model c.lns_over.new.routes.lists)) c.in_ok-lookups.ensures c.lns_over.ensures.valid

pub returns-clause-told_in_part : goal.returns-clause-told_in_part
returns-clause-told_in_part g c =
    subst (λ model. OnErr c.lns_over.result
    (ReportedInPart (λ w. (goal.Watch-dyn g (w.vtable, w.value)).after w.value) c.args.watch.now.items c.lns_over.new.watch.items
    (path_lns model c.args.routes.now.lists c.args.limit c.args.cut).events)) c.in_ok-lookups.ensures c.lns_over.ensures.told_in_part
