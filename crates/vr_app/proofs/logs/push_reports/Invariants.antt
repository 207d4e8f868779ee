use Rattle.std.proofs.Common.{◌≡◌, ◌++◌, [], take}
use Rattle.vr_app.specs.Reports.{joined_reports}
use Rattle.vr_app.proofs.logs.push_reports.Given as goal

-- behind the text stand the reports of the watchers so far
abbrev pub invariant-loop-watcher : goal.invariant-loop-watcher
invariant-loop-watcher g l =
    l.text ≡ l.initial.text ++ joined_reports (λ w. (goal.Watch-dyn g (w.vtable, w.value)).after w.value) (take l.watcher-index l.watch.items) []
