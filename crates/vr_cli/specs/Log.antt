-- What the program writes of a search with `--log`.
use Rattle.std.specs.Prelude.{ℕ, List, [], ◌∷◌}
use Rattle.vr_model.specs.declared.search.Event.{Event}
use Rattle.vr_app.specs.Reports.{joined_reports}
use Rattle.vr_watch.specs.Reports.{tallied, traced}

-- the log of events: what a tally reports of them, and then what a trace does
abbrev pub log_of : List Event → List ℕ
log_of = joined_reports (λ report. report) (tallied ∷ traced ∷ [])
