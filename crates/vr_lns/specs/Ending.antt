-- How a search in code ends.
use Rattle.std.specs.Prelude.{◌≡◌, ℕ, List}
use Rattle.vr_model.specs.search.Outcomes.{Outcome}
use Rattle.vr_model.specs.declared.records.Report.{Report}
use Rattle.vr_model.specs.declared.search.Event.{Event}
use Rattle.vr_watch.specs.Told.{Reported}

-- with this report, at these lists, and with all of its events told, it ends as the outcome says
pub record SearchEndsAs {W : Type 0} (after : W → List Event → List ℕ) (outcome : Outcome) (lists : List (List ℕ))
    (old new : List W) (report : Report) : Type 0 where
  pub report_is : report ≡ outcome.report
  pub lists_are : lists ≡ outcome.last
  pub told : Reported after old new outcome.events
