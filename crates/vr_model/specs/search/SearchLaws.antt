-- The laws of the searches, as statements.
use Rattle.std.specs.Prelude.{◌≡◌, ℕ, ◌+◌, ◌-◌, ◌<◌}
use Rattle.vr_model.specs.search.Outcomes.{SearchState}
use Rattle.vr_model.specs.search.Descents.{descent_from}
use Rattle.vr_model.specs.search.GuidedSearches.{Penalties, guided_from}
use Rattle.vr_model.specs.declared.records.Model.{Model}
use Rattle.vr_model.specs.declared.search.Limit.{Limit}
use Rattle.vr_model.specs.declared.search.Lambda.{Lambda}

-- a bound on the scans of a descent that is above the number of tries left is never met: a greater one changes nothing
abbrev pub DescentBoundUnmet : Type 0
DescentBoundUnmet =
    (model : Model) (limit : Limit) (scans more : ℕ) (state : SearchState) → limit.tries - state.used < scans
    → descent_from model limit (scans + more) state ≡ descent_from model limit scans state

-- the same of guided local search
abbrev pub GuidedBoundUnmet : Type 0
GuidedBoundUnmet =
    (model : Model) (limit : Limit) (lambda : Lambda) (scans more : ℕ) (penalties : Penalties) (state : SearchState)
    → limit.tries - state.used < scans
    → guided_from model limit lambda (scans + more) penalties state
    ≡ guided_from model limit lambda scans penalties state
