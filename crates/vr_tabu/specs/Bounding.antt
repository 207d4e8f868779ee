-- The bound on the rounds of the search is never met, as a statement.
use Rattle.std.specs.Prelude.{◌≡◌, ℕ, ◌+◌, ◌-◌, ◌<◌}
use Rattle.vr_model.specs.search.Outcomes.{SearchState}
use Rattle.vr_model.specs.declared.records.Model.{Model}
use Rattle.vr_model.specs.declared.search.Limit.{Limit}
use Rattle.vr_tabu.specs.TabuSearches.{TabuList, tabu_from}

-- a bound on the rounds that is above the number of tries left is never met: a greater one changes nothing
abbrev pub TabuBoundUnmet : Type 0
TabuBoundUnmet =
    (model : Model) (limit : Limit) (tenure rounds more : ℕ) (tabus : TabuList) (state : SearchState)
    → limit.tries - state.used < rounds
    → tabu_from model limit tenure (rounds + more) tabus state ≡ tabu_from model limit tenure rounds tabus state
