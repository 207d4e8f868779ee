-- The bound on the rounds of the search is never met, as a statement.
use Rattle.std.specs.Prelude.{◌≡◌, ℕ, ◌+◌, ◌-◌, ◌<◌}
use Rattle.vr_model.specs.search.Outcomes.{SearchState}
use Rattle.vr_model.specs.declared.records.Model.{Model}
use Rattle.vr_model.specs.declared.search.Limit.{Limit}
use Rattle.vr_lns.specs.PathLns.{path_lns_from}

-- a bound on the rounds that is above the number of tries left is never met: a greater one changes nothing
abbrev pub PathLnsBoundUnmet : Type 0
PathLnsBoundUnmet =
    (model : Model) (most : ℕ) (limit : Limit) (rounds more : ℕ) (state : SearchState)
    → limit.tries - state.used < rounds
    → path_lns_from model most limit (rounds + more) state ≡ path_lns_from model most limit rounds state
