-- Models in which each way takes the same time and nothing else is asked, and what a swap weighs there.
use Rattle.std.specs.Prelude.{◌≡◌, ◌≢◌, ℕ, ◌<◌, ◌≤◌, true, IsTrue, List, [], ◌∷◌, ◌++◌, length, pos}
use Rattle.std.specs.List.{list_all}
use Rattle.vr_model.specs.tables.Numbers.{number_at, horizon}
use Rattle.vr_model.specs.tables.Tables.{dimension_at, vehicle_at, is_visit, transit}
use Rattle.vr_model.specs.tables.WellFormed.{IsWellFormed}
use Rattle.vr_model.specs.routes.Routes.{is_distinct}
use Rattle.vr_model.specs.schedules.Lines.{line}
use Rattle.vr_model.specs.schedules.Choices.{is_feasible}
use Rattle.vr_model.specs.schedules.Weights.{list_weight}
use Rattle.vr_model.specs.declared.records.Dimension.{Dimension}
use Rattle.vr_model.specs.declared.records.Model.{Model}

-- the same dimension, which asks nothing else. It has a fixed start, no waiting, a capacity as large as can be for the
-- first vehicle, no rows of stops and no breaks
abbrev pub asking_nothing_else : Dimension → Dimension
asking_nothing_else dimension = record dimension {
  slack_max = pos 0;
  fix_start = true;
  capacities = horizon ∷ [];
  nodes = [];
  starts = [];
  ends = [];
  breaks = [];
}

-- the first vehicle goes from node 0 to node 0. In the first dimension the way between any two nodes takes 5, and
-- nothing else is asked
pub record IsEven (model : Model) : Type 0 where
  pub well_formed : IsWellFormed model
  pub vehicle : 0 < length model.vehicles
  pub start : (vehicle_at model 0).start ≡ 0
  pub «end» : (vehicle_at model 0).end ≡ 0
  pub some_dimension : 0 < length model.dimensions
  pub nothing_else : dimension_at model 0 ≡ asking_nothing_else (dimension_at model 0)
  pub visits : (i : ℕ) → number_at (dimension_at model 0).visit i ≡ pos 0
  pub transits : (i j : ℕ) → i < model.nodes → j < model.nodes → i ≢ j → transit model 0 0 i j ≡ pos 5

-- there is an even model
abbrev pub SomeModelIsEven : Type 0
SomeModelIsEven = (model : Model) × IsEven model

-- a list of distinct visits of the model, of at most 1000
pub record IsShortTour (model : Model) (list : List ℕ) : Type 0 where
  pub visits : IsTrue (list_all (is_visit model) list)
  pub distinct : IsTrue (is_distinct list)
  pub few : length list ≤ 1000

-- what is claimed of two lists of an even model that differ in the order of two neighbours
abbrev pub OfEachSwap : (Model → List ℕ → List ℕ → Type 0) → Type 0
OfEachSwap claim = (model : Model) → IsEven model → (front back : List ℕ) (a b : ℕ)
    → IsShortTour model (front ++ b ∷ a ∷ back) → claim model (front ++ a ∷ b ∷ back) (front ++ b ∷ a ∷ back)

-- two neighbours that change places in a list weigh 5, however long the list is
abbrev pub SwapWeighsFive : Type 0
SwapWeighsFive = OfEachSwap (λ model old new. list_weight model 0 0 old new ≡ 5)

-- two neighbours that change places in a list leave it a schedule
abbrev pub SwapIsFeasible : Type 0
SwapIsFeasible = OfEachSwap (λ model old new. IsTrue (is_feasible (line model 0 0 new)))
