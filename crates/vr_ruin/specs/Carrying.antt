-- Whether a vehicle can carry an item beside a list, in the dimensions that are loads.
use Rattle.std.specs.Prelude.{◌≡◌, ℕ, ◌<◌, Bool, true, false, not, ◌||◌, IsTrue, List, [], length, ◌+ℤ◌, int_le}
use Rattle.std.specs.Prelude.{slice_index_or, ℤ}
use Rattle.std.specs.List.{list_all}
use Rattle.vr_model.specs.tables.Numbers.{below, number_at, total_by}
use Rattle.vr_model.specs.tables.Tables.{dimension_at}
use Rattle.vr_model.specs.routes.Routes.{is_empty}
use Rattle.vr_model.specs.declared.records.Model.{Model}
use Rattle.vr_balance.specs.Sums.{IsUpTo}
use Rattle.vr_loads.specs.Loads.{is_load, load_of, taken}

-- vehicle v can carry nodes beside a list in dimension d
abbrev pub carries : Model → ℕ → ℕ → List ℕ → List ℕ → Bool
carries model d v list nodes =
    int_le (load_of model d v list +ℤ total_by (taken model d v) nodes) (number_at (dimension_at model d).capacities v)

-- it can if the dimension is a load
abbrev pub carries_in : Model → ℕ → List ℕ → List ℕ → ℕ → Bool
carries_in model v list nodes d = not (is_load model d) || carries model d v list nodes

-- it can in each dimension that is a load
abbrev pub carries_all : Model → ℕ → List ℕ → List ℕ → Bool
carries_all model v list nodes = list_all (carries_in model v list nodes) (below (length model.dimensions))

-- loads alone say which lists are open: each dimension is one, no visit is in a pair, and all vehicles may visit it
pub record IsPlain (model : Model) : Type 0 where
  pub loads : (d : ℕ) → d < length model.dimensions → IsTrue (is_load model d)
  pub pairs : model.pairs ≡ []
  pub allowed : model.allowed ≡ []

-- no visit is in a pair, and all vehicles may visit it
pub record IsFree (model : Model) : Type 0 where
  pub pairs : model.pairs ≡ []
  pub allowed : model.allowed ≡ []

-- for each dimension whether it is a load
pub record AreLoads (model : Model) (loads : List Bool) : Type 0 where
  pub many : length loads ≡ length model.dimensions
  pub each : (d : ℕ) (other : Bool) → d < length loads → slice_index_or loads d other ≡ is_load model d

-- which dimensions are loads, and whether a model is plain, and free of pairs and of visits for certain vehicles
pub record IsCarrier (model : Model) (loads : List Bool) (plain free : Bool) : Type 0 where
  pub loads_are : AreLoads model loads
  pub plain_is : IsTrue plain → IsPlain model
  pub free_is : IsTrue free → IsFree model

-- ---- what a list takes, kept beside it

-- what a list of vehicle v takes in dimension d, if that is a load
pub record IsSumIn (model : Model) (v : ℕ) (list : List ℕ) (d : ℕ) (x : ℤ) : Type 0 where
  pub value : is_load model d ≡ true → x ≡ load_of model d v list
  pub range : IsUpTo 1001 x

-- what a list of vehicle v takes in each dimension that is a load
pub record AreSums (model : Model) (v : ℕ) (list : List ℕ) (sums : List ℤ) : Type 0 where
  pub many : length sums ≡ length model.dimensions
  pub each : (d : ℕ) (other : ℤ) → d < length sums → IsSumIn model v list d (slice_index_or sums d other)

-- the same of a list that is not empty
abbrev pub AreSumsIfUsed : Model → ℕ → List ℕ → List ℤ → Type 0
AreSumsIfUsed model v list sums = is_empty list ≡ false → AreSums model v list sums
