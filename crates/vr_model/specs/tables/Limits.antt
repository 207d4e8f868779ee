-- The limits of a model. Times, loads and distances are in units of the model's own. No model that is read has a number
-- outside these limits, and what every layer above promises counts on them.
use Rattle.std.specs.Prelude.{◌≡◌, ℕ, ℤ, pos, negsuc}
use Rattle.vr_model.specs.tables.Numbers.{horizon}
use Rattle.vr_model.specs.declared.limits.TheConstants.{HORIZON, GREATEST_COST, LEAST_VALUE, GREATEST_VALUE}
use Rattle.vr_model.specs.declared.limits.TheConstants.{GREATEST_COEFFICIENT, GREATEST_LAMBDA, MOST_TRIES, MOST_NODES}
use Rattle.vr_model.specs.declared.limits.TheConstants.{MOST_VEHICLES, MOST_MATRICES, MOST_DIMENSIONS, MOST_EVALUATORS}
use Rattle.vr_model.specs.declared.limits.TheConstants.{MOST_BREAKS, MOST_FORBIDDEN, MOST_GROUPS, MOST_PAIRS}
use Rattle.vr_model.specs.declared.limits.TheConstants.{MOST_NAME_BYTES, MOST_INPUT_BYTES, MOST_NEIGHBOURHOODS}
use Rattle.vr_model.specs.declared.limits.TheConstants.{MOST_CUT, MOST_TENURE}

-- ---- numbers

-- the greatest entry of a matrix, fixed cost and penalty, 2 ^ 40
abbrev pub greatest_cost : ℤ
greatest_cost = pos 1099511627776

-- the least entry of a matrix and value of a node, -(2 ^ 30)
abbrev pub least_value : ℤ
least_value = negsuc 1073741823

-- the greatest value and visit time of a node, and the greatest entry of a matrix that a dimension uses, 2 ^ 30
abbrev pub greatest_value : ℤ
greatest_value = pos 1073741824

-- the greatest coefficient of a soft bound and of a span
abbrev pub greatest_coefficient : ℤ
greatest_coefficient = pos 10000

-- the greatest numerator and denominator of lambda
abbrev pub greatest_lambda : ℤ
greatest_lambda = pos 1000

-- ---- how many there are at most

abbrev pub most_nodes : ℕ
most_nodes = 1000

abbrev pub most_vehicles : ℕ
most_vehicles = 100

abbrev pub most_matrices : ℕ
most_matrices = 16

abbrev pub most_dimensions : ℕ
most_dimensions = 4

abbrev pub most_evaluators : ℕ
most_evaluators = 8

-- breaks of a vehicle in a dimension, and forbidden intervals of a stop
abbrev pub most_breaks : ℕ
most_breaks = 8

abbrev pub most_forbidden : ℕ
most_forbidden = 16

abbrev pub most_groups : ℕ
most_groups = 1000

abbrev pub most_pairs : ℕ
most_pairs = 500

-- bytes of the name of a dimension, and of an input: 64 MiB
abbrev pub most_name_bytes : ℕ
most_name_bytes = 64

abbrev pub most_input_bytes : ℕ
most_input_bytes = 67108864

-- moves or cuts that are tried, and solutions that are found
abbrev pub most_tries : ℕ
most_tries = 1000000000

abbrev pub most_neighbourhoods : ℕ
most_neighbourhoods = 11

-- visits of the chain that a cut takes out of a path, and rounds for which a changed visit is tabu
abbrev pub most_cut : ℕ
most_cut = 100

abbrev pub most_tenure : ℕ
most_tenure = 1000

-- ---- the constants of the code are these

pub record NumbersAsDefined : Type 0 where
  pub cumuls : HORIZON ≡ horizon
  pub costs : GREATEST_COST ≡ greatest_cost
  pub least : LEAST_VALUE ≡ least_value
  pub values : GREATEST_VALUE ≡ greatest_value
  pub coefficients : GREATEST_COEFFICIENT ≡ greatest_coefficient
  pub lambda : GREATEST_LAMBDA ≡ greatest_lambda

pub record CountsAsDefined : Type 0 where
  pub nodes : MOST_NODES ≡ most_nodes
  pub vehicles : MOST_VEHICLES ≡ most_vehicles
  pub matrices : MOST_MATRICES ≡ most_matrices
  pub dimensions : MOST_DIMENSIONS ≡ most_dimensions
  pub evaluators : MOST_EVALUATORS ≡ most_evaluators
  pub breaks : MOST_BREAKS ≡ most_breaks
  pub forbidden : MOST_FORBIDDEN ≡ most_forbidden
  pub groups : MOST_GROUPS ≡ most_groups
  pub pairs : MOST_PAIRS ≡ most_pairs
  pub name_bytes : MOST_NAME_BYTES ≡ most_name_bytes
  pub input_bytes : MOST_INPUT_BYTES ≡ most_input_bytes
  pub tries : MOST_TRIES ≡ most_tries
  pub neighbourhoods : MOST_NEIGHBOURHOODS ≡ most_neighbourhoods
  pub cut : MOST_CUT ≡ most_cut
  pub tenure : MOST_TENURE ≡ most_tenure

-- both
pub record LimitsAsDefined : Type 0 where
  pub numbers : NumbersAsDefined
  pub counts : CountsAsDefined
