-- The search as it is read.
use Rattle.std.proofs.Common.{ℕ, ◌≤◌, ◌==◌, List, length, map, refl, arith}
use Rattle.std.specs.Prelude.{pos, codes, IsTrue}
use Rattle.std.specs.List.{list_any}
use Rattle.std.proofs.lemmas.Int.{ints}
use Rattle.vr_model.specs.routes.Routes.{is_distinct}
use Rattle.vr_model.specs.tables.WellFormed.{IsIn, IsSearch, neighbourhood_number}
use Rattle.vr_model.specs.declared.neighbours.Neighbourhood.{Neighbourhood}
use Rattle.vr_model.specs.moves.Moves.{all_neighbourhoods}
use Rattle.vr_read.specs.declared.searches.SearchChoices.{SearchChoices}
use Rattle.vr_read.specs.Searches.{neighbourhood, default_search, choices, search_row}
use Rattle.vr_json.proofs.Readings.{EachEnsures, EachFresh, gives, after, any_value, weaker, whole_ensures, count_ensures, optional_ensures, refuse_if_ensures}
use Rattle.vr_json.proofs.Readings.{two_entries_ensure}
use Rattle.vr_read.proofs.Distinct.{numbered_array_ensures}

neighbourhood_ensures : EachFresh (λ chosen. Unit {0}) (λ other chosen. neighbourhood_number other == neighbourhood_number chosen) neighbourhood
unfolding neighbourhood
neighbourhood_ensures so_far path d =
    after any_value λ chosen _.
    after (refuse_if_ensures (list_any (λ other. neighbourhood_number other == neighbourhood_number chosen) so_far) _ _) λ fresh apart.
    gives (tt, apart)

-- distinct neighbourhoods
record AreNeighbourhoods (chosen : List Neighbourhood) : Type 0 where
  at_most_all : length chosen ≤ 11
  no_neighbourhood_twice : IsTrue (is_distinct (map neighbourhood_number chosen))

weight_in_range : (k : ℕ) → 1 ≤ k → k ≤ 1000 → IsIn (pos 1) (pos 1000) (pos k)
weight_in_range k low high = record { at_least = omega (arith, ints); at_most = omega (arith, ints) }

pub default_in_range : IsSearch default_search
default_in_range = record {
  tries_in_range = omega arith;
  solutions_in_range = (omega arith, omega arith);
  p_in_range = weight_in_range 1 (omega arith) (omega arith);
  q_in_range = weight_in_range 10 (omega arith) (omega arith);
  number_of_neighbourhoods = omega arith;
  no_neighbourhood_twice = refl;
  cut_in_range = (omega arith, omega arith);
  tenure_in_range = (omega arith, omega arith);
}

-- the limits that are read
record AreChoices (read : SearchChoices) : Type 0 where
  tries_in_range : read.tries ≤ 1000000000
  solutions_in_range : (1 ≤ read.solutions) × (read.solutions ≤ 1000000000)

choices_ensure : EachEnsures AreChoices choices
unfolding choices
choices_ensure path d =
    after any_value λ first _.
    after any_value λ improvement _.
    after (optional_ensures (codes "tries") 100000 (omega arith, omega arith) (count_ensures 0 1000000000) path d) λ tries tries_ok.
    after (optional_ensures (codes "solutions") 1000000000 (omega arith, omega arith) (count_ensures 1 1000000000) path d) λ solutions solutions_ok.
    gives (record { tries_in_range = tries_ok.1; solutions_in_range = solutions_ok })

pub search_ensures : EachEnsures IsSearch search_row
unfolding search_row
search_ensures path d =
    after (choices_ensure path d) λ chosen limits_ok.
    after (optional_ensures (codes "lambda") (pos 1, pos 10) (default_in_range.p_in_range, default_in_range.q_in_range)
    (two_entries_ensure (whole_ensures (pos 1) (pos 1000))) path d) λ lambda lambda_ok.
    after (optional_ensures {P = AreNeighbourhoods} (codes "neighbourhoods")
    all_neighbourhoods (record { at_most_all = omega arith; no_neighbourhood_twice = refl })
    (λ p e. weaker (λ chosen h. record { at_most_all = h.0.at_most; no_neighbourhood_twice = h.1.1 })
    (numbered_array_ensures neighbourhood_number 0 11 neighbourhood_ensures p e)) path d) λ neighbourhoods chosen_ok.
    after (optional_ensures (codes "cut") 10 (omega arith, omega arith) (count_ensures 1 100) path d) λ cut cut_ok.
    after (optional_ensures (codes "tenure") 10 (omega arith, omega arith) (count_ensures 1 1000) path d) λ tenure tenure_ok.
    after any_value λ others _.
    gives (record {
      tries_in_range = limits_ok.tries_in_range;
      solutions_in_range = limits_ok.solutions_in_range;
      p_in_range = lambda_ok.0;
      q_in_range = lambda_ok.1;
      number_of_neighbourhoods = chosen_ok.at_most_all;
      no_neighbourhood_twice = chosen_ok.no_neighbourhood_twice;
      cut_in_range = cut_ok;
      tenure_in_range = tenure_ok;
    })
