-- The table of the search.
use Rattle.std.specs.Prelude.{ℕ, ◌==◌, List, [], ◌∷◌, pos, codes, Ok}
use Rattle.std.specs.List.{list_any}
use Rattle.vr_json.specs.declared.fault.Cause.TheVariants.{Repeated}
use Rattle.vr_json.specs.Reading.{◌>>=◌, ReaderOf, optional, known, array, two_entries, refuse_if}
use Rattle.vr_json.specs.Kinds.{whole, count, choice}
use Rattle.vr_model.specs.tables.WellFormed.{neighbourhood_number}
use Rattle.vr_model.specs.moves.Moves.{all_neighbourhoods}
use Rattle.vr_model.specs.declared.records.SearchRow.{SearchRow}
use Rattle.vr_read.specs.declared.searches.SearchChoices.{SearchChoices}
use Rattle.vr_model.specs.declared.records.First.{First}
use Rattle.vr_model.specs.declared.records.First.TheVariants.{PathCheapestArc, ParallelCheapestInsertion, Savings}
use Rattle.vr_model.specs.declared.records.Improve.{Improve}
use Rattle.vr_model.specs.declared.records.Improve.TheVariants as improve
use Rattle.vr_model.specs.declared.neighbours.Neighbourhood.{Neighbourhood}
use Rattle.vr_model.specs.declared.neighbours.Neighbourhood.TheVariants.{TwoOpt, OrOpt, Relocate, Exchange, Cross}
use Rattle.vr_model.specs.declared.neighbours.Neighbourhood.TheVariants.{RelocatePair, PairActive, PairInactive}
use Rattle.vr_model.specs.declared.neighbours.Neighbourhood.TheVariants.{MakeActive, MakeInactive, SwapActive}

-- what the words of `first` mean
abbrev pub strategies : List (List ℕ × First)
strategies =
    (codes "PATH_CHEAPEST_ARC", PathCheapestArc) ∷ (codes "PARALLEL_CHEAPEST_INSERTION", ParallelCheapestInsertion)
    ∷ (codes "SAVINGS", Savings) ∷ []

-- what the words of `improve` mean
abbrev pub improvements : List (List ℕ × Improve)
improvements =
    (codes "NONE", improve.None) ∷ (codes "GREEDY_DESCENT", improve.GreedyDescent)
    ∷ (codes "GUIDED_LOCAL_SEARCH", improve.GuidedLocalSearch) ∷ (codes "PATH_LNS", improve.PathLns)
    ∷ (codes "TABU_SEARCH", improve.TabuSearch) ∷ []

-- what the words of `neighbourhoods` mean
abbrev pub neighbourhood_words : List (List ℕ × Neighbourhood)
neighbourhood_words =
    (codes "two_opt", TwoOpt) ∷ (codes "or_opt", OrOpt) ∷ (codes "relocate", Relocate)
    ∷ (codes "exchange", Exchange) ∷ (codes "cross", Cross) ∷ (codes "relocate_pair", RelocatePair)
    ∷ (codes "pair_active", PairActive) ∷ (codes "pair_inactive", PairInactive)
    ∷ (codes "make_active", MakeActive) ∷ (codes "make_inactive", MakeInactive) ∷ (codes "swap_active", SwapActive) ∷ []

-- a neighbourhood, each once
unfoldable pub neighbourhood : List Neighbourhood → ReaderOf Neighbourhood
neighbourhood so_far path d = do
  chosen ← choice neighbourhood_words path d
  fresh ← refuse_if (list_any (λ other. neighbourhood_number other == neighbourhood_number chosen) so_far) Repeated path
  Ok chosen

-- the search if a model says nothing of it
abbrev pub default_search : SearchRow
default_search = record {
  first = PathCheapestArc;
  improve = improve.GreedyDescent;
  tries = 100000;
  solutions = 1000000000;
  p = pos 1;
  q = pos 10;
  neighbourhoods = all_neighbourhoods;
  cut = 10;
  tenure = 10;
}

-- how a search begins and goes on, and how far it may go
unfoldable pub choices : ReaderOf SearchChoices
choices path d = do
  first ← optional (codes "first") PathCheapestArc (choice strategies) path d
  improvement ← optional (codes "improve") improve.GreedyDescent (choice improvements) path d
  tries ← optional (codes "tries") 100000 (count 0 1000000000) path d
  solutions ← optional (codes "solutions") 1000000000 (count 1 1000000000) path d
  Ok (record { first = first; improve = improvement; tries = tries; solutions = solutions })

-- the fields of a search
abbrev pub search_fields : List (List ℕ)
search_fields =
    codes "first" ∷ codes "improve" ∷ codes "tries" ∷ codes "solutions" ∷ codes "lambda"
    ∷ codes "neighbourhoods" ∷ codes "cut" ∷ codes "tenure" ∷ []

-- the search
unfoldable pub search_row : ReaderOf SearchRow
search_row path d = do
  chosen ← choices path d
  lambda ← optional (codes "lambda") (pos 1, pos 10) (two_entries (whole (pos 1) (pos 1000))) path d
  neighbourhoods ← optional (codes "neighbourhoods") all_neighbourhoods (array 0 11 neighbourhood) path d
  cut ← optional (codes "cut") 10 (count 1 100) path d
  tenure ← optional (codes "tenure") 10 (count 1 1000) path d
  others ← known search_fields path d
  Ok (record {
    first = chosen.first;
    improve = chosen.improve;
    tries = chosen.tries;
    solutions = chosen.solutions;
    p = lambda.0;
    q = lambda.1;
    neighbourhoods = neighbourhoods;
    cut = cut;
    tenure = tenure;
  })
