-- Path neighbourhoods and tabu search on three nodes, computed.
use Rattle.std.proofs.Common.{◌≡◌, ℕ, List, [], ◌∷◌, refl, Some}
use Rattle.std.specs.Prelude.{ℤ, pos}
use Rattle.vr_model.specs.first.FirstSolutions.{build, first_lists}
use Rattle.vr_model.specs.moves.Moves.{moves_over}
use Rattle.vr_model.specs.routes.Costs.{cost}
use Rattle.vr_model.specs.routes.Rules.{is_open, is_valid}
use Rattle.vr_model.specs.declared.records.End.TheVariants.{Optimum, Tries}
use Rattle.vr_model.specs.declared.records.Model.{Model}
use Rattle.vr_model.specs.declared.search.Kind.TheVariants as kind
use Rattle.vr_model.specs.declared.search.Limit.{Limit}
use Rattle.vr_model.proofs.worked.WorkedModels.{car, default_limit, model_of, three}
use Rattle.vr_lns.specs.Cuts.{accepted_by}
use Rattle.vr_lns.specs.PathLns.{path_lns, path_lns_from}
use Rattle.vr_tabu.specs.TabuSearches.{is_tabu, tabu_from, tabu_search}

-- three nodes in a ring that is cheap one way round
abbrev ring_entries : List ℤ
ring_entries = pos 0 ∷ pos 1 ∷ pos 2 ∷ pos 1 ∷ pos 0 ∷ pos 9 ∷ pos 9 ∷ pos 1 ∷ pos 0 ∷ []

abbrev ring : Model
ring = model_of 3 ring_entries (car ∷ []) []

abbrev tries : Limit → ℕ → Limit
tries limit n = record limit { tries = n }

-- its first solution goes the dear way
ring_first : first_lists ring ≡ Some ((1 ∷ 2 ∷ []) ∷ [])
unfolding first_lists build is_valid is_open
ring_first = refl

-- ---- path neighbourhoods

-- the first cut takes out both visits, and put in anew they stand the other way round; then both cuts give nothing less
cuts_turn_the_ring : path_lns ring ((1 ∷ 2 ∷ []) ∷ []) default_limit 10 ≡ record {
  last = (2 ∷ 1 ∷ []) ∷ [];
  best = (2 ∷ 1 ∷ []) ∷ [];
  report = record { tries = 3; solutions = 2; «end» = Optimum };
  events = record { tries = 0; kind = kind.First; cost = pos 19 } ∷ record { tries = 1; kind = kind.Move; cost = pos 4 } ∷ [];
}
unfolding path_lns path_lns_from accepted_by is_valid is_open cost
cuts_turn_the_ring = refl

-- with one try it is cut behind the first cut
one_cut : path_lns ring ((1 ∷ 2 ∷ []) ∷ []) (tries default_limit 1) 10 ≡ record {
  last = (2 ∷ 1 ∷ []) ∷ [];
  best = (2 ∷ 1 ∷ []) ∷ [];
  report = record { tries = 1; solutions = 2; «end» = Tries };
  events = record { tries = 0; kind = kind.First; cost = pos 19 } ∷ record { tries = 1; kind = kind.Move; cost = pos 4 } ∷ [];
}
unfolding path_lns path_lns_from accepted_by is_valid is_open cost
one_cut = refl

-- ---- tabu search

-- the first round makes a move that costs as much, and in the second every move is tabu
tabu_goes_round : tabu_search three ((1 ∷ 2 ∷ []) ∷ []) default_limit 10 ≡ record {
  last = (2 ∷ 1 ∷ []) ∷ [];
  best = (1 ∷ 2 ∷ []) ∷ [];
  report = record { tries = 12; solutions = 2; «end» = Optimum };
  events = record { tries = 0; kind = kind.First; cost = pos 18 } ∷ record { tries = 6; kind = kind.Move; cost = pos 18 } ∷ [];
}
unfolding tabu_search tabu_from is_tabu moves_over is_valid is_open cost
tabu_goes_round = refl

-- it turns the ring, and stops where it finds no move that is not tabu
tabu_turns_the_ring : tabu_search ring ((1 ∷ 2 ∷ []) ∷ []) default_limit 10 ≡ record {
  last = (2 ∷ 1 ∷ []) ∷ [];
  best = (2 ∷ 1 ∷ []) ∷ [];
  report = record { tries = 12; solutions = 2; «end» = Optimum };
  events = record { tries = 0; kind = kind.First; cost = pos 19 } ∷ record { tries = 6; kind = kind.Move; cost = pos 4 } ∷ [];
}
unfolding tabu_search tabu_from is_tabu moves_over is_valid is_open cost
tabu_turns_the_ring = refl

-- with fewer tries than moves no move is made
tabu_cut : tabu_search ring ((1 ∷ 2 ∷ []) ∷ []) (tries default_limit 5) 10 ≡ record {
  last = (1 ∷ 2 ∷ []) ∷ [];
  best = (1 ∷ 2 ∷ []) ∷ [];
  report = record { tries = 5; solutions = 1; «end» = Tries };
  events = record { tries = 0; kind = kind.First; cost = pos 19 } ∷ [];
}
unfolding tabu_search tabu_from is_tabu moves_over is_valid is_open cost
tabu_cut = refl
