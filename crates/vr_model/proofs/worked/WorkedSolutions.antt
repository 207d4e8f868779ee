-- Worked first solutions, moves, costs and searches, computed.
use Rattle.std.proofs.Common.{◌≡◌, true, false, List, [], ◌∷◌, length, map, refl, Some}
use Rattle.std.specs.Prelude.{pos}
use Rattle.vr_model.specs.routes.Rules.{is_route_open, is_open, is_valid}
use Rattle.vr_model.specs.moves.Moves.{apply, moves, moves_over, moves_in, all_neighbourhoods}
use Rattle.vr_model.specs.routes.Costs.{parts_at, cost}
use Rattle.vr_model.specs.first.FirstSolutions.{build, first_lists}
use Rattle.vr_model.specs.search.Descents.{descent, descent_from}
use Rattle.vr_model.specs.search.GuidedSearches.{augmented, guided, guided_from}
use Rattle.vr_model.specs.schedules.Schedules.{Plan}
use Rattle.vr_model.specs.declared.records.First.TheVariants.{ParallelCheapestInsertion, Savings}
use Rattle.vr_model.specs.declared.records.Policy.TheVariants.{Any, Lifo, Fifo}
use Rattle.vr_model.specs.declared.records.End.TheVariants.{Optimum, Tries}
use Rattle.vr_model.specs.declared.search.Kind.TheVariants as kind
use Rattle.vr_model.specs.declared.neighbours.Move.TheVariants.{TwoOpt, OrOpt, Relocate, Exchange, MakeInactive}
use Rattle.vr_model.proofs.worked.WorkedModels.{car, model_of, default_limit, default_lambda, three, by, optional, back_pair, optional_pair, far_entries}
use Rattle.vr_model.proofs.worked.WorkedModels.{two_cars, policed}

-- ---- first solutions

-- three nodes: node 1 is nearer to the depot, and node 2 follows
first_by_arc : first_lists three ≡ Some ((1 ∷ 2 ∷ []) ∷ [])
unfolding first_lists build is_valid is_open
first_by_arc = refl

-- node 1 goes first; node 2 then costs 8 at both places, and the lower place wins
first_by_insertion : first_lists (by ParallelCheapestInsertion three) ≡ Some ((2 ∷ 1 ∷ []) ∷ [])
unfolding first_lists build is_valid is_open
first_by_insertion = refl

-- both savings are 10, and the tie goes to the join behind node 1
first_by_savings : first_lists (by Savings three) ≡ Some ((1 ∷ 2 ∷ []) ∷ [])
unfolding first_lists build is_valid is_open
first_by_savings = refl

first_cost : cost three ((1 ∷ 2 ∷ []) ∷ []) ≡ pos 18
unfolding cost
first_cost = refl

-- a pair is appended and inserted as one, its pickup first
pair_by_arc : first_lists back_pair ≡ Some ((2 ∷ 1 ∷ []) ∷ [])
unfolding first_lists build is_valid is_open
pair_by_arc = refl

pair_by_insertion : first_lists (by ParallelCheapestInsertion back_pair) ≡ Some ((2 ∷ 1 ∷ []) ∷ [])
unfolding first_lists build is_valid is_open
pair_by_insertion = refl

-- a node with a penalty goes last, even one of 0
optional_by_insertion : first_lists (by ParallelCheapestInsertion (optional 1 (pos 0))) ≡ Some ((1 ∷ 2 ∷ []) ∷ [])
unfolding first_lists build is_valid is_open
optional_by_insertion = refl

-- savings of -7: joined only where there are fewer vehicles than routes
far_with_one : first_lists (by Savings (model_of 3 far_entries (car ∷ []) [])) ≡ Some ((1 ∷ 2 ∷ []) ∷ [])
unfolding first_lists build is_valid is_open
far_with_one = refl

far_with_two : first_lists (by Savings (model_of 3 far_entries (car ∷ car ∷ []) [])) ≡ Some ((1 ∷ []) ∷ (2 ∷ []) ∷ [])
unfolding first_lists build is_valid is_open
far_with_two = refl

-- ---- valid lists

-- a visit twice in one list, the depot, a number that is no node, and a list too many
no_lists : map (is_valid three) (((1 ∷ 1 ∷ 2 ∷ []) ∷ []) ∷ ((1 ∷ 2 ∷ 0 ∷ []) ∷ []) ∷ ((1 ∷ 2 ∷ 77 ∷ []) ∷ []) ∷ ((1 ∷ []) ∷ (2 ∷ []) ∷ []) ∷ [])
    ≡ false ∷ false ∷ false ∷ false ∷ []
unfolding is_valid is_open
no_lists = refl

-- crossed pairs are against last in first out, nested pairs against first in first out
crossed_pairs : map (λ policy. is_route_open (policed policy) 0 (1 ∷ 3 ∷ 2 ∷ 4 ∷ [])) (Any ∷ Lifo ∷ Fifo ∷ []) ≡ true ∷ false ∷ true ∷ []
crossed_pairs = refl

nested_pairs : map (λ policy. is_route_open (policed policy) 0 (1 ∷ 3 ∷ 4 ∷ 2 ∷ [])) (Any ∷ Lifo ∷ Fifo ∷ []) ≡ true ∷ true ∷ false ∷ []
nested_pairs = refl

-- a delivery before its pickup, and a pickup alone, are against every policy
delivery_first : map (λ policy. is_route_open (policed policy) 0 (2 ∷ 1 ∷ 3 ∷ 4 ∷ [])) (Any ∷ Lifo ∷ Fifo ∷ []) ≡ false ∷ false ∷ false ∷ []
delivery_first = refl

pickup_alone : map (λ policy. is_route_open (policed policy) 0 (1 ∷ 3 ∷ 4 ∷ [])) (Any ∷ Lifo ∷ Fifo ∷ []) ≡ false ∷ false ∷ false ∷ []
pickup_alone = refl

policed_cost : cost (policed Any) ((1 ∷ 3 ∷ 2 ∷ 4 ∷ []) ∷ []) ≡ pos 5
unfolding cost
policed_cost = refl

-- ---- moves

three_moves : moves three ((1 ∷ 2 ∷ []) ∷ []) ≡ TwoOpt 0 0 1 ∷ OrOpt 0 0 1 1 ∷ OrOpt 0 1 1 0 ∷ Exchange 0 0 0 1 ∷ MakeInactive 0 0 ∷ MakeInactive 0 1 ∷ []
unfolding moves_over
three_moves = refl

-- how many moves each neighbourhood has, with a pair in the list
pair_moves : map (λ neighbourhood. length (moves_in optional_pair ((1 ∷ 2 ∷ []) ∷ []) neighbourhood)) all_neighbourhoods
    ≡ 1 ∷ 2 ∷ 0 ∷ 1 ∷ 0 ∷ 0 ∷ 0 ∷ 1 ∷ 0 ∷ 2 ∷ 0 ∷ []
pair_moves = refl

-- ---- searches

-- node 2 is dropped at penalty 3: two solutions and ten tries
drops_a_node : descent (optional 2 (pos 3)) ((1 ∷ 2 ∷ []) ∷ []) default_limit ≡ record {
  last = (1 ∷ []) ∷ [];
  best = (1 ∷ []) ∷ [];
  report = record { tries = 10; solutions = 2; «end» = Optimum };
  events = record { tries = 0; kind = kind.First; cost = pos 18 } ∷ record { tries = 6; kind = kind.Move; cost = pos 13 } ∷ [];
}
unfolding descent descent_from moves_over is_valid is_open cost
drops_a_node = refl

-- both nodes of a pair are dropped at the fifth try, and three moves are left then
drops_a_pair : descent optional_pair ((1 ∷ 2 ∷ []) ∷ []) default_limit ≡ record {
  last = [] ∷ [];
  best = [] ∷ [];
  report = record { tries = 8; solutions = 2; «end» = Optimum };
  events = record { tries = 0; kind = kind.First; cost = pos 18 } ∷ record { tries = 5; kind = kind.Move; cost = pos 2 } ∷ [];
}
unfolding descent descent_from moves_over is_valid is_open cost
drops_a_pair = refl

-- guided local search of twenty tries: three rounds, and two moves to lists as cheap as the first
guided_twenty : guided three ((1 ∷ 2 ∷ []) ∷ []) (record default_limit { tries = 20 }) default_lambda ≡ record {
  last = (1 ∷ 2 ∷ []) ∷ [];
  best = (1 ∷ 2 ∷ []) ∷ [];
  report = record { tries = 20; solutions = 3; «end» = Tries };
  events = record { tries = 0; kind = kind.First; cost = pos 18 }
      ∷ record { tries = 6; kind = kind.Round; cost = pos 18 } ∷ record { tries = 7; kind = kind.Move; cost = pos 18 }
      ∷ record { tries = 13; kind = kind.Round; cost = pos 18 } ∷ record { tries = 19; kind = kind.Round; cost = pos 18 }
      ∷ record { tries = 20; kind = kind.Move; cost = pos 18 } ∷ [];
}
unfolding guided guided_from augmented moves_over is_valid is_open cost
guided_twenty = refl

-- ---- costs at given plans

abbrev waiting : List Plan
waiting = record { cumuls = pos 0 ∷ pos 5 ∷ pos 10 ∷ []; slacks = pos 0 ∷ pos 0 ∷ []; breaks = [] } ∷ []

-- both nodes on one vehicle: arcs 15, and 10 times 15
one_used : parts_at two_cars (record {
  lists = (1 ∷ 2 ∷ []) ∷ [] ∷ [];
  plans = (record { cumuls = pos 0 ∷ pos 5 ∷ pos 10 ∷ pos 15 ∷ []; slacks = pos 0 ∷ pos 0 ∷ pos 0 ∷ []; breaks = [] } ∷ []) ∷ [] ∷ [];
})
    ≡ record { arcs = pos 15; fixed = pos 0; global = pos 150; penalty = pos 0; soft = pos 0; span = pos 0 }
one_used = refl

-- one node on each: arcs 20, and 10 times 10
both_used : parts_at two_cars (record { lists = (2 ∷ []) ∷ (1 ∷ []) ∷ []; plans = waiting ∷ waiting ∷ [] })
    ≡ record { arcs = pos 20; fixed = pos 0; global = pos 100; penalty = pos 0; soft = pos 0; span = pos 0 }
both_used = refl

-- the move between them
relocated : apply two_cars ((1 ∷ 2 ∷ []) ∷ [] ∷ []) (Relocate 0 0 1 0) ≡ (2 ∷ []) ∷ (1 ∷ []) ∷ []
relocated = refl
