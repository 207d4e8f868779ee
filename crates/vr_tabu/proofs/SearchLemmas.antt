-- Tabu search, round by round.
use Rattle.std.proofs.Common.{◌≡◌, ◌∙◌, ℕ, zero, suc, ◌+◌, ◌-◌, ◌<◌, ◌≤◌, Bool, true, false, cond, List, [], ◌∷◌, length, Option, Some, None, refl, sym, ap}
use Rattle.std.proofs.Common.{subst, arith}
use Rattle.std.specs.Prelude.{ℤ, ◌==◌, IsTrue, MatchOption, filter, nat_lt}
use Rattle.vr_model.specs.routes.Costs.{cost}
use Rattle.vr_model.specs.routes.Rules.{is_valid}
use Rattle.vr_model.specs.moves.Moves.{apply, moves}
use Rattle.vr_model.specs.moves.MoveTests.{is_move}
use Rattle.vr_model.specs.search.ChoosingLaws.{IsFirstLeast}
use Rattle.vr_model.specs.search.Outcomes.{SearchState, Outcome, accepted, tried, with_event, event_at, ended, cheaper, begun}
use Rattle.vr_model.specs.declared.records.Model.{Model}
use Rattle.vr_model.specs.declared.records.End.TheVariants.{Optimum, Tries, Solutions}
use Rattle.vr_model.specs.declared.search.Kind.TheVariants as kind
use Rattle.vr_model.specs.declared.search.Limit.{Limit}
use Rattle.vr_model.specs.declared.neighbours.Move.{Move}
use Rattle.vr_model.proofs.first.LeastChoice.{least_first}
use Rattle.vr_model.proofs.routes.Lists.{are-lists, are_lists-count}
use Rattle.vr_model.proofs.tables.Members.{In, of_contains, of_filter}
use Rattle.vr_model.specs.deciding.Testing.{and_left}
use Rattle.vr_tabu.specs.Standing.{events_of, tabu_from_here}
use Rattle.vr_descent.proofs.ScanLemmas.{one_move}
use Rattle.vr_descent.specs.Incumbents.{kept}
use Rattle.vr_descent.specs.Searching.{behind, standing}
use Rattle.vr_tabu.specs.TabuSearches.{TabuList, TabuRound, is_candidate, least_candidate, next_round, none_tabu, round_of, round_with, tabu_from, tabu_on}
use Rattle.vr_tabu.specs.TabuSearches.{tabu_search}
use Rattle.vr_tabu.specs.TabuSearches.TabuRound.{Best, Stuck, Cut}
use Rattle.vr_tabu.specs.declared.searching.Parameters.{Parameters}

-- valid lists of a model are as many as others
pub as_many : (model : Model) (xs ys : List (List ℕ)) → IsTrue (is_valid model xs) → IsTrue (is_valid model ys) → length xs ≡ length ys
as_many model xs ys vx vy = are_lists-count model xs (are-lists model xs vx) ∙ sym (are_lists-count model ys (are-lists model ys vy))

-- ---- what a round tells of its move

-- the least candidate of a round is a move of the list after which the lists are valid
pub record IsLeastCandidate (model : Model) (tabus : TabuList) (best lists : List (List ℕ)) (rest n : ℕ) (mv : Move) : Type 0 where
  pub length_is : n ≡ length (moves model lists)
  pub from_one : 1 ≤ n
  pub within : n ≤ rest
  pub is_one : IsTrue (is_move model lists mv)
  pub valid : IsTrue (is_valid model (apply model lists mv))

module _ (model : Model) (tabus : TabuList) (best lists : List (List ℕ)) (rest : ℕ) where
  abbrev n : ℕ
  n = length (moves model lists)

  abbrev chosen : Option Move
  chosen = least_candidate model tabus best lists

  abbrev key : Move → List ℤ
  key mv = cost model (apply model lists mv) ∷ []

  abbrev allowed : List Move
  allowed = filter (is_candidate model tabus best lists) (moves model lists)

  some_move : (ms : List Move) (mv : Move) → In ms mv → 1 ≤ length ms
  some_move [] mv h = absurd h
  some_move (m ∷ ms) mv h = omega arith

  fits_in : (all : ℕ) → nat_lt rest all ≡ false → all ≤ rest
  fits_in all e = Prim.grind arith

  least_of : (mv : Move) → chosen ≡ Some mv → IsFirstLeast key allowed mv
  least_of mv c = subst (λ o. MatchOption o (allowed ≡ []) (IsFirstLeast key allowed)) c (least_first key allowed)

  facts : (k : ℕ) (mv : Move) → k ≡ n → nat_lt rest n ≡ false → chosen ≡ Some mv → IsLeastCandidate model tabus best lists rest k mv
  facts k mv e low c =
      let first = least_of mv c in
      let inside = of_filter (is_candidate model tabus best lists) (moves model lists)
      mv (of_contains allowed mv (first.place, first.in_list, first.stands_there mv)) in
      record {
        length_is = e;
        from_one = (let one = some_move (moves model lists) mv inside.0 in omega (arith, one, e));
        within = (let l = fits_in n low in omega (arith, l, e));
        is_one = one_move model model.search.neighbourhoods lists mv inside.0;
        valid = and_left (is_valid model (apply model lists mv)) _ inside.1;
      }

  -- what is known where a round found a candidate
  pub best_where : (k : ℕ) (mv : Move) → round_of model tabus best lists rest ≡ Best k mv → IsLeastCandidate model tabus best lists rest k mv
  best_where k mv e = by (nat_lt rest n) refl chosen refl e
    where
      by : (b : Bool) → nat_lt rest n ≡ b → (o : Option Move) → chosen ≡ o
          → cond b Cut (round_with n o) ≡ Best k mv → IsLeastCandidate model tabus best lists rest k mv
      by true low o c e = absurd (differ e)
        where
          differ : Cut ≡ Best k mv → ⊥
          differ e = Prim.cc
      by false low None c e = absurd (differ n e)
        where
          differ : (m : ℕ) → Stuck m ≡ Best k mv → ⊥
          differ m e = Prim.cc
      by false low (Some m) c e = let same = parts n m e in facts k mv (sym same.0) low (c ∙ ap (λ x. Some x) same.1)
        where
          parts : (l : ℕ) (m : Move) → Best l m ≡ Best k mv → (l ≡ k) × (m ≡ mv)
          parts l m e = (Prim.cc, Prim.cc)

  -- a round without a candidate tried all moves
  pub stuck_where : (k : ℕ) → round_of model tabus best lists rest ≡ Stuck k → k ≤ rest
  stuck_where k e = by (nat_lt rest n) refl chosen e
    where
      by : (b : Bool) → nat_lt rest n ≡ b → (o : Option Move) → cond b Cut (round_with n o) ≡ Stuck k → k ≤ rest
      by true low o e = absurd (differ e)
        where
          differ : Cut ≡ Stuck k → ⊥
          differ e = Prim.cc
      by false low None e = let l = fits_in n low in let same = part n e in omega (arith, l, same)
        where
          part : (l : ℕ) → Stuck l ≡ Stuck k → l ≡ k
          part l e = Prim.cc
      by false low (Some m) e = absurd (differ n m e)
        where
          differ : (l : ℕ) (m : Move) → Best l m ≡ Stuck k → ⊥
          differ l m e = Prim.cc

-- ---- a bound on the rounds that is above the number of tries left is never met

module _ (model : Model) (limit : Limit) (tenure : ℕ) where
  abbrev round_at : TabuList → SearchState → TabuRound
  round_at tabus state = round_of model tabus state.best state.lists (limit.tries - state.used)

  from_enough : (rounds : ℕ) (tabus : TabuList) (state : SearchState) → (state.found == limit.solutions) ≡ true
      → tabu_from model limit tenure (suc rounds) tabus state ≡ ended state Solutions
  unfolding tabu_from
  from_enough rounds tabus state e = rw (e, tabu_from) refl

  from_round : (rounds : ℕ) (tabus : TabuList) (state : SearchState) → (state.found == limit.solutions) ≡ false
      → tabu_from model limit tenure (suc rounds) tabus state
      ≡ tabu_on model limit tenure (tabu_from model limit tenure rounds) tabus state (round_at tabus state)
  unfolding tabu_from
  from_round rounds tabus state e = rw (e, tabu_from) refl

  same_on : (again other : TabuList → SearchState → Outcome) (rounds : ℕ)
      → ((tabus : TabuList) (next : SearchState) → limit.tries - next.used < rounds → again tabus next ≡ other tabus next)
      → (tabus : TabuList) (state : SearchState) → limit.tries - state.used < suc rounds → (r : TabuRound)
      → round_at tabus state ≡ r → tabu_on model limit tenure again tabus state r ≡ tabu_on model limit tenure other tabus state r
  same_on again other rounds same tabus state few (Best k mv) e =
      let known = best_where model tabus state.best state.lists (limit.tries - state.used) k mv e in
      ap (with_event (event_at model (accepted model state k mv) kind.Move))
      (same (next_round model tenure state.lists (apply model state.lists mv) tabus) (accepted model state k mv)
      (let one = known.from_one in let low = known.within in omega (arith, one, low, few)))
  same_on again other rounds same tabus state few (Stuck k) e = refl
  same_on again other rounds same tabus state few Cut e = refl

  pub bound_unmet : (rounds more : ℕ) (tabus : TabuList) (state : SearchState) → limit.tries - state.used < rounds
      → tabu_from model limit tenure (rounds + more) tabus state ≡ tabu_from model limit tenure rounds tabus state
  bound_unmet zero more tabus state few = absurd (omega (arith, few))
  bound_unmet (suc rounds) more tabus state few =
      let e : suc rounds + more ≡ suc (rounds + more) = omega arith in
      ap (λ k. tabu_from model limit tenure k tabus state) e ∙ go (λ t next h. bound_unmet rounds more t next h) (state.found == limit.solutions) refl
    where
      go : ((t : TabuList) (next : SearchState) → limit.tries - next.used < rounds
          → tabu_from model limit tenure (rounds + more) t next ≡ tabu_from model limit tenure rounds t next)
          → (b : Bool) → (state.found == limit.solutions) ≡ b
          → tabu_from model limit tenure (suc (rounds + more)) tabus state ≡ tabu_from model limit tenure (suc rounds) tabus state
      go same true e = from_enough (rounds + more) tabus state e ∙ sym (from_enough rounds tabus state e)
      go same false e = from_round (rounds + more) tabus state e
          ∙ (same_on (tabu_from model limit tenure (rounds + more))
          (tabu_from model limit tenure rounds) rounds same tabus state few (round_at tabus state) refl
          ∙ sym (from_round rounds tabus state e))

-- ---- the search from where it stands

module _ (model : Model) (parameters : Parameters) where
  pub at_start : (lists : List (List ℕ)) → tabu_search model lists parameters.limit parameters.tenure
      ≡ with_event (event_at model (begun lists) kind.First) (tabu_from_here model parameters none_tabu lists lists 0 1)
  unfolding tabu_search
  at_start lists = let all : parameters.limit.tries ≡ parameters.limit.tries - 0 = omega arith in
      ap (λ tries. with_event (event_at model (begun lists) kind.First)
      (tabu_from model parameters.limit parameters.tenure (suc tries) none_tabu (begun lists))) all

  module _ (tabus : TabuList) (lists best : List (List ℕ)) (used found : ℕ) where
    -- enough solutions were found
    pub enough : (found == parameters.limit.solutions) ≡ true
        → tabu_from_here model parameters tabus lists best used found ≡ ended (standing lists best used found) Solutions
    enough e = from_enough model parameters.limit parameters.tenure (parameters.limit.tries - used) tabus (standing lists best used found) e

    -- fewer rounds do as well after some tries
    fewer : (next : TabuList) (k : ℕ) → 1 ≤ k → k ≤ parameters.limit.tries - used → (after kept : List (List ℕ)) (now : ℕ)
        → tabu_from model parameters.limit parameters.tenure (parameters.limit.tries - used) next (standing after kept (used + k) now)
        ≡ tabu_from_here model parameters next after kept (used + k) now
    fewer next k one low after kept now =
        let rounds = suc (parameters.limit.tries - (used + k)) in
        let more = (parameters.limit.tries - used) - suc (parameters.limit.tries - (used + k)) in
        let sum : parameters.limit.tries - used ≡ rounds + more = omega (arith, one, low) in
        ap (λ m. tabu_from model parameters.limit parameters.tenure m next (standing after kept (used + k) now)) sum
        ∙ bound_unmet model parameters.limit parameters.tenure rounds more next (standing after kept (used + k) now) (omega arith)

    -- what is left of the search after a round
    abbrev pub left_after : TabuRound → Outcome
    left_after (Best k mv) =
        tabu_from_here model parameters (next_round model parameters.tenure lists (apply model lists mv) tabus)
        (apply model lists mv) (cheaper model best (apply model lists mv)) (used + k) (found + 1)
    left_after (Stuck k) = ended (tried (standing lists best used found) k) Optimum
    left_after Cut = ended (tried (standing lists best used found) (parameters.limit.tries - used)) Tries

    -- the search is the events of a round, and what is left after it
    pub on_round : (found == parameters.limit.solutions) ≡ false → (r : TabuRound) → round_of model tabus best lists (parameters.limit.tries - used) ≡ r
        → tabu_from_here model parameters tabus lists best used found ≡ behind (events_of model (standing lists best used found) r) (left_after r)
    on_round e r h = from_round model parameters.limit parameters.tenure (parameters.limit.tries - used) tabus (standing lists best used found) e
        ∙ (ap (tabu_on model parameters.limit parameters.tenure
        (tabu_from model parameters.limit parameters.tenure (parameters.limit.tries - used)) tabus (standing lists best used found)) h ∙ go r h)
      where
        one_more : (k : ℕ) → suc k ≡ k + 1
        one_more k = omega arith

        go : (r : TabuRound) → round_of model tabus best lists (parameters.limit.tries - used) ≡ r
            → tabu_on model parameters.limit parameters.tenure
            (tabu_from model parameters.limit parameters.tenure (parameters.limit.tries - used)) tabus (standing lists best used found) r
            ≡ behind (events_of model (standing lists best used found) r) (left_after r)
        go (Best k mv) h = let known = best_where model tabus best lists (parameters.limit.tries - used) k mv h in
            let next = next_round model parameters.tenure lists (apply model lists mv) tabus in
            ap (with_event (event_at model (accepted model (standing lists best used found) k mv) kind.Move))
            (ap (λ m. tabu_from model parameters.limit parameters.tenure (parameters.limit.tries - used) next
            (standing (apply model lists mv) (cheaper model best (apply model lists mv)) (used + k) m)) (one_more found)
            ∙ fewer next k known.from_one known.within (apply model lists mv) (cheaper model best (apply model lists mv)) (found + 1))
        go (Stuck k) h = refl
        go Cut h = refl
