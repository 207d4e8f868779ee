-- A search keeps to its limit, and its lists stay valid and get no dearer.
use Rattle.std.proofs.Common.{◌≡◌, ℕ, zero, suc, ◌-◌, ◌≤◌, Bool, true, false, cond, List, refl, arith}
use Rattle.std.specs.Prelude.{IsTrue, int_lt, ◌&&◌, ◌==◌, ◌≤ℤ◌}
use Rattle.std.proofs.lemmas.Int.{ints}
use Rattle.vr_model.specs.moves.Moves.{apply, moves}
use Rattle.vr_model.specs.routes.Rules.{is_valid}
use Rattle.vr_model.specs.routes.Costs.{cost}
use Rattle.vr_model.specs.search.ChoosingLaws.{EndsAs}
use Rattle.vr_model.specs.search.Descents.{makes_cheaper, descended, descent_from, descent}
use Rattle.vr_model.specs.search.Outcomes.{SearchState, Outcome, accepted, begun, ended, tried, with_event}
use Rattle.vr_model.specs.search.Scans.{Scan}
use Rattle.vr_model.specs.search.Scans.Scan.{Accepted, Complete, Cut}
use Rattle.vr_model.specs.declared.records.Model.{Model}
use Rattle.vr_model.specs.declared.records.End.{End}
use Rattle.vr_model.specs.declared.search.Event.{Event}
use Rattle.vr_model.specs.declared.search.Limit.{Limit}
use Rattle.vr_model.specs.declared.neighbours.Move.{Move}
use Rattle.vr_model.proofs.searches.ScanEnding.{scan_ends}
use Rattle.vr_descent.specs.Answering.{IsSoundAnswer, DescentIsSound}

module _ (model : Model) (first : List (List ℕ)) (limit : Limit) where
  -- where a search stands, its lists are valid, the best cost no more than the first, and it is within the limit
  pub record IsSoundState (state : SearchState) : Type 0 where
    pub valid : IsTrue (is_valid model state.lists)
    pub best_valid : IsTrue (is_valid model state.best)
    pub no_dearer : cost model state.best ≤ℤ cost model first
    pub tries : state.used ≤ limit.tries
    pub some_solution : 1 ≤ state.found
    pub solutions : state.found ≤ limit.solutions

  pub sound_end : (state : SearchState) (stop : End) → IsSoundState state → IsSoundAnswer model first limit (ended state stop)
  sound_end state stop s = record {
    best_valid = s.best_valid;
    last_valid = s.valid;
    no_dearer = s.no_dearer;
    tries = s.tries;
    some_solution = s.some_solution;
    solutions = s.solutions;
  }

  pub sound_start : IsTrue (is_valid model first) → 1 ≤ limit.solutions → IsSoundState (begun first)
  sound_start valid some = record {
    valid = valid;
    best_valid = valid;
    no_dearer = omega (arith, ints);
    tries = omega arith;
    some_solution = omega arith;
    solutions = some;
  }

  -- after so many more tries
  pub sound_tried : (state : SearchState) (n : ℕ) → IsSoundState state → n ≤ limit.tries - state.used → IsSoundState (tried state n)
  sound_tried state n s low = let used = s.tries in record {
    valid = s.valid;
    best_valid = s.best_valid;
    no_dearer = s.no_dearer;
    tries = omega (arith, used, low);
    some_solution = s.some_solution;
    solutions = s.solutions;
  }

  -- after a move to valid lists
  pub sound_accepted : (state : SearchState) (n : ℕ) (mv : Move) → IsSoundState state → n ≤ limit.tries - state.used → (state.found == limit.solutions) ≡ false
      → IsTrue (is_valid model (apply model state.lists mv)) → IsSoundState (accepted model state n mv)
  sound_accepted state n mv s low more valid = let used = s.tries in record {
    valid = valid;
    best_valid = kept (int_lt (cost model after) (cost model state.best));
    no_dearer = no_dearer (int_lt (cost model after) (cost model state.best)) refl;
    tries = omega (arith, used, low);
    some_solution = omega arith;
    solutions = one_more state.found limit.solutions s.solutions more;
  }
    where
      after : List (List ℕ)
      after = apply model state.lists mv

      kept : (b : Bool) → IsTrue (is_valid model (cond b after state.best))
      kept true = valid
      kept false = s.best_valid

      no_dearer : (b : Bool) → int_lt (cost model after) (cost model state.best) ≡ b → cost model (cond b after state.best) ≤ℤ cost model first
      no_dearer true e = let low = s.no_dearer in Prim.grind (arith, ints)
      no_dearer false e = s.no_dearer

      one_more : (found solutions : ℕ) → found ≤ solutions → (found == solutions) ≡ false → suc found ≤ solutions
      one_more found solutions low e = Prim.grind arith

  -- an event more changes no list and no number
  pub sound_told : (event : Event) (rest : Outcome) → IsSoundAnswer model first limit rest → IsSoundAnswer model first limit (with_event event rest)
  sound_told event rest a =
      record {
        best_valid = a.best_valid;
        last_valid = a.last_valid;
        no_dearer = a.no_dearer;
        tries = a.tries;
        some_solution = a.some_solution;
        solutions = a.solutions;
      }

  -- a search by at most so many rounds, which keeps something beside where it stands
  module _ {Kept : Type 0} (from : ℕ → Kept → SearchState → Outcome) where
    -- by so many rounds more, whatever it keeps
    abbrev pub SoundBy : ℕ → Type 0
    SoundBy rounds = (kept : Kept) (next : SearchState) → IsSoundState next → IsSoundAnswer model first limit (from rounds kept next)

    -- its answers are sound where those are that end it, and each round gives such an answer if what is behind it does
    pub sound_by_rounds : SoundBy zero
        → ((rounds : ℕ) (kept : Kept) (state : SearchState) → IsSoundState state
        → (state.found == limit.solutions) ≡ true → IsSoundAnswer model first limit (from (suc rounds) kept state))
        → ((rounds : ℕ) (kept : Kept) (state : SearchState) → IsSoundState state → (state.found == limit.solutions) ≡ false
        → SoundBy rounds → IsSoundAnswer model first limit (from (suc rounds) kept state))
        → (rounds : ℕ) → SoundBy rounds
    sound_by_rounds none enough more zero kept state sound = none kept state sound
    sound_by_rounds none enough more (suc rounds) kept state sound = go (state.found == limit.solutions) refl (sound_by_rounds none enough more rounds)
      where
        go : (b : Bool) → (state.found == limit.solutions) ≡ b → SoundBy rounds → IsSoundAnswer model first limit (from (suc rounds) kept state)
        go true e again = enough rounds kept state sound e
        go false e again = more rounds kept state sound e again

-- the first part of a test
pub first_of : (a b : Bool) → (a && b) ≡ true → IsTrue a
first_of true b e = refl
first_of false b e = e

-- ---- greedy descent

module _ (model : Model) (first : List (List ℕ)) (limit : Limit) where
  goes_on : (scans : ℕ) (state : SearchState) → IsSoundState model first limit state → (state.found == limit.solutions) ≡ false
      → ((next : SearchState) → IsSoundState model first limit next → IsSoundAnswer model first limit (descent_from model limit scans next))
      → (s : Scan) → EndsAs (moves model state.lists) (makes_cheaper model state.lists) (limit.tries - state.used) s
      → IsSoundAnswer model first limit (descended model limit (descent_from model limit scans) state s)
  goes_on scans state sound more again (Accepted n mv) ends =
      sound_told model first limit _ _
      (again (accepted model state n mv) (sound_accepted model first limit state n mv sound ends.1 more (first_of _ _ ends.0.acceptable_there)))
  goes_on scans state sound more again (Complete n) ends = sound_end model first limit (tried state n) _ (sound_tried model first limit state n sound ends.2)
  goes_on scans state sound more again Cut ends =
      sound_end model first limit (tried state (limit.tries - state.used)) _
      (sound_tried model first limit state (limit.tries - state.used) sound (omega arith))

  sound_from : (scans : ℕ) (state : SearchState) → IsSoundState model first limit state → IsSoundAnswer model first limit (descent_from model limit scans state)
  unfolding descent_from
  sound_from zero state sound = sound_end model first limit state _ sound
  sound_from (suc scans) state sound = go (state.found == limit.solutions) refl (sound_from scans)
    where
      go : (b : Bool) → (state.found == limit.solutions) ≡ b
          → ((next : SearchState) → IsSoundState model first limit next → IsSoundAnswer model first limit (descent_from model limit scans next))
          → IsSoundAnswer model first limit (descent_from model limit (suc scans) state)
      go true e again = rw (e, descent_from) (sound_end model first limit state _ sound)
      go false e again = rw (e, descent_from)
          (goes_on scans state sound e again _ (scan_ends (moves model state.lists) (makes_cheaper model state.lists) (limit.tries - state.used)))

pub descent_is_sound : DescentIsSound
unfolding descent
descent_is_sound model lists limit valid some =
    sound_told model lists limit _ _ (sound_from model lists limit (suc limit.tries) (begun lists) (sound_start model lists limit valid some))
