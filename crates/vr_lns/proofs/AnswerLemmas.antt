-- The search keeps to its limit, and its lists stay valid and get no dearer.
use Rattle.std.proofs.Common.{◌≡◌, ℕ, zero, suc, ◌-◌, ◌≤◌, Bool, true, false, List, refl, sym, subst, arith}
use Rattle.std.specs.Prelude.{IsTrue, int_lt, ◌==◌, ◌≤ℤ◌, ℤ}
use Rattle.std.proofs.lemmas.Int.{ints}
use Rattle.vr_model.specs.deciding.Testing.{and_left, and_right}
use Rattle.vr_model.specs.routes.Rules.{is_valid}
use Rattle.vr_model.specs.routes.Costs.{cost}
use Rattle.vr_model.specs.search.Outcomes.{SearchState, Outcome, begun, ended, tried, with_event}
use Rattle.vr_model.specs.declared.records.Model.{Model}
use Rattle.vr_model.specs.declared.records.End.{End}
use Rattle.vr_model.specs.declared.search.Event.{Event}
use Rattle.vr_model.specs.declared.search.Limit.{Limit}
use Rattle.vr_lns.specs.Cuts.{improves_on}
use Rattle.vr_lns.specs.Rounds.{Round}
use Rattle.vr_lns.specs.Rounds.Round.{Accepted, Complete, Short}
use Rattle.vr_lns.specs.PathLns.{after_round, cut_made, path_lns, path_lns_from}
use Rattle.vr_descent.proofs.AnswerLemmas.{IsSoundState, sound_end, sound_start, sound_tried}
use Rattle.vr_lns.specs.Answering.{IsSoundAtLast, PathLnsIsSound}
use Rattle.vr_lns.proofs.BoundLemmas.{told_by_round, Tells}

-- lists that are better than others that cost no more than some cost no more than these
pub no_dearer : (a b c : ℤ) → int_lt a b ≡ true → b ≤ℤ c → a ≤ℤ c
no_dearer a b c e h = Prim.grind (arith, ints)

module _ (model : Model) (first : List (List ℕ)) (limit : Limit) where
  -- where a search stands, it is sound, and its lists are the best ones
  pub record IsSoundAtBest (state : SearchState) : Type 0 where
    pub sound : IsSoundState model first limit state
    pub best : state.lists ≡ state.best

  ends : (state : SearchState) (stop : End) → IsSoundAtBest state → IsSoundAtLast model first limit (ended state stop)
  ends state stop s = record { sound = sound_end model first limit state stop s.sound; last_is_best = s.best }

  -- an event more changes no list and no number
  told_more : (event : Event) (rest : Outcome) → IsSoundAtLast model first limit rest → IsSoundAtLast model first limit (with_event event rest)
  told_more event rest a = let s = a.sound in record {
    sound = record {
      best_valid = s.best_valid;
      last_valid = s.last_valid;
      no_dearer = s.no_dearer;
      tries = s.tries;
      some_solution = s.some_solution;
      solutions = s.solutions;
    };
    last_is_best = a.last_is_best;
  }

  -- after so many more tries
  goes_by : (state : SearchState) (n : ℕ) → IsSoundAtBest state → n ≤ limit.tries - state.used → IsSoundAtBest (tried state n)
  goes_by state n s low = record { sound = sound_tried model first limit state n s.sound low; best = s.best }

  -- after a cut with a better result
  is_made : (state : SearchState) (n : ℕ) (after : List (List ℕ)) → IsSoundAtBest state
      → n ≤ limit.tries - state.used → (state.found == limit.solutions) ≡ false
      → IsTrue (improves_on model state.lists after) → IsSoundAtBest (cut_made state n after)
  is_made state n after s low more better =
      let used = s.sound.tries in
      let valid = and_left (is_valid model after) _ better in
      let cheap = subst (λ lists. cost model lists ≤ℤ cost model first) (sym s.best) s.sound.no_dearer in
      record {
        sound = record {
          valid = valid;
          best_valid = valid;
          no_dearer = no_dearer (cost model after) (cost model state.lists) (cost model first) (and_right (is_valid model after) _ better) cheap;
          tries = omega (arith, used, low);
          some_solution = omega arith;
          solutions = one_more state.found limit.solutions s.sound.solutions more;
        };
        best = refl;
      }
    where
      one_more : (found solutions : ℕ) → found ≤ solutions → (found == solutions) ≡ false → suc found ≤ solutions
      one_more found solutions low e = Prim.grind arith

module _ (model : Model) (most : ℕ) (first : List (List ℕ)) (limit : Limit) where
  goes_on : (rounds : ℕ) (state : SearchState) → IsSoundAtBest model first limit state → (state.found == limit.solutions) ≡ false
      → ((next : SearchState) → IsSoundAtBest model first limit next → IsSoundAtLast model first limit (path_lns_from model most limit rounds next))
      → (r : Round) → Tells (λ after. IsTrue (improves_on model state.lists after)) (limit.tries - state.used) 0 r
      → IsSoundAtLast model first limit (after_round model limit (path_lns_from model most limit rounds) state r)
  goes_on rounds state sound more again (Accepted n after) h =
      let a = again (cut_made state n after) (is_made model first limit state n after sound h.1 more h.2) in
      told_more model first limit _ _ a
  goes_on rounds state sound more again (Complete n) h = ends model first limit (tried state n) _ (goes_by model first limit state n sound h)
  goes_on rounds state sound more again Short h =
      ends model first limit (tried state (limit.tries - state.used)) _ (goes_by model first limit state (limit.tries - state.used) sound (omega arith))

  sound_from : (rounds : ℕ) (state : SearchState) → IsSoundAtBest model first limit state
      → IsSoundAtLast model first limit (path_lns_from model most limit rounds state)
  unfolding path_lns_from
  sound_from zero state sound = ends model first limit state _ sound
  sound_from (suc rounds) state sound = go (state.found == limit.solutions) refl (sound_from rounds)
    where
      go : (b : Bool) → (state.found == limit.solutions) ≡ b
          → ((next : SearchState) → IsSoundAtBest model first limit next → IsSoundAtLast model first limit (path_lns_from model most limit rounds next))
          → IsSoundAtLast model first limit (path_lns_from model most limit (suc rounds) state)
      go true e again = rw (e, path_lns_from) (ends model first limit state _ sound)
      go false e again = rw (e, path_lns_from) (goes_on rounds state sound e again _ (told_by_round model most state.lists (limit.tries - state.used)))

pub path_lns_is_sound : PathLnsIsSound
unfolding path_lns
path_lns_is_sound model lists limit most valid some =
    let a = sound_from model most lists limit (suc limit.tries) (begun lists) (record { sound = sound_start model lists limit valid some; best = refl }) in
    told_more model lists limit _ _ a
