-- Guided local search keeps to its limit, and its lists stay valid.
use Rattle.std.proofs.Common.{◌≡◌, ℕ, suc, ◌-◌, Bool, true, false, List, refl, arith}
use Rattle.std.specs.Prelude.{◌==◌}
use Rattle.vr_model.specs.moves.Moves.{moves}
use Rattle.vr_model.specs.search.ChoosingLaws.{EndsAs}
use Rattle.vr_model.specs.search.GuidedSearches.{Penalties, no_penalties, raised, is_at_end, improves_augmented, guided_on, guided_from, guided}
use Rattle.vr_model.specs.search.Outcomes.{SearchState, accepted, begun, tried}
use Rattle.vr_model.specs.search.Scans.{Scan}
use Rattle.vr_model.specs.search.Scans.Scan.{Accepted, Complete, Cut}
use Rattle.vr_model.specs.declared.records.Model.{Model}
use Rattle.vr_model.specs.declared.search.Lambda.{Lambda}
use Rattle.vr_model.specs.declared.search.Limit.{Limit}
use Rattle.vr_model.proofs.searches.ScanEnding.{scan_ends}
use Rattle.vr_descent.specs.Answering.{IsSoundAnswer}
use Rattle.vr_descent.proofs.AnswerLemmas.{IsSoundState, SoundBy, first_of, sound_accepted, sound_by_rounds, sound_end, sound_start, sound_told, sound_tried}
use Rattle.vr_guided.specs.Answering.{GuidedIsSound}

module _ (model : Model) (first : List (List ℕ)) (limit : Limit) (lambda : Lambda) where
  -- by at most so many scans more, whatever the penalties
  abbrev IsSoundBy : ℕ → Type 0
  IsSoundBy = SoundBy model first limit (guided_from model limit lambda)

  goes_on : (scans : ℕ) (penalties : Penalties) (state : SearchState)
      → IsSoundState model first limit state → (state.found == limit.solutions) ≡ false → IsSoundBy scans
      → (s : Scan) → EndsAs (moves model state.lists) (improves_augmented model lambda penalties state.lists) (limit.tries - state.used) s
      → IsSoundAnswer model first limit (guided_on model limit (guided_from model limit lambda scans) penalties state s)
  goes_on scans penalties state sound more again (Accepted n mv) ends =
      sound_told model first limit _ _
      (again penalties (accepted model state n mv) (sound_accepted model first limit state n mv sound ends.1 more (first_of _ _ ends.0.acceptable_there)))
  goes_on scans penalties state sound more again (Complete n) ends = by (is_at_end model state n) refl
    where
      next : IsSoundState model first limit (tried state n)
      next = sound_tried model first limit state n sound ends.2

      by : (b : Bool) → is_at_end model state n ≡ b
          → IsSoundAnswer model first limit (guided_on model limit (guided_from model limit lambda scans) penalties state (Complete n))
      by true e = rw (e, guided_on) (sound_end model first limit (tried state n) _ next)
      by false e = rw (e, guided_on) (sound_told model first limit _ _ (again (raised model penalties state.lists) (tried state n) next))
  goes_on scans penalties state sound more again Cut ends =
      sound_end model first limit (tried state (limit.tries - state.used)) _
      (sound_tried model first limit state (limit.tries - state.used) sound (omega arith))

  sound_from : (scans : ℕ) → IsSoundBy scans
  unfolding guided_from
  sound_from = sound_by_rounds model first limit (guided_from model limit lambda)
      (λ penalties state sound. sound_end model first limit state _ sound)
      (λ scans penalties state sound e. rw (e, guided_from) (sound_end model first limit state _ sound))
      (λ scans penalties state sound e again. rw (e, guided_from)
      (goes_on scans penalties state sound e again _
      (scan_ends (moves model state.lists) (improves_augmented model lambda penalties state.lists) (limit.tries - state.used))))

pub guided_is_sound : GuidedIsSound
unfolding guided
guided_is_sound model lists limit lambda valid some =
    sound_told model lists limit _ _
    (sound_from model lists limit lambda (suc limit.tries) no_penalties (begun lists) (sound_start model lists limit valid some))
