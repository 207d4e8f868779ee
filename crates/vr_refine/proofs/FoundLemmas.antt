-- What is found, and when.
use Rattle.std.proofs.Common.{◌≡◌, ◌∙◌, ℕ, List, Bool, true, false, cond, Option, Some, None, refl, sym, ap, subst, option_map}
use Rattle.std.specs.Prelude.{◌==◌, IsTrue, is_some}
use Rattle.vr_model.specs.routes.Routes.{are_lists}
use Rattle.vr_model.specs.routes.Rules.{is_valid}
use Rattle.vr_model.specs.tables.WellFormed.{IsWellFormed, WherePresent}
use Rattle.vr_model.specs.declared.records.Model.{Model}
use Rattle.vr_app.specs.Found.{Found, found_from, found_with}
use Rattle.vr_app.specs.Improved.{limit_of}
use Rattle.vr_app.specs.declared.words.Mode.{Mode}
use Rattle.vr_app.proofs.SolutionLemmas.{IsSound, searched-sound}
use Rattle.vr_given.specs.Begin.{begin_lists, ruin_begin}
use Rattle.vr_given.specs.declared.wishes.Wish.{Wish}
use Rattle.vr_given.proofs.BeginLemmas.{begin-valid, begun-given}
use Rattle.vr_ruin.specs.Lacking.{lack}
use Rattle.vr_ruin.specs.Refining.{RefineEnd, refined}
use Rattle.vr_ruin.proofs.AnswerLemmas.{refining_is_sound, valid_first_is_kept}
use Rattle.vr_refine.specs.Causes.{IsRefined, IsSought}
use Rattle.vr_refine.specs.Wishes.{asked_for, found_at, found_by, is_found_by, is_refined_with, refined_with, ruin_end}
use Rattle.vr_refine.proofs.BuiltLemmas.{ruin-built}

-- ---- when something is found

still-some : {A B : Type 0} (f : A → B) (o : Option A) → is_some (option_map f o) ≡ is_some o
still-some f None = refl
still-some f (Some x) = refl

-- ruin and recreate finds something exactly if its best lists lack nothing
refined-some : (model : Model) (wish : Wish) (lists : List (List ℕ))
    → is_some (refined_with model wish (Some lists)) ≡ (lack model (ruin_end model wish lists).outcome.best == 0)
unfolding refined
refined-some model wish lists = by (lack model (ruin_end model wish lists).outcome.best == 0)
  where
    by : (b : Bool) → is_some (option_map found_at (cond b (Some (ruin_end model wish lists)) None)) ≡ b
    by true = refl
    by false = refl

pub is-found : (asked : Mode) (model : Model) (routes : Option (List (List ℕ))) (wish : Option Wish)
    → is_some (found_by asked model routes wish) ≡ is_found_by model routes wish
is-found asked model routes None = still-some (found_from asked model) (begin_lists model routes)
is-found asked model routes (Some wish) = by (ruin_begin model routes)
  where
    by : (o : Option (List (List ℕ))) → is_some (refined_with model wish o) ≡ is_refined_with model wish o
    by None = refl
    by (Some lists) = refined-some model wish lists

-- ---- what is found

-- what was found is sound: its lists of the first cost are valid, its search is sound, and given valid lists are those
-- of the first cost
pub record IsSoundFound (model : Model) (routes : Option (List (List ℕ))) (wish : Option Wish) (found : Found) : Type 0 where
  pub is_sought : IsSought model routes wish found
  pub first_valid : IsTrue (is_valid model found.first)
  pub sound : IsSound model found.first found.outcome
  pub as_given : (lists : List (List ℕ)) → routes ≡ Some lists → IsTrue (is_valid model lists) → found.first ≡ lists

module _ (model : Model) (well_formed : IsWellFormed model) (routes : Option (List (List ℕ)))
    (are : WherePresent (λ lists. IsTrue (are_lists model lists)) routes) where
  -- from the lists with which the model's own search begins
  own-sound : (asked : Mode) (first : List (List ℕ)) → begin_lists model routes ≡ Some first → IsSoundFound model routes None (found_from asked model first)
  own-sound asked first begins = let valid = begin-valid model routes first begins in record {
    is_sought = begins;
    first_valid = valid;
    sound = searched-sound asked model first well_formed valid;
    as_given = λ lists given_is given_valid.
        let k : Some first ≡ Some lists = sym begins ∙ ap (begin_lists model) given_is ∙ (begun-given model lists given_valid).own in cc;
  }

  -- by ruin and recreate
  ruin-sound : (wish : Wish) (lists : List (List ℕ)) (rest : RefineEnd)
      → ruin_begin model routes ≡ Some lists → refined model lists (limit_of model) (asked_for wish) ≡ Some rest
      → IsSoundFound model routes (Some wish) (found_at rest)
  ruin-sound wish lists rest begins e =
      let built = ruin-built model well_formed routes lists are begins in
      let sound = refining_is_sound model lists (limit_of model) (asked_for wish)
      rest well_formed built well_formed.search_in_range.solutions_in_range.0 e in
      record {
        is_sought = record { lists = lists; begins = begins; are_built = built; sound = sound };
        first_valid = sound.first_valid;
        sound = record {
          valid = sound.best_valid;
          no_dearer = sound.no_dearer;
          in_limits = record { tries = sound.tries; some_solution = sound.some_solution; solutions = sound.solutions };
        };
        as_given = λ given given_is given_valid.
            let k : Some lists ≡ Some given = sym begins ∙ ap (ruin_begin model) given_is ∙ (begun-given model given given_valid).ruin in
            let same : lists ≡ given = cc in
            valid_first_is_kept model lists (limit_of model) (asked_for wish) rest well_formed
            (subst (λ xs. IsTrue (is_valid model xs)) (sym same) given_valid) e ∙ same;
      }

  own-found : (asked : Mode) (found : Found) (o : Option (List (List ℕ))) → begin_lists model routes ≡ o
      → found_with asked model o ≡ Some found → IsSoundFound model routes None found
  own-found asked found None begins e = absurd cc
  own-found asked found (Some first) begins e =
      let k : found_from asked model first ≡ found = cc in
      subst (IsSoundFound model routes None) k (own-sound asked first begins)

  ruin-found : (wish : Wish) (found : Found) (o : Option (List (List ℕ))) → ruin_begin model routes ≡ o
      → refined_with model wish o ≡ Some found → IsSoundFound model routes (Some wish) found
  ruin-found wish found None begins e = absurd cc
  ruin-found wish found (Some lists) begins e = by (refined model lists (limit_of model) (asked_for wish)) refl e
    where
      by : (o : Option RefineEnd) → refined model lists (limit_of model) (asked_for wish) ≡ o
          → option_map found_at o ≡ Some found → IsSoundFound model routes (Some wish) found
      by None is same = absurd cc
      by (Some rest) is same = let k : found_at rest ≡ found = cc in subst (IsSoundFound model routes (Some wish)) k (ruin-sound wish lists rest begins is)

  pub sound-found : (asked : Mode) (wish : Option Wish) (found : Found) → found_by asked model routes wish ≡ Some found → IsSoundFound model routes wish found
  sound-found asked None found e = own-found asked found (begin_lists model routes) refl e
  sound-found asked (Some wish) found e = ruin-found wish found (ruin_begin model routes) refl e
