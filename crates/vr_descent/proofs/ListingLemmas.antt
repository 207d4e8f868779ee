-- The moves of neighbourhoods, one neighbourhood after the other.
use Rattle.std.proofs.Common.{◌≡◌, ◌∙◌, ℕ, suc, List, [], ◌∷◌, ◌++◌, length, refl, sym, ap, ap₂}
use Rattle.std.specs.Prelude.{MatchOption, Option, Some, None}
use Rattle.vr_known.specs.Passing.{IsFirst}
use Rattle.vr_model.specs.moves.Moves.{moves_in, moves_over}
use Rattle.vr_model.specs.declared.records.Model.{Model}
use Rattle.vr_model.specs.declared.neighbours.Move.{Move}
use Rattle.vr_model.specs.declared.neighbours.Neighbourhood.{Neighbourhood}

module _ (model : Model) (lists : List (List ℕ)) where
  no_more : moves_over model [] lists ≡ []
  unfolding moves_over
  no_more = refl

  first_more : (n : Neighbourhood) (ns : List Neighbourhood) → moves_over model (n ∷ ns) lists ≡ moves_in model lists n ++ moves_over model ns lists
  unfolding moves_over
  first_more n ns = refl

  -- the neighbourhood in hand has no move left, and the next one is taken in hand
  pub taken_in_hand : (left hand : List Move) (n : Neighbourhood) (all others : List Neighbourhood)
      → left ≡ [] → all ≡ n ∷ others → hand ≡ moves_in model lists n
      → left ++ moves_over model all lists ≡ hand ++ moves_over model others lists
  taken_in_hand left hand n all others none split opened =
      ap₂ (λ xs ns. xs ++ moves_over model ns lists) none split ∙ (first_more n others ∙ ap (λ xs. xs ++ moves_over model others lists) (sym opened))

  -- no neighbourhood is left either
  pub none_left : (left : List Move) (ns : List Neighbourhood) → left ≡ [] → length ns ≡ 0 → left ++ moves_over model ns lists ≡ []
  none_left left [] none e = ap (λ xs. xs ++ moves_over model [] lists) none ∙ no_more
  none_left left (n ∷ ns) none e = absurd (no e)
    where
      no : suc (length ns) ≡ 0 → ⊥
      no e = Prim.cc

-- the first move of a run is the first of the run and what stands behind it
pub first_along : (run : List Move) (result : Option Move) (left behind : List Move) → IsFirst run result left
    → MatchOption result (left ++ behind ≡ run ++ behind) (λ mv. run ++ behind ≡ mv ∷ (left ++ behind))
first_along run None left behind h = ap (λ l. l ++ behind) (h.1 ∙ sym h.0)
first_along run (Some mv) left behind h = ap (λ l. l ++ behind) h
