-- The moves of a list are moves.
use Rattle.std.proofs.Common.{◌≡◌, ◌∙◌, ℕ, Bool, true, List, [], ◌∷◌, refl, ap, inl, inr}
use Rattle.std.specs.Prelude.{◌&&◌, IsTrue}
use Rattle.std.specs.List.{list_all}
use Rattle.vr_model.specs.moves.Moves.{moves, moves_in, moves_over, all_neighbourhoods}
use Rattle.vr_model.specs.moves.MoveTests.{is_move}
use Rattle.vr_model.specs.declared.records.Model.{Model}
use Rattle.vr_model.specs.declared.neighbours.Move.{Move}
use Rattle.vr_model.specs.declared.neighbours.Neighbourhood.{Neighbourhood}
use Rattle.vr_model.proofs.tables.Members.{In, to_contains, from_each, to_each}
use Rattle.vr_model.proofs.moves.MoveMembers.{in_all, moves_as_tested}

-- each move of some neighbourhoods is one of all
pub one_move : (model : Model) (some : List Neighbourhood) (lists : List (List ℕ)) (mv : Move)
    → In (moves_over model some lists) mv → IsTrue (is_move model lists mv)
unfolding moves_over
one_move model some lists mv h = (moves_as_tested model lists mv).0 (to_contains _ mv
    (from_each (moves_in model lists) some mv h
    λ neighbourhood known found. to_each (moves_in model lists) all_neighbourhoods neighbourhood mv (in_all neighbourhood) found))

every : {A : Type 0} (test : A → Bool) (xs : List A) → ((x : A) → In xs x → test x ≡ true) → list_all test xs ≡ true
every test [] h = refl
every test (x ∷ xs) h = ap (λ b. b && list_all test xs) (h x (inl refl)) ∙ every test xs (λ y g. h y (inr g))

-- the list of moves of the model's neighbourhoods has moves alone
pub all_moves : (model : Model) (lists : List (List ℕ)) → list_all (is_move model lists) (moves model lists) ≡ true
all_moves model lists = every (is_move model lists) (moves model lists) (λ mv h. one_move model model.search.neighbourhoods lists mv h)
