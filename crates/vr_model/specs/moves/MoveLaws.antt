-- What a move does to lists of a model, as statements.
use Rattle.std.specs.Prelude.{◌≢◌, ℕ, List, IsTrue}
use Rattle.vr_model.specs.tables.WellFormed.{IsWellFormed}
use Rattle.vr_model.specs.routes.Routes.{are_lists}
use Rattle.vr_model.specs.moves.Moves.{apply}
use Rattle.vr_model.specs.moves.MoveTests.{is_move}
use Rattle.vr_model.specs.declared.records.Model.{Model}
use Rattle.vr_model.specs.declared.neighbours.Move.{Move}

-- no move leaves lists of the model as they are
abbrev pub MovesChangeLists : Type 0
MovesChangeLists = (model : Model) (lists : List (List ℕ)) (mv : Move) → IsTrue (are_lists model lists)
    → IsTrue (is_move model lists mv) → apply model lists mv ≢ lists

-- the lists after a move are lists of the model, so no visit is in them twice
abbrev pub MovesKeepLists : Type 0
MovesKeepLists = (model : Model) → IsWellFormed model → (lists : List (List ℕ)) (mv : Move)
    → IsTrue (are_lists model lists) → IsTrue (is_move model lists mv) → IsTrue (are_lists model (apply model lists mv))
