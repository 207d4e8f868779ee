-- The lists after a move, built anew.
use Rattle.std.proofs.Common.{◌≡◌, ℕ, ℤ, List, subst, sym}
use Rattle.std.specs.Prelude.{IsTrue, length}
use Rattle.vr_model.specs.moves.Moves.{apply}
use Rattle.vr_model.specs.moves.MoveTests.{is_move}
use Rattle.vr_model.specs.routes.Routes.{are_lists}
use Rattle.vr_model.specs.routes.Rules.{is_valid}
use Rattle.vr_model.specs.tables.Tables.{visits}
use Rattle.vr_model.specs.tables.WellFormed.{IsWellFormed}
use Rattle.vr_model.specs.declared.records.Model.{Model}
use Rattle.vr_model.specs.declared.neighbours.Move.{Move}
use Rattle.vr_model.proofs.moves.KeptLists.{moves_keep_lists}
use Rattle.vr_model.proofs.routes.Lists.{are-lists, are_lists-count}
use Rattle.vr_routes.specs.Tours.{Tours}
use Rattle.vr_plain.specs.Committed.{AreCommitted}

-- after a move of valid lists they are lists of the model
pub are_lists_after : (model : Model) (lists : List (List ℕ)) (mv : Move) → IsWellFormed model → IsTrue (is_valid model lists) → IsTrue (is_move model lists mv)
    → (later : List (List ℕ)) → later ≡ apply model lists mv → IsTrue (are_lists model later)
are_lists_after model lists mv well valid is_one later is =
    subst (λ ls. IsTrue (are_lists model ls)) (sym is) (moves_keep_lists model well lists mv (are-lists model lists valid) is_one)

-- valid lists are as many as the vehicles
pub valid_count : (model : Model) (lists : List (List ℕ)) → IsTrue (is_valid model lists) → length lists ≡ length model.vehicles
valid_count model lists valid = are_lists-count model lists (are-lists model lists valid)

-- and so are those after a move of them
pub count_after : (model : Model) (lists : List (List ℕ)) (mv : Move) → IsWellFormed model → IsTrue (is_valid model lists) → IsTrue (is_move model lists mv)
    → (later : List (List ℕ)) → later ≡ apply model lists mv → length later ≡ length model.vehicles
count_after model lists mv well valid is_one later is = are_lists-count model later (are_lists_after model lists mv well valid is_one later is)

-- a judge whose scratch alone was written over has committed what it had
pub stays_committed : {model rules : Model} {routes scratch later : Tours} {total : ℤ} → AreCommitted model routes scratch total → rules ≡ model
    → later.visits ≡ visits model → length later.lists ≡ length model.vehicles → AreCommitted rules routes later total
stays_committed {routes} {later} {total} before same of_model for_all = subst (λ m. AreCommitted m routes later total) (sym same) (record {
  of_model = before.of_model;
  scratch_of_model = of_model;
  scratch_for_all = for_all;
  costs = before.costs;
  least = before.least;
})
