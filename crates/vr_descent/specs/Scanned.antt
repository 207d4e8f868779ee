-- What a scan answers.
use Rattle.std.specs.Prelude.{◌≡◌, ⊤, ℕ, Bool, false, ◌&&◌, cond, IsTrue, List, ℤ, ◌≤ℤ◌, int_lt, pos, Option, Some}
use Rattle.std.specs.Prelude.{None}
use Rattle.vr_model.specs.moves.Moves.{apply}
use Rattle.vr_model.specs.moves.MoveTests.{is_move}
use Rattle.vr_model.specs.routes.Rules.{is_valid}
use Rattle.vr_model.specs.search.Scans.{Scan}
use Rattle.vr_model.specs.search.Scans.Scan.{Accepted as accepted, Complete as complete, Cut as cut}
use Rattle.vr_model.specs.declared.records.Model.{Model}
use Rattle.vr_model.specs.declared.neighbours.Move.{Move}
use Rattle.vr_routes.specs.Changes.{IsChange}
use Rattle.vr_routes.specs.Judging.{cost_change}
use Rattle.vr_routes.specs.Pieces.{ListAfter}
use Rattle.vr_routes.specs.Runs.{with_last}
use Rattle.vr_descent.specs.declared.scanning.ScanEnd.{ScanEnd}
use Rattle.vr_descent.specs.declared.scanning.ScanEnd.TheVariants.{Accepted, Complete, Cut}

-- a move is acceptable if the lists after it are valid, and it is taken with the difference that it makes in cost
abbrev pub is_acceptable : Model → (List (List ℕ) → Move → ℤ → Bool) → List (List ℕ) → Move → Bool
is_acceptable model takes lists mv =
    is_valid model (apply model lists mv) && takes lists mv (cost_change model lists mv)

-- the difference of a move that is acceptable, none of another
abbrev pub taken_difference : Model → (List (List ℕ) → Move → ℤ → Bool) → List (List ℕ) → Move → Option ℤ
taken_difference model takes lists mv = cond (is_acceptable model takes lists mv) (Some (cost_change model lists mv))
    None

-- a move is not taken if the lists after it are valid and it makes a difference of `least` or more in cost
abbrev pub IsPassedOver : Model → (List (List ℕ) → Move → ℤ → Bool) → List (List ℕ) → Move → ℤ → Type 0
IsPassedOver model takes lists mv least =
    let difference = cost_change model lists mv in
    IsTrue (is_valid model (apply model lists mv)) → least ≤ℤ difference → takes lists mv difference ≡ false

-- neither this move nor one that differs from it in its last number is taken with this difference in cost or more.
-- Nothing is said of moves after which the lists are not valid
abbrev pub IsEnough : Model → (List (List ℕ) → Move → ℤ → Bool) → List (List ℕ) → Move → ℤ → Type 0
IsEnough model takes lists mv difference =
    (k : ℕ) → IsTrue (is_move model lists (with_last mv k)) → IsPassedOver model takes lists (with_last mv k) difference

-- what a descent takes: each move that makes the cost less
abbrev pub takes_less : List (List ℕ) → Move → ℤ → Bool
takes_less lists mv difference = int_lt difference (pos 0)

-- the end of a scan, with the difference of the move that was accepted
abbrev pub scan_end : Model → List (List ℕ) → Scan → ScanEnd
scan_end model lists (accepted place mv) = Accepted place mv (cost_change model lists mv)
scan_end model lists (complete n) = Complete n
scan_end model lists cut = Cut

-- if a scan accepts a move, a change is the one that it makes
abbrev pub IsChangeAtEnd : Model → List (List ℕ) → ScanEnd → List ListAfter → Type 0
IsChangeAtEnd model lists (Accepted place mv difference) change = IsChange model lists mv change
IsChangeAtEnd model lists (Complete n) change = ⊤
IsChangeAtEnd model lists Cut change = ⊤

-- how many moves were tried in a scan that could try `rest` moves
abbrev pub tries_in_scan : ℕ → ScanEnd → ℕ
tries_in_scan rest (Accepted place mv change) = place
tries_in_scan rest (Complete n) = n
tries_in_scan rest Cut = rest
