-- From which starts cumuls of a line without breaks are reached.
use Rattle.std.specs.Prelude.{◌≡◌, ℕ, ◌↔◌, IsTrue, List, ℤ, ◌-ℤ◌, ◌≤ℤ◌}
use Rattle.vr_model.specs.schedules.Lines.{Line as Defined}
use Rattle.vr_model.specs.schedules.Schedules.{Plan, IsReached, IsSchedule, cumul, span}
use Rattle.vr_model.specs.schedules.ChosenLaws.{pinned}
use Rattle.vr_model.specs.schedules.Tight.{end_of}
use Rattle.vr_steps.specs.declared.lines.Line.{Line}
use Rattle.vr_steps.specs.Lines.{IsLineOf}
use Rattle.vr_span.specs.declared.pieces.Piece.{Piece}
use Rattle.vr_span.specs.Pieces.{have_from}

-- stop k is reached at x from a start that is s or later
abbrev pub IsReachedFrom : Defined → ℕ → ℤ → ℤ → Type 0
IsReachedFrom line k s x = (start : ℤ) × (s ≤ℤ start) × IsReached (pinned line 0 start) k 0 x

-- the pieces have the cumuls that are reached at stop k, each from the starts from which it is reached
abbrev pub AreReachedPieces : Defined → ℕ → List Piece → Type 0
AreReachedPieces line k pieces = (s x : ℤ) → IsTrue (have_from pieces s x) ↔ IsReachedFrom line k s x

-- the pieces have the cumuls that are reached at stop k of a line as the code holds it. Each is had from the starts
-- from which it is reached
abbrev pub AreReachedPiecesAt : Line → ℕ → List Piece → Type 0
AreReachedPiecesAt line k pieces = (defined : Defined) → IsLineOf defined line → AreReachedPieces defined k pieces

-- some schedule goes from s to e, none has a lesser span, and none of this span starts earlier
pub record IsFirstShortest (line : Defined) (s e : ℤ) : Type 0 where
  pub reached : (plan : Plan) × IsSchedule line plan × (cumul plan 0 ≡ s) × (end_of line plan ≡ e)
  pub least : (other : Plan) → IsSchedule line other → (e -ℤ s) ≤ℤ span line other
  pub earliest : (other : Plan) → IsSchedule line other → span line other ≡ (e -ℤ s) → s ≤ℤ cumul other 0

-- the first start and the first cumul of the piece are the ends of a schedule of the least span. None of this span
-- starts earlier
abbrev pub IsShortestWay : Line → Piece → Type 0
IsShortestWay line piece = (defined : Defined) → IsLineOf defined line → IsFirstShortest defined piece.first piece.lo
