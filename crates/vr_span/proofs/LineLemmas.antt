-- What pieces tell of a line as the code holds it.
use Rattle.std.proofs.Common.{◌≡◌, ◌∙◌, ℕ, suc, ◌+◌, ◌<◌, List, [], length, get_or, Option, Some, None, sym, subst, arith}
use Rattle.std.specs.Prelude.{IfSome}
use Rattle.vr_model.specs.schedules.Lines.{Line as Defined}
use Rattle.vr_model.specs.schedules.Levels.{CumulWhereLevelsMeet, ReachedAtEnd, ReachedAtStart, ReachedByCrossing}
use Rattle.vr_spans.specs.declared.runs.Run.{Run}
use Rattle.vr_steps.specs.declared.hops.Hop.{Hop}
use Rattle.vr_steps.specs.declared.lines.Line.{Line}
use Rattle.vr_steps.specs.Lines.{IsLineOf, IsSoundLine}
use Rattle.vr_steps.specs.Reached.{ArcAlone, IsAllowedSet, LinesStandForTheirs}
use Rattle.vr_span.specs.declared.pieces.Piece.{Piece}
use Rattle.vr_span.specs.Pieces.{Arrive, Begin, IsShortest}
use Rattle.vr_span.specs.Starts.{IsShortestWay, AreReachedPieces, AreReachedPiecesAt}
use Rattle.vr_span.proofs.WayLemmas.{arc_told, never_told, shortest_told, start_told}

module _ (stands : LinesStandForTheirs) (made : Line) (sound : IsSoundLine made) where
  pub begin_at : ReachedAtStart → (set : List Run) → get_or made.allowed 0 [] ≡ set
      → (pieces : List Piece) → Begin set pieces → AreReachedPiecesAt made 0 pieces
  begin_at law set is pieces begin defined of =
      let s = stands defined made of sound in
      start_told defined s.sound law set (subst (IsAllowedSet defined 0) is (s.allowed 0 (let n = sound.stops in omega (arith, n)))) pieces begin

  pub behind_at : ReachedByCrossing → ArcAlone → (k : ℕ) → k < length made.hops → (hop : Hop)
      → ((d : Hop) → get_or made.hops k d ≡ hop) → (set : List Run) → get_or made.allowed (k + 1) [] ≡ set
      → (pieces out : List Piece) → AreReachedPiecesAt made k pieces → Arrive hop pieces set out → AreReachedPiecesAt made (k + 1) out
  behind_at crossing alone k lt hop hop_is set is pieces out told arrive defined of =
      let s = stands defined made of sound in
      let n = sound.stops in
      let next : k + 1 ≡ suc k = omega arith in
      let same = sym (hop_is hop) ∙ s.hops k hop lt in
      subst (λ i. AreReachedPieces defined i out) (sym next)
      (arc_told defined s.sound crossing alone k (let m = s.arcs in omega (arith, m, lt)) set
      (subst (IsAllowedSet defined (suc k)) (subst (λ i. get_or made.allowed i [] ≡ set) next is) (s.allowed (suc k) (omega (arith, n, lt)))) pieces
      out (told defined of)
      (subst (λ h. Arrive h pieces set out) same arrive))

  module _ (meet : CumulWhereLevelsMeet) (at_end : ReachedAtEnd) (none : made.breaks ≡ [])
      (pieces : List Piece) (told : AreReachedPiecesAt made (length made.hops) pieces) where
    at_last : (defined : Defined) (of : IsLineOf defined made) → AreReachedPieces defined (length defined.arcs) pieces
    at_last defined of = subst (λ n. AreReachedPieces defined n pieces) (sym (stands defined made of sound).arcs) (told defined of)

    pub way_told : (found : Option Piece) → IfSome found (IsShortest pieces) → IfSome found (IsShortestWay made)
    way_told None is = is
    way_told (Some d) is = λ defined of.
        let s = stands defined made of sound in
        shortest_told defined s.sound meet at_end (s.breaks ∙ none) pieces (at_last defined of) d is

    pub none_told : pieces ≡ [] → (defined : Defined) → IsLineOf defined made → Rattle.vr_model.specs.schedules.Schedules.IsFeasible defined → ⊥
    none_told empty defined of feasible =
        let s = stands defined made of sound in
        never_told defined s.sound meet at_end (s.breaks ∙ none) pieces (at_last defined of) empty feasible
