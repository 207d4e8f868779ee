-- What pieces lead to over an arc.
use Rattle.std.proofs.Common.{◌≡◌, ◌∙◌, true, false, ◌&&◌, List, [], ◌∷◌, ℤ, pos, ◌+ℤ◌, ◌-ℤ◌, ◌≤ℤ◌, ◌<ℤ◌, sym, inl, inr, arith}
use Rattle.std.specs.Prelude.{IsTrue}
use Rattle.std.specs.Int.{int_min}
use Rattle.std.proofs.lemmas.Int.{ints, int_min_is}
use Rattle.vr_model.specs.tables.Numbers.{horizon}
use Rattle.vr_model.specs.deciding.Testing.{and_left, and_right, and_both, or_cases, or_left, or_right}
use Rattle.vr_spans.specs.declared.runs.Run.{Run}
use Rattle.vr_spans.specs.Runs.{has}
use Rattle.vr_steps.specs.declared.hops.Hop.{Hop}
use Rattle.vr_steps.specs.Arcs.{IsSoundHop}
use Rattle.vr_span.specs.declared.pieces.Piece.{Piece}
use Rattle.vr_span.specs.Pieces.{piece_limit, has_from, have_from, IsPiece, IsRisingFrom, ArePieces, moved_piece, until_of, pieces_behind, Arrive}
use Rattle.vr_span.proofs.PieceLemmas.{InPiece, le_or_lt, min_left, min_right, of_has, rises_earlier, to_has, to_min}

-- pieces begin behind the last cumul before the first of them
until_rises : (top b s : ℤ) (ps : List Piece) → IsRisingFrom top b s ps → IsRisingFrom top (until_of ps +ℤ pos 1) s ps
until_rises top b s [] h = tt
until_rises top b s (p ∷ ps) h = (omega (arith, ints), h.1, h.2, h.3)

-- which is not before where they may begin
pub until_low : (top b s : ℤ) (ps : List Piece) → IsRisingFrom top b s ps → b ≤ℤ piece_limit → b ≤ℤ (until_of ps +ℤ pos 1)
until_low top b s [] h le = omega (arith, ints, le)
until_low top b s (p ∷ ps) h le = let a = h.0 in omega (arith, ints, a)

module _ (hop : Hop) (sound : IsSoundHop hop) where
  -- they rise as the pieces do
  pub behind_rises : (b s : ℤ) (ps : List Piece) → pos 0 ≤ℤ b → IsRisingFrom horizon b s ps
      → IsRisingFrom piece_limit (b +ℤ hop.transit) s (pieces_behind hop ps)
  behind_rises b s [] zero h = tt
  behind_rises b s (p ∷ ps) zero h =
      let t = sound.transit.at_most in
      let slack = sound.slack.at_least in
      let slack_most = sound.slack.at_most in
      let low = h.0 in
      let order = h.2.in_order in
      let great = h.2.greatest in
      let one = h.2.by_one in
      let until = until_low horizon (p.hi +ℤ pos 1) p.last ps h.3 (omega (arith, ints, great)) in
      let a = min_left (p.hi +ℤ hop.slack) (until_of ps) in
      let c = min_right (p.hi +ℤ hop.slack) (until_of ps) in
      let d = to_min p.hi (p.hi +ℤ hop.slack) (until_of ps) (omega (arith, ints, slack)) (omega (arith, ints, until)) in (
        omega (arith, ints, low),
        h.1,
        record {
          in_order = omega (arith, ints, order, d);
          greatest = omega (arith, ints, a, great, slack_most, t);
          rises = h.2.rises;
          by_one = omega (arith, ints, one, d);
          latest = h.2.latest;
        },
        rises_earlier piece_limit ((until_of ps +ℤ pos 1) +ℤ hop.transit) ((moved_piece hop (until_of ps) p).hi +ℤ pos 1)
            p.last p.last (pieces_behind hop ps) (omega (arith, ints, c)) (omega (arith, ints))
            (behind_rises (until_of ps +ℤ pos 1) p.last ps (omega (arith, ints, until, zero, low, order)) (until_rises horizon (p.hi +ℤ pos 1) p.last ps h.3)),
      )

  abbrev FromPieces : List Piece → ℤ → ℤ → Type 0
  FromPieces ps s x = (y : ℤ) × IsTrue (have_from ps s y) × ((y +ℤ hop.transit) ≤ℤ x) × (x ≤ℤ (y +ℤ (hop.transit +ℤ hop.slack)))

  from_head : (p : Piece) (ps : List Piece) (s x : ℤ) → IsPiece horizon p → InPiece (moved_piece hop (until_of ps) p) s x → FromPieces (p ∷ ps) s x
  from_head p ps s x is h =
      let y = int_min (x -ℤ hop.transit) p.hi in
      let low = h.0 in
      let high = h.1 in
      let from = h.2 in
      let last = h.3 in
      let order = is.in_order in
      let one = is.by_one in
      let slack = sound.slack.at_least in
      let a = min_left (x -ℤ hop.transit) p.hi in
      let b = min_right (x -ℤ hop.transit) p.hi in
      let m = int_min_is (x -ℤ hop.transit) p.hi in
      let c = min_left (p.hi +ℤ hop.slack) (until_of ps) in
      let here : InPiece p s y = (to_min p.lo (x -ℤ hop.transit) p.hi (omega (arith, ints, low)) order, b, omega (arith, ints, m, from, last, one), last) in
      (y, or_left (has_from p s y) _ (to_has p s y here), omega (arith, ints, a), omega (arith, ints, m, high, c, slack))

  pub of_behind : (b t : ℤ) (ps : List Piece) → IsRisingFrom horizon b t ps → (s x : ℤ) → IsTrue (have_from (pieces_behind hop ps) s x) → FromPieces ps s x
  of_behind b t [] h s x is = absurd (let f : false ≡ true → ⊥ = λ e. cc in f is)
  of_behind b t (p ∷ ps) h s x is = elim (or_cases (has_from (moved_piece hop (until_of ps) p) s x) _ is) [
    | inl here ↦ from_head p ps s x h.2 (of_has (moved_piece hop (until_of ps) p) s x here)
    | inr later ↦ (let r = of_behind (p.hi +ℤ pos 1) p.last ps h.3 s x later in (r.0, or_right (has_from p s r.0) _ r.1, r.2, r.3))
  ]

  -- a cumul behind the prolonged piece is one of the pieces behind it
  over_next : (p : Piece) (ps : List Piece) (s x y : ℤ) → IsPiece horizon p → IsRisingFrom horizon (p.hi +ℤ pos 1) p.last ps → InPiece p s y
      → (y +ℤ hop.transit) ≤ℤ x → x ≤ℤ (y +ℤ (hop.transit +ℤ hop.slack)) → until_of ps <ℤ (x -ℤ hop.transit) → FromPieces ps s x
  over_next p [] s x y is h i low high over =
      let a = i.1 in
      let great = is.greatest in
      let slack = sound.slack.at_most in
      absurd (omega (arith, ints, a, great, slack, high, over))
  over_next p (q ∷ qs) s x y is h i low high over =
      let a = i.1 in
      let b = h.0 in
      let c = i.3 in
      let d = h.1 in
      let order = h.2.in_order in
      let rises = h.2.rises in
      let here : InPiece q s q.lo = (omega (arith, ints), order, omega (arith, ints, c, d), omega (arith, ints, c, d, rises)) in
      (q.lo, or_left (has_from q s q.lo) _ (to_has q s q.lo here), omega (arith, ints, over), omega (arith, ints, high, a, b))

  pub to_behind : (b t : ℤ) (ps : List Piece) → IsRisingFrom horizon b t ps → (s x : ℤ) → FromPieces ps s x → IsTrue (have_from (pieces_behind hop ps) s x)
  to_behind b t [] h s x from = absurd (let f : false ≡ true → ⊥ = λ e. cc in f from.1)
  to_behind b t (p ∷ ps) h s x (y, is, low, high) = elim (or_cases (has_from p s y) _ is) [
    | inl here ↦ (let i = of_has p s y here in elim (le_or_lt (x -ℤ hop.transit) (until_of ps)) [
      | inl within ↦ (let a = i.0 in
          let c = i.1 in
          let d = i.2 in
          let e = to_min (x -ℤ hop.transit) (p.hi +ℤ hop.slack) (until_of ps) (omega (arith, ints, c, high)) within in
          or_left (has_from (moved_piece hop (until_of ps) p) s x) _
          (to_has (moved_piece hop (until_of ps) p) s x (omega (arith, ints, a, low), omega (arith, ints, e), omega (arith, ints, d, low), i.3)))
      | inr over ↦ or_right (has_from (moved_piece hop (until_of ps) p) s x) _
          (to_behind (p.hi +ℤ pos 1) p.last ps h.3 s x (over_next p ps s x y h.2 h.3 i low high over))
    ])
    | inr later ↦ or_right (has_from (moved_piece hop (until_of ps) p) s x) _ (to_behind (p.hi +ℤ pos 1) p.last ps h.3 s x (y, later, low, high))
  ]

  -- the pieces that lie in the next set are those to which the arc leads
  pub arrive : (from : List Piece) (next : List Run) (out : List Piece) → ArePieces from
      → ((s x : ℤ) → have_from out s x ≡ (have_from (pieces_behind hop from) s x && has next x)) → Arrive hop from next out
  arrive from next out are same s x = (
    λ is. let both = sym (same s x) ∙ is in (
      and_right (have_from (pieces_behind hop from) s x) _ both,
      of_behind (pos 0) (pos 0) from are s x (and_left (have_from (pieces_behind hop from) s x) _ both),
    ),
    λ h. same s x ∙ and_both (have_from (pieces_behind hop from) s x) _ (to_behind (pos 0) (pos 0) from are s x h.1) h.0,
  )
