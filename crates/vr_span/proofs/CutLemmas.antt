-- The loop over the pieces that lie in runs.
use Rattle.std.proofs.Common.{◌≡◌, ◌∙◌, Bool, true, false, ◌&&◌, ◌||◌, List, [], ◌∷◌, ◌++◌, ℤ, pos, neg_ℤ, ◌+ℤ◌, ◌≤ℤ◌, refl, sym, ap, subst, inl, inr, arith}
use Rattle.std.proofs.Common.{◌⊎◌}
use Rattle.std.specs.Prelude.{IsTrue, int_le}
use Rattle.std.specs.Int.{int_max}
use Rattle.std.proofs.lemmas.Int.{ints}
use Rattle.vr_model.specs.tables.Numbers.{horizon}
use Rattle.vr_model.specs.deciding.Testing.{and_left, and_right, and_both, or_left, or_right, within_is, test_of_le, le_of_test}
use Rattle.vr_spans.specs.declared.runs.Run.{Run}
use Rattle.vr_spans.specs.Runs.{has, in_run, IsNormal, IsNormalFrom}
use Rattle.vr_spans.proofs.RunsLemmas.{normal_rest}
use Rattle.vr_spans.proofs.Numbers.{has_below, has_lo}
use Rattle.vr_steps.specs.Levels.{IsCumuls}
use Rattle.vr_span.specs.declared.pieces.Piece.{Piece}
use Rattle.vr_span.specs.Pieces.{piece_limit, start_of, has_from, have_from, IsPiece, IsRisingFrom, ArePieces, within_run, piece_if_any}
use Rattle.vr_span.proofs.PieceLemmas.{AreBefore, before_append, before_kept, before_later, cut_has, have_append, kept_has, max_left, max_right, min_left}
use Rattle.vr_span.proofs.PieceLemmas.{min_right, none_before, of_has, of_max, rises_earlier, rises_kept, start_by_one, start_first, start_last, start_rises}
use Rattle.vr_span.proofs.PieceLemmas.{same_tests}

-- no piece of out ends, or starts, after what the first of the pieces has in the first of the runs
abbrev pub Precede : List Piece → List Piece → List Run → Type 0
Precede out [] right = Unit {0}
Precede out (p ∷ ps) [] = Unit {0}
Precede out (p ∷ ps) (r ∷ rs) = AreBefore (int_max p.lo r.lo) (start_of p (int_max p.lo r.lo)) out

-- out has what the pieces of all have in next before left and right, which are left of them
pub record IsCutting (all : List Piece) (next : List Run) (out left : List Piece) (right : List Run) : Type 0 where
  pub exact : (s x : ℤ) → (have_from out s x || (have_from left s x && has right x)) ≡ (have_from all s x && has next x)
  pub left_rises : IsRisingFrom piece_limit (neg_ℤ piece_limit) (pos 0) left
  pub right_normal : IsNormal right
  pub right_cumuls : IsCumuls right
  pub rises : ArePieces out
  pub before : Precede out left right

-- what the first two have in common has gone to the new list
left_gone : (old new both l ls q qs all : Bool) → (old || ((l || ls) && (q || qs))) ≡ all
    → new ≡ (old || both) → both ≡ (l && q) → (l && qs) ≡ false → (new || (ls && (q || qs))) ≡ all
left_gone old new both l ls q qs all e f g h = grind arith

right_gone : (old new both l ls q qs all : Bool) → (old || ((l || ls) && (q || qs))) ≡ all
    → new ≡ (old || both) → both ≡ (l && q) → (ls && q) ≡ false → (new || ((l || ls) && qs)) ≡ all
right_gone old new both l ls q qs all e f g h = grind arith

never : (b : Bool) → (IsTrue b → ⊥) → b ≡ false
never b h = same_tests b false (λ t. absurd (h t)) (λ t. let f : false ≡ true → ⊥ = λ e. cc in absurd (f t))

rest_cumuls : (r : Run) (rs : List Run) → IsCumuls (r ∷ rs) → IsCumuls rs
rest_cumuls r rs h x is = h x (or_right (in_run r x) _ is)

module _ (all : List Piece) (next : List Run) (out : List Piece) (p : Piece) (ps : List Piece)
    (r : Run) (rs : List Run) (m : IsCutting all next out (p ∷ ps) (r ∷ rs)) where
  abbrev cut : Piece
  cut = within_run r p

  abbrev new : List Piece
  new = out ++ piece_if_any cut

  is : IsPiece piece_limit p
  is = m.left_rises.2

  pub run_low : pos 0 ≤ℤ r.lo
  run_low = (within_is (pos 0) horizon r.lo (m.right_cumuls r.lo (has_lo r rs m.right_normal.1))).0

  has_hi : IsTrue (has (r ∷ rs) r.hi)
  has_hi =
      let order = m.right_normal.1 in
      or_left (in_run r r.hi) _ (and_both (int_le r.lo r.hi) _ (test_of_le r.lo r.hi order) (test_of_le r.hi r.hi (omega (arith, ints))))

  pub run_high : r.hi ≤ℤ horizon
  run_high = (within_is (pos 0) horizon r.hi (m.right_cumuls r.hi has_hi)).1

  cut_piece : cut.lo ≤ℤ cut.hi → IsPiece horizon cut
  cut_piece le =
      let a = min_right p.hi r.hi in
      let b = start_last p cut.hi in
      let c = is.latest in
      let high = run_high in
      record {
        in_order = le;
        greatest = omega (arith, ints, a, high);
        rises = start_rises p cut.lo cut.hi le;
        by_one = start_by_one p cut.lo cut.hi le;
        latest = omega (arith, ints, b, c);
      }

  new_rises : ArePieces new
  new_rises =
      let a = max_right p.lo r.lo in
      let low = run_low in
      let b = start_first p cut.lo (max_left p.lo r.lo) is.rises in
      let c = m.left_rises.1 in
      rises_kept horizon (pos 0) (pos 0) out cut m.rises m.before (omega (arith, ints, a, low)) (omega (arith, ints, b, c)) cut_piece

  new_has : (s x : ℤ) → have_from new s x ≡ (have_from out s x || has_from cut s x)
  new_has s x = have_append out (piece_if_any cut) s x ∙ ap (λ b. have_from out s x || b) (kept_has cut s x)

  rest_rises : IsRisingFrom piece_limit (neg_ℤ piece_limit) (pos 0) ps
  rest_rises =
      let a = m.left_rises.0 in
      let b = is.in_order in
      let c = m.left_rises.1 in
      let d = is.rises in
      rises_earlier piece_limit (p.hi +ℤ pos 1) (neg_ℤ piece_limit) p.last (pos 0) ps (omega (arith, ints, a, b)) (omega (arith, ints, c, d)) m.left_rises.3

  -- ---- the piece ends first

  module _ (first : p.hi ≤ℤ r.hi) where
    apart : (s x : ℤ) → (has_from p s x && has rs x) ≡ false
    apart s x = never (has_from p s x && has rs x) λ h. (
        let i = (of_has p s x (and_left (has_from p s x) _ h)).1 in
        let e = has_below (r.hi +ℤ pos 2) rs x m.right_normal.3 (omega (arith, ints, i, first)) in
        let f : false ≡ true → ⊥ = λ e. cc in f (sym e ∙ and_right (has_from p s x) _ h))

    left_before : (qs : List Piece) → IsRisingFrom piece_limit (p.hi +ℤ pos 1) p.last qs → Precede new qs (r ∷ rs)
    left_before [] h = tt
    left_before (q ∷ qs) h =
        let lo = int_max q.lo r.lo in
        let a = h.0 in
        let b = is.in_order in
        let c = max_left q.lo r.lo in
        let d = max_right q.lo r.lo in
        let later : cut.lo ≤ℤ lo = of_max lo p.lo r.lo (omega (arith, ints, a, b, c)) d in
        let e = h.1 in
        let f = start_first q lo c h.2.rises in
        let g = start_last p cut.lo in
        let k = min_left p.hi r.hi in
        let l = start_last p cut.hi in
        before_append lo (start_of q lo) out (piece_if_any cut)
        (before_later cut.lo lo cut.first (start_of q lo) out later (omega (arith, ints, e, f, g)) m.before)
        (before_kept lo (start_of q lo) cut (omega (arith, ints, k, a, c)) (omega (arith, ints, l, e, f)))

    pub drop_left : IsCutting all next new ps (r ∷ rs)
    drop_left = record {
      exact = λ s x. left_gone (have_from out s x) (have_from new s x) (has_from cut s x) (has_from p s x)
          (have_from ps s x) (in_run r x) (has rs x) _ (m.exact s x) (new_has s x) (cut_has r p s x) (apart s x);
      left_rises = rest_rises;
      right_normal = m.right_normal;
      right_cumuls = m.right_cumuls;
      rises = new_rises;
      before = left_before ps m.left_rises.3;
    }

  -- ---- the run ends first

  module _ (last : r.hi ≤ℤ p.hi) where
    over : (s x : ℤ) → (have_from ps s x && in_run r x) ≡ false
    over s x = never (have_from ps s x && in_run r x) λ h. (
        let i = le_of_test x r.hi (and_right (int_le r.lo x) _ (and_right (have_from ps s x) _ h)) in
        none_before piece_limit (p.hi +ℤ pos 1) p.last ps s x m.left_rises.3 (omega (arith, ints, i, last)) (and_left (have_from ps s x) _ h))

    right_before : (qs : List Run) → IsNormalFrom (r.hi +ℤ pos 2) qs → Precede new (p ∷ ps) qs
    right_before [] h = tt
    right_before (q ∷ qs) h =
        let lo = int_max p.lo q.lo in
        let a = h.0 in
        let b = m.right_normal.1 in
        let c = max_left p.lo q.lo in
        let d = max_right p.lo q.lo in
        let later : cut.lo ≤ℤ lo = of_max lo p.lo r.lo c (omega (arith, ints, a, b, d)) in
        let k = min_right p.hi r.hi in
        let ends : cut.hi ≤ℤ lo = omega (arith, ints, k, a, d) in
        before_append lo (start_of p lo) out (piece_if_any cut)
        (before_later cut.lo lo cut.first (start_of p lo) out later (start_rises p cut.lo lo later) m.before)
        (before_kept lo (start_of p lo) cut (omega (arith, ints, k, a, d)) (start_rises p cut.hi lo ends))

    pub drop_right : IsCutting all next new (p ∷ ps) rs
    drop_right = record {
      exact = λ s x. right_gone (have_from out s x) (have_from new s x) (has_from cut s x) (has_from p s x)
          (have_from ps s x) (in_run r x) (has rs x) _ (m.exact s x) (new_has s x) (cut_has r p s x) (over s x);
      left_rises = m.left_rises;
      right_normal = normal_rest r rs m.right_normal;
      right_cumuls = rest_cumuls r rs m.right_cumuls;
      rises = new_rises;
      before = right_before rs m.right_normal.3;
    }

-- at first all are left
pub cutting_begins : (all : List Piece) (next : List Run) → IsRisingFrom piece_limit (neg_ℤ piece_limit) (pos 0) all
    → IsNormal next → IsCumuls next → IsCutting all next [] all next
cutting_begins all next rises normal cumuls =
    record { exact = λ s x. refl; left_rises = rises; right_normal = normal; right_cumuls = cumuls; rises = tt; before = none all next }
  where
    none : (ps : List Piece) (rs : List Run) → Precede [] ps rs
    none [] rs = tt
    none (p ∷ ps) [] = tt
    none (p ∷ ps) (r ∷ rs) = tt

-- where nothing is left, all is there
pub cutting_ends : (all : List Piece) (next : List Run) (out left : List Piece) (right : List Run)
    → IsCutting all next out left right → (left ≡ []) ⊎ (right ≡ []) → (s x : ℤ) → have_from out s x ≡ (have_from all s x && has next x)
cutting_ends all next out left right m (inl none) s x =
    let e = subst (λ ps. (have_from out s x || (have_from ps s x && has right x)) ≡ (have_from all s x && has next x)) none (m.exact s x) in grind (arith, e)
cutting_ends all next out left right m (inr none) s x =
    let e = subst (λ rs. (have_from out s x || (have_from left s x && has rs x)) ≡ (have_from all s x && has next x)) none (m.exact s x) in grind (arith, e)
