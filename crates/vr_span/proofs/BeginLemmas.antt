-- The pieces of a start.
use Rattle.std.proofs.Common.{◌≡◌, ◌∙◌, ℕ, zero, suc, true, false, List, [], ◌∷◌, ◌++◌, map, take, ℤ, pos, ◌+ℤ◌, ◌≤ℤ◌, sym, ap, inl, inr, arith}
use Rattle.std.specs.Prelude.{IsTrue, int_le, slice_get, Some, None}
use Rattle.std.proofs.lemmas.Int.{ints}
use Rattle.std.proofs.lemmas.Option.{get_or_from_slice_get, slice_get_past}
use Rattle.vr_model.specs.tables.Numbers.{horizon}
use Rattle.vr_model.specs.deciding.Testing.{and_left, and_right, and_both, or_cases, or_left, or_right, within_is, test_of_le, le_of_test}
use Rattle.vr_spans.specs.declared.runs.Run.{Run}
use Rattle.vr_spans.specs.Runs.{has, in_run, IsNormal, IsNormalFrom}
use Rattle.vr_steps.specs.Levels.{IsCumuls}
use Rattle.vr_span.specs.Pieces.{begin_of, has_from, have_from, Begin, IsRisingFrom, ArePieces}
use Rattle.vr_span.proofs.PieceLemmas.{of_has, to_has}

pub begin_has : (set : List Run) → Begin set (map begin_of set)
begin_has set s x = (to set, from set)
  where
    to : (rs : List Run) → IsTrue (have_from (map begin_of rs) s x) → IsTrue (has rs x) × (s ≤ℤ x)
    to [] h = absurd (let f : false ≡ true → ⊥ = λ e. cc in f h)
    to (r ∷ rs) h = elim (or_cases (has_from (begin_of r) s x) _ h) [
      | inl here ↦ (let i = of_has (begin_of r) s x here in
          let a = i.2 in
          (or_left (in_run r x) _ (and_both (int_le r.lo x) _ (test_of_le r.lo x i.0) (test_of_le x r.hi i.1)), omega (arith, ints, a)))
      | inr later ↦ (let rest = to rs later in (or_right (in_run r x) _ rest.0, rest.1))
    ]

    from : (rs : List Run) → IsTrue (has rs x) × (s ≤ℤ x) → IsTrue (have_from (map begin_of rs) s x)
    from [] h = h.0
    from (r ∷ rs) h = elim (or_cases (in_run r x) _ h.0) [
      | inl here ↦ (let low = le_of_test r.lo x (and_left (int_le r.lo x) _ here) in
          let high = le_of_test x r.hi (and_right (int_le r.lo x) _ here) in
          let le = h.1 in
          or_left (has_from (begin_of r) s x) _ (to_has (begin_of r) s x (low, high, omega (arith, ints, le), omega (arith, ints, le, high))))
      | inr later ↦ or_right (has_from (begin_of r) s x) _ (from rs (later, h.1))
    ]

rises : (b s : ℤ) (rs : List Run) → IsNormalFrom b rs → s ≤ℤ b → ((x : ℤ) → IsTrue (has rs x) → x ≤ℤ horizon) → IsRisingFrom horizon b s (map begin_of rs)
rises b s [] h le most = tt
rises b s (r ∷ rs) h le most =
    let low = h.0 in
    let order = h.1 in
    let last : IsTrue (has (r ∷ rs) r.hi) = or_left (in_run r r.hi) _
    (and_both (int_le r.lo r.hi) _ (test_of_le r.lo r.hi order) (test_of_le r.hi r.hi (omega (arith, ints)))) in
    let high = most r.hi last in (
      low,
      omega (arith, ints, le, low),
      record { in_order = order; greatest = high; rises = order; by_one = omega (arith, ints); latest = high },
      earlier (rises (r.hi +ℤ pos 2) r.hi rs h.3 (omega (arith, ints)) (λ x is. most x (or_right (in_run r x) _ is))),
    )
  where
    earlier : IsRisingFrom horizon (r.hi +ℤ pos 2) r.hi (map begin_of rs) → IsRisingFrom horizon (r.hi +ℤ pos 1) r.hi (map begin_of rs)
    earlier k = go rs k
      where
        go : (qs : List Run) → IsRisingFrom horizon (r.hi +ℤ pos 2) r.hi (map begin_of qs) → IsRisingFrom horizon (r.hi +ℤ pos 1) r.hi (map begin_of qs)
        go [] k = tt
        go (q ∷ qs) k = let a = k.0 in (omega (arith, ints, a), k.1, k.2, k.3)

pub begin_rises : (set : List Run) → IsNormal set → IsCumuls set → ArePieces (map begin_of set)
begin_rises set normal cumuls = go set normal cumuls
  where
    go : (rs : List Run) → IsNormal rs → IsCumuls rs → IsRisingFrom horizon (pos 0) (pos 0) (map begin_of rs)
    go [] h c = tt
    go (r ∷ rs) h c =
        let order = h.1 in
        let first : IsTrue (has (r ∷ rs) r.lo) = or_left (in_run r r.lo) _
        (and_both (int_le r.lo r.lo) _ (test_of_le r.lo r.lo (omega (arith, ints))) (test_of_le r.lo r.hi order)) in
        let low = (within_is (pos 0) horizon r.lo (c r.lo first)).0 in
        rises (pos 0) (pos 0) (r ∷ rs) (low, h.1, h.2, h.3) (omega (arith, ints)) (λ x is. (within_is (pos 0) horizon x (c x is)).1)

-- one run more
pub begin_more : (set : List Run) (k : ℕ) (run : Run) → slice_get set k ≡ Some run
    → map begin_of (take k set) ++ begin_of run ∷ [] ≡ map begin_of (take (suc k) set)
begin_more [] k run is = let e : None ≡ Some run = sym (slice_get_past [] k (omega arith)) ∙ is in let f : None ≡ Some run → ⊥ = λ e. cc in absurd (f e)
begin_more (r ∷ rs) zero run is = ap (λ q. begin_of q ∷ []) (sym (get_or_from_slice_get (r ∷ rs) 0 run r is))
begin_more (r ∷ rs) (suc k) run is = ap (λ ps. begin_of r ∷ ps) (begin_more rs k run is)
