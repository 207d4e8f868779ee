-- Floors of stops: no number that a stop allows lies below.
use Rattle.std.proofs.Common.{◌≡◌, ◌∙◌, ℕ, ◌+◌, ◌<◌, ◌⊎◌, inl, inr, Bool, true, false, cond, not, List, [], ◌∷◌, ◌++◌, length, length-append, Option, Some}
use Rattle.std.proofs.Common.{None, refl, ap, sym, subst, arith}
use Rattle.std.specs.Prelude.{ℤ, pos, ◌+ℤ◌, ◌≤ℤ◌, fold, IsTrue, int_le, slice_index_or}
use Rattle.std.specs.Int.{int_min}
use Rattle.std.specs.List.{list_all}
use Rattle.std.proofs.lemmas.Int.{ints, int_min_is}
use Rattle.std.proofs.lemmas.List.{get_or_default}
use Rattle.vr_model.specs.tables.Numbers.{horizon, number_at, within}
use Rattle.vr_model.specs.tables.Tables.{no_vehicle, row_of}
use Rattle.vr_model.specs.tables.WellFormed.{IsIn, IsInterval}
use Rattle.vr_model.specs.schedules.Lines.{in_window, row_allows, stop_allows}
use Rattle.vr_model.specs.deciding.Testing.{and_left, and_right, within_is, test_of_within}
use Rattle.vr_model.specs.declared.records.Interval.{Interval}
use Rattle.vr_model.specs.declared.records.Dimension.{Dimension}
use Rattle.vr_model.specs.declared.records.StopRow.{StopRow}
use Rattle.vr_model.specs.declared.records.Vehicle.{Vehicle}
use Rattle.vr_model.proofs.tables.Tests.{clash, fails_not}
use Rattle.vr_parts.proofs.RowLemmas.{rows-push}
use Rattle.vr_earliest.specs.Floors.{behind_interval, opening, floor_of, starts_freely, AreFree, HaveFloors}

-- ---- what is allowed

int_cases : (x y : ℤ) → (x ≤ℤ y) ⊎ ((y +ℤ pos 1) ≤ℤ x)
int_cases x y = go (int_le x y) refl
  where
    go : (b : Bool) → int_le x y ≡ b → (x ≤ℤ y) ⊎ ((y +ℤ pos 1) ≤ℤ x)
    go true e = inl (omega (arith, ints, e))
    go false e = inr (omega (arith, ints, e))

-- a number at or above y that an interval leaves free is at or above what is behind y
behind-below : (interval : Interval) (y x : ℤ) → y ≤ℤ x → IsTrue (not (within interval.lo interval.hi x)) → behind_interval y interval ≤ℤ x
behind-below interval y x le free = go (within interval.lo interval.hi y) refl
  where
    past : interval.lo ≤ℤ y → (interval.hi +ℤ pos 1) ≤ℤ x
    past low = elim (int_cases x interval.hi) [
      | inl high ↦
          absurd (clash (within interval.lo interval.hi x) (test_of_within interval.lo interval.hi x (omega (arith, ints, low, le)) high) (fails_not _ free))
      | inr over ↦ over
    ]

    go : (b : Bool) → within interval.lo interval.hi y ≡ b → cond b (interval.hi +ℤ pos 1) y ≤ℤ x
    go true e = past (within_is interval.lo interval.hi y e).0
    go false e = le

all-behind-below : (intervals : List Interval) (y x : ℤ) → y ≤ℤ x
    → IsTrue (list_all (λ interval. not (within interval.lo interval.hi x)) intervals) → fold behind_interval y intervals ≤ℤ x
all-behind-below [] y x le free = le
all-behind-below (i ∷ is) y x le free =
    all-behind-below is (behind_interval y i) x (behind-below i y x le (and_left (not (within i.lo i.hi x)) _ free))
    (and_right (not (within i.lo i.hi x)) _ free)

pub least-below : (a b x : ℤ) → b ≤ℤ x → int_min a b ≤ℤ x
least-below a b x le = let m = int_min_is a b in omega (arith, ints, m, le)

-- no number that a row allows lies below its floor
pub floor-below : (capacity : ℤ) (row : Option StopRow) (x : ℤ) → IsTrue (stop_allows capacity row x) → floor_of row ≤ℤ x
floor-below capacity None x allowed = (within_is (pos 0) capacity x (and_left (within (pos 0) capacity x) _ allowed)).0
floor-below capacity (Some row) x allowed =
    least-below horizon (fold behind_interval (opening row.window) row.forbidden) x
    (all-behind-below row.forbidden (opening row.window) x
    (opened row.window (and_left (in_window row.window x) _ rest)) (and_right (in_window row.window x) _ rest))
  where
    rest : IsTrue (row_allows (Some row) x)
    rest = and_right (within (pos 0) capacity x) _ allowed

    opened : (window : Option Interval) → IsTrue (in_window window x) → opening window ≤ℤ x
    opened None passes = (within_is (pos 0) capacity x (and_left (within (pos 0) capacity x) _ allowed)).0
    opened (Some w) passes = (within_is w.lo w.hi x passes).0

-- ---- tables

pub floors-more : (rows : List StopRow) (n : ℕ) (floors more : List ℤ) (x : ℤ) → HaveFloors rows n floors
    → x ≡ floor_of (row_of rows n) → IsIn (pos 0) horizon x → more ≡ floors ++ x ∷ []
    → HaveFloors rows (n + 1) more
floors-more rows n floors more x h is range e = record {
  many = ap length e ∙ length-append floors (x ∷ []) ∙ ap (λ m. m + 1) h.many;
  each = rows-push (λ key y. y ≡ floor_of (row_of rows key)) (pos 0) floors more x n h.many h.each is e;
  range = rows-push (λ key y. IsIn (pos 0) horizon y) (pos 0) floors more x n h.many h.range range e;
}

pub free-more : (vehicles : List Vehicle) (dimension : Dimension) (n : ℕ) (free more : List Bool) (x : Bool)
    → AreFree vehicles dimension n free → x ≡ starts_freely (slice_index_or vehicles n no_vehicle) dimension n → more ≡ free ++ x ∷ []
    → AreFree vehicles dimension (n + 1) more
free-more vehicles dimension n free more x h is e = record {
  many = ap length e ∙ length-append free (x ∷ []) ∙ ap (λ m. m + 1) h.many;
  each = λ v other. rows-push (λ w y. y ≡ starts_freely (slice_index_or vehicles w no_vehicle) dimension w)
      other free more x n h.many (λ w. h.each w other) is e v;
}

-- ---- ranges

pub behind-range : (interval : Interval) (x : ℤ) → IsInterval interval
    → IsIn (pos 0) (pos 68719476737) x → IsIn (pos 0) (pos 68719476737) (behind_interval x interval)
behind-range interval x is range = go (within interval.lo interval.hi x)
  where
    go : (b : Bool) → IsIn (pos 0) (pos 68719476737) (cond b (interval.hi +ℤ pos 1) x)
    go true = (record { at_least = omega (arith, ints, is.lo_in_range, is.in_order); at_most = omega (arith, ints, is.hi_in_range) })
    go false = range

-- a floor that is looked up
pub record IsFloor (rows : List StopRow) (key : ℕ) (x : ℤ) : Type 0 where
  pub is : x ≡ floor_of (row_of rows key)
  pub range : IsIn (pos 0) horizon x

pub floor-at : (rows : List StopRow) (n : ℕ) (floors : List ℤ) → HaveFloors rows n floors
    → (key : ℕ) → key < n → (x : ℤ) → x ≡ slice_index_or floors key x → IsFloor rows key x
floor-at rows n floors h key low x e =
    let same : x ≡ number_at floors key = e ∙ get_or_default floors key x (pos 0) (omega (arith, low, h.many)) in
    record { is = same ∙ h.each key low; range = subst (IsIn (pos 0) horizon) (sym same) (h.range key low) }

-- floors are in their range
pub floor-range : (rows : List StopRow) (n : ℕ) (floors : List ℤ) → HaveFloors rows n floors
    → (key : ℕ) → key < n → IsIn (pos 0) horizon (floor_of (row_of rows key))
floor-range rows n floors h key low = subst (IsIn (pos 0) horizon) (h.each key low) (h.range key low)
