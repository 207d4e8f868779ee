-- Where no stop has a soft bound, nothing is paid for soft bounds.
use Rattle.std.proofs.Common.{◌≡◌, ◌∙◌, ◌<◌, ℕ, zero, suc, List, [], ◌∷◌, ◌++◌, Bool, true, false, cond, not, length, map, get_or, refl, ap, ap₂, sym, arith}
use Rattle.std.proofs.Common.{Option, Some, None}
use Rattle.std.specs.Prelude.{ℤ, pos, ◌&&◌, ◌||◌, ◌==◌, is_some, slice_index}
use Rattle.std.specs.List.{list_all, list_any, zip}
use Rattle.std.specs.Ordering.{int_eq}
use Rattle.std.proofs.lemmas.Bool.Decides.{Decides-int_eq}
use Rattle.std.proofs.lemmas.Int.{ints}
use Rattle.vr_model.specs.declared.records.Dimension.{Dimension}
use Rattle.vr_model.specs.declared.records.StopRow.{StopRow}
use Rattle.vr_model.specs.declared.records.Soft.{Soft}
use Rattle.vr_model.specs.tables.Numbers.{number_at, total_by}
use Rattle.vr_model.specs.tables.Tables.{row_of}
use Rattle.vr_model.specs.routes.Costs.{row_cost, soft_cost}
use Rattle.vr_model.specs.schedules.Lines.{stop_rows}
use Rattle.vr_model.specs.deciding.Testing.{and_left, and_right}
use Rattle.vr_model.proofs.tables.Tests.{all-from_list_all, fails_not, or-false_left, or-false_right}
use Rattle.vr_plan.specs.Paying.{are_hard, are_zero, has_soft, is_free, is_hard, may_pay_alone, visits_soft, CostsNoSoft, PaysNothing}

no_cost : (row : Option StopRow) (x : ℤ) → has_soft row ≡ false → row_cost row x ≡ pos 0
no_cost None x h = refl
no_cost (Some row) x h = by row.soft refl h
  where
    by : (soft : Option Soft) → row.soft ≡ soft → is_some soft ≡ false → soft_cost row.soft x ≡ pos 0
    by None e h = ap (λ o. soft_cost o x) e
    by (Some soft) e h = absurd (cc)

no_costs : (rows : List (Option StopRow)) (xs : List ℤ) → list_all (λ row. not (has_soft row)) rows ≡ true
    → total_by (λ stop. row_cost stop.0 stop.1) (zip rows xs) ≡ pos 0
no_costs [] xs h = refl
no_costs (row ∷ rows) [] h = refl
no_costs (row ∷ rows) (x ∷ xs) h =
    let a = no_cost row x (fails_not (has_soft row) (and_left (not (has_soft row)) _ h)) in
    let b = no_costs rows xs (and_right (not (has_soft row)) _ h) in
    omega (arith, ints, a, b)

-- the rows of the visits
visits_free : (g : ℕ → Option StopRow) (last : Option StopRow) (list : List ℕ)
    → ((k : ℕ) → k < length list → has_soft (g (slice_index list k)) ≡ false) → has_soft last ≡ false
    → list_all (λ row. not (has_soft row)) (map g list ++ last ∷ []) ≡ true
visits_free g last [] each h = ap (λ b. not b && true) h
visits_free g last (x ∷ xs) each h = ap₂ (λ a b. not a && b) (each 0 (omega arith)) (visits_free g last xs (λ k low. each (suc k) (omega (arith, low))) h)

pub pays_nothing : (dimension : Dimension) (v : ℕ) (list : List ℕ) → number_at dimension.span_costs v ≡ pos 0
    → has_soft (row_of dimension.starts v) ≡ false → has_soft (row_of dimension.ends v) ≡ false
    → ((k : ℕ) → k < length list → has_soft (row_of dimension.nodes (slice_index list k)) ≡ false) → PaysNothing dimension v list
pays_nothing dimension v list span start last each = record {
  span = span;
  soft = λ cumuls. no_costs (stop_rows dimension v list) cumuls
      (ap₂ (λ a b. not a && b) start (visits_free (row_of dimension.nodes) (row_of dimension.ends v) list each last));
}

found_free : (b : Bool) (row : StopRow) (rest : Option StopRow) → is_some row.soft ≡ false → has_soft rest ≡ false → has_soft (cond b (Some row) rest) ≡ false
found_free true row rest here e = here
found_free false row rest here e = e

-- where no row has a soft bound, none that is found has
pub row_free : (rows : List StopRow) → ((k : ℕ) (d : StopRow) → k < length rows → is_some (get_or rows k d).soft ≡ false)
    → (key : ℕ) → has_soft (row_of rows key) ≡ false
row_free [] free key = refl
row_free (row ∷ rows) free key =
    found_free (row.key == key) row (row_of rows key) (free 0 row (omega arith)) (row_free rows (λ k d low. free (suc k) d (omega (arith, low))) key)

-- a number that is not there is read as 0
pub none_read : (xs : List ℤ) → ((k : ℕ) → k < length xs → number_at xs k ≡ pos 0) → (k : ℕ) → number_at xs k ≡ pos 0
none_read [] zeros k = refl
none_read (x ∷ xs) zeros zero = zeros 0 (omega arith)
none_read (x ∷ xs) zeros (suc k) = none_read xs (λ j low. zeros (suc j) (omega (arith, low))) k

-- ---- the tests of what may be to pay

none_at : (p : ℕ → Bool) (xs : List ℕ) → list_any p xs ≡ false → (k : ℕ) → k < length xs → p (slice_index xs k) ≡ false
none_at p [] none k low = absurd (omega (arith, low))
none_at p (x ∷ xs) none zero low = or-false_left (p x) (list_any p xs) none
none_at p (x ∷ xs) none (suc k) low = none_at p xs (or-false_right (p x) (list_any p xs) none) k (omega (arith, low))

none_of : {A : Type 0} (p : A → Bool) → ((x : A) → p x ≡ false) → (xs : List A) → list_any p xs ≡ false
none_of p none [] = refl
none_of p none (x ∷ xs) = ap (λ b. b || list_any p xs) (none x) ∙ none_of p none xs

-- a number that is tested to be 0 is
pub zero_where : (x : ℤ) → not (int_eq x (pos 0)) ≡ false → x ≡ pos 0
zero_where x h = (Decides-int_eq x (pos 0)).0 (by (int_eq x (pos 0)) h)
  where
    by : (b : Bool) → not b ≡ false → b ≡ true
    by true h = refl
    by false h = sym h

-- a list that may pay nothing by itself does so
pub pays_nothing_where : (dimension : Dimension) (v : ℕ) (list : List ℕ) → may_pay_alone dimension v list ≡ false → PaysNothing dimension v list
pays_nothing_where dimension v list none =
    let cost = not (int_eq (number_at dimension.span_costs v) (pos 0)) in
    let start = has_soft (row_of dimension.starts v) in
    let last = has_soft (row_of dimension.ends v) in
    let visits = visits_soft dimension list in
    let ends = or-false_left (cost || start || last) visits none in
    let front = or-false_left (cost || start) last ends in
    pays_nothing dimension v list (zero_where (number_at dimension.span_costs v) (or-false_left cost start front))
    (or-false_right cost start front) (or-false_right (cost || start) last ends)
    (none_at (λ node. has_soft (row_of dimension.nodes node)) list (or-false_right (cost || start || last) visits none))

-- no row has a soft bound
free_at : (rows : List StopRow) → are_hard rows ≡ true → (k : ℕ) (d : StopRow) → k < length rows → is_some (get_or rows k d).soft ≡ false
free_at rows all k d low = fails_not (is_some (get_or rows k d).soft) (all-from_list_all (λ (row : StopRow). not (is_some row.soft)) rows all k d low)

-- of a dimension without soft bounds no row that is found has one
pub record AreHard (dimension : Dimension) : Type 0 where
  pub starts : (key : ℕ) → has_soft (row_of dimension.starts key) ≡ false
  pub nodes : (key : ℕ) → has_soft (row_of dimension.nodes key) ≡ false
  pub ends : (key : ℕ) → has_soft (row_of dimension.ends key) ≡ false

rows_hard : (dimension : Dimension) → is_hard dimension ≡ true → AreHard dimension
rows_hard dimension hard =
    let starts = are_hard dimension.starts in
    let nodes = are_hard dimension.nodes in
    let last = are_hard dimension.ends in
    let front = and_left (starts && nodes) last hard in
    record {
      starts = row_free dimension.starts (free_at dimension.starts (and_left starts nodes front));
      nodes = row_free dimension.nodes (free_at dimension.nodes (and_right starts nodes front));
      ends = row_free dimension.ends (free_at dimension.ends (and_right (starts && nodes) last hard));
    }

-- so soft upper bounds cost no list anything
pub hard_costs : (dimension : Dimension) → is_hard dimension ≡ true → CostsNoSoft dimension
hard_costs dimension hard v list cumuls =
    let rows = rows_hard dimension hard in
    (pays_nothing (record dimension { span_costs = [] }) v list refl (rows.starts v) (rows.ends v) (λ k _. rows.nodes (slice_index list k))).soft cumuls

-- where nothing is to pay in a dimension, no list may pay anything by itself
pub free_pays : (dimension : Dimension) → is_free dimension ≡ true → (v : ℕ) (list : List ℕ) → may_pay_alone dimension v list ≡ false
free_pays dimension free v list =
    let zeros = are_zero dimension.span_costs in
    let rows = rows_hard dimension (and_right zeros (is_hard dimension) free) in
    let span = (Decides-int_eq (number_at dimension.span_costs v) (pos 0)).1
    (none_read dimension.span_costs (zero_at dimension.span_costs (and_left zeros (is_hard dimension) free)) v) in
    let visits = none_of (λ node. has_soft (row_of dimension.nodes node)) rows.nodes list in
    ap₂ (λ a b. a || b) (ap₂ (λ a b. a || b) (ap₂ (λ a b. not a || b) span (rows.starts v)) (rows.ends v)) visits
  where
    zero_at : (xs : List ℤ) → are_zero xs ≡ true → (k : ℕ) → k < length xs → number_at xs k ≡ pos 0
    zero_at xs all k low = (Decides-int_eq (number_at xs k) (pos 0)).0 (all-from_list_all (λ x. int_eq x (pos 0)) xs all k (pos 0) low)
