-- Readings of numbers and arrays that are written out: a reader gives what was written.
use Rattle.std.proofs.Common.{◌≡◌, ◌∙◌, ℕ, zero, suc, ◌+◌, ◌<◌, ◌≤◌, Bool, true, false, List, [], ◌∷◌, ◌++◌, map, length, get_or, Some, None, Result, Ok, Err}
use Rattle.std.proofs.Common.{refl, sym, ap, subst, arith, append_assoc, append-nil}
use Rattle.std.specs.Prelude.{ℤ, pos, ◌-ℤ◌, ◌^◌, nat_lt, ◌≤ℤ◌, if◌then◌else◌}
use Rattle.std.specs.List.{All, range_with_len}
use Rattle.std.specs.Option.{ok_or}
use Rattle.std.proofs.lemmas.Bool.{lt-ltb, le-leb, and_from}
use Rattle.std.proofs.lemmas.Int.{ints}
use Rattle.std.proofs.lemmas.List.{length-map}
use Rattle.std.proofs.lemmas.List.FromFn.{length-range_with_len, get_or-range_with_len}
use Rattle.std.proofs.lemmas.List.Elements.{All-head, All-tail}
use Rattle.serde_json.specs.Data.{Data, array}
use Rattle.serde_json.specs.View.{items_of}
use Rattle.vr_json.specs.declared.fault.Cause.{Cause}
use Rattle.vr_json.specs.declared.fault.Cause.TheVariants.{NotWhole, OutOfRange, WrongLength}
use Rattle.vr_json.specs.Causes.{fault_at}
use Rattle.vr_json.specs.Reading.{ReaderOf, and_then, at_path, list_of, has_between, list, entries, array as array_of, refuse_if}
use Rattle.vr_json.specs.Kinds.{whole_in, whole, below as below_n}
use Rattle.vr_model.specs.tables.Numbers.{below}
use Rattle.vr_model.specs.deciding.Testing.{test_of_within}
use Rattle.vr_model.proofs.tables.Ranges.{map-below_more}
use Rattle.vr_json.specs.Trees.{count, listed}

-- a step gives x, and the rest gives y of it
pub step : {A B E : Type 0} {r : Result A E} {x : A} {y : B} (f : A → Result B E) → r ≡ Ok x → f x ≡ Ok y → and_then r f ≡ Ok y
unfolding and_then
step f h k = ap (λ r. and_then r f) h ∙ k

-- ---- numbers

module _ (n : ℕ) (few : n < 2 ^ 63) where
  whole_is : (lo hi : ℤ) → lo ≤ℤ pos n → pos n ≤ℤ hi → whole_in lo hi (count n) ≡ Ok (pos n)
  unfolding and_then
  whole_is lo hi low high =
      let small : nat_lt n (2 ^ 63) ≡ true = lt-ltb n (2 ^ 63) few in
      step _ (ap (λ b. ok_or (if b then Some (pos n) else None) NotWhole) small)
      (ap (λ b. if b then Ok (pos n) else Err OutOfRange) (test_of_within lo hi (pos n) low high))

  -- a number in its range
  pub whole_reads : (lo hi : ℤ) (path : List ℕ) → lo ≤ℤ pos n → pos n ≤ℤ hi → whole lo hi path (count n) ≡ Ok (pos n)
  unfolding whole at_path
  whole_reads lo hi path low high = ap (at_path path) (whole_is lo hi low high)

  -- the number of one of some things
  pub below_reads : (m : ℕ) (path : List ℕ) → n < m → below_n m path (count n) ≡ Ok n
  unfolding below_n at_path and_then
  below_reads m path low = ap (at_path path) (step _ (whole_is (pos 0) (pos m -ℤ pos 1) (omega (arith, ints)) (omega (arith, ints, low))) refl)

-- ---- arrays

list_back : (ds : List Data) → list_of (items_of ds) ≡ ds
list_back [] = refl
list_back (d ∷ ds) = ap (λ es. d ∷ es) (list_back ds)

list_reads : (lo hi : ℕ) (path : List ℕ) (ds : List Data) → lo ≤ length ds → length ds ≤ hi → list lo hi path (array (items_of ds)) ≡ Ok ds
unfolding list at_path and_then
list_reads lo hi path ds low high =
    ap (λ es. if has_between lo hi es then Ok es else Err (fault_at WrongLength path)) (list_back ds)
    ∙ ap (λ b. if b then Ok ds else Err (fault_at WrongLength path)) (and_from _ _ (le-leb lo (length ds) low) (le-leb (length ds) hi high))

-- an array whose entries are read one after another
array_by : {A : Type 0} (read : List A → ReaderOf A) {xs : List A} (lo hi : ℕ) (path : List ℕ) (ds : List Data)
    → lo ≤ length ds → length ds ≤ hi → entries read [] path ds ≡ Ok xs
    → array_of lo hi read path (array (items_of ds)) ≡ Ok xs
unfolding array_of
array_by read lo hi path ds low high h = step (entries read [] path) (list_reads lo hi path ds low high) h

module _ {A B : Type 0} (read : List B → ReaderOf B) (f : A → Data) (g : A → B) where
  -- reading f x gives g x, whatever stands before it
  abbrev pub ReadsAs : A → Type 0
  ReadsAs x = (earlier : List B) (path : List ℕ) → read earlier path (f x) ≡ Ok (g x)

  entries_each : (path : List ℕ) (xs : List A) → All ReadsAs xs → (earlier : List B) → entries read earlier path (map f xs) ≡ Ok (earlier ++ map g xs)
  unfolding entries
  entries_each path [] h earlier = ap Ok (sym (append-nil earlier))
  entries_each path (x ∷ xs) h earlier =
      step (λ y. entries read (earlier ++ y ∷ []) path (map f xs)) (All-head ReadsAs x xs h earlier _)
      (entries_each path xs (All-tail ReadsAs x xs h) (earlier ++ g x ∷ []) ∙ ap Ok (append_assoc earlier (g x ∷ []) (map g xs)))

  -- an array of such entries
  pub array_each : (lo hi : ℕ) (path : List ℕ) (xs : List A) → lo ≤ length xs
      → length xs ≤ hi → All ReadsAs xs → array_of lo hi read path (listed f xs) ≡ Ok (map g xs)
  array_each lo hi path xs low high h =
      let count = length-map xs f in
      array_by read lo hi path (map f xs) (omega (arith, low, count)) (omega (arith, high, count)) (entries_each path xs h [])

module _ {B : Type 0} (read : List B → ReaderOf B) (f : ℕ → Data) (g : ℕ → B) (n : ℕ)
    (h : (k : ℕ) (path : List ℕ) → k < n → read (map g (below k)) path (f k) ≡ Ok (g k)) where
  entries_below : (path : List ℕ) (m k : ℕ) → k + m ≤ n → entries read (map g (below k)) path (map f (range_with_len k m)) ≡ Ok (map g (below (k + m)))
  unfolding entries
  entries_below path zero k high = ap (λ i. Ok (map g (below i))) (omega arith)
  entries_below path (suc m) k high =
      let rest : List ℕ = range_with_len (k + 1) m in
      step (λ y. entries read (map g (below k) ++ y ∷ []) path (map f rest)) (h k _ (omega (arith, high)))
      (ap (λ earlier. entries read earlier path (map f rest)) (sym (map-below_more g k))
      ∙ entries_below path m (k + 1) (omega (arith, high)) ∙ ap (λ i. Ok (map g (below i))) (omega arith))

  -- an array of entries by number, each read behind those of lesser numbers
  pub array_below : (lo hi : ℕ) (path : List ℕ) → lo ≤ n → n ≤ hi → array_of lo hi read path (listed f (below n)) ≡ Ok (map g (below n))
  array_below lo hi path low high =
      let count : length (map f (below n)) ≡ n = length-map (below n) f ∙ length-range_with_len 0 n in
      array_by read lo hi path (map f (below n)) (omega (arith, low, count)) (omega (arith, high, count))
      (entries_below path n 0 (omega arith) ∙ ap (λ i. Ok (map g (below i))) (omega arith))

-- ---- numbers below a bound

pub All-below : (P : ℕ → Type 0) (n : ℕ) → ((i : ℕ) → i < n → P i) → All P (below n)
All-below P n h i d low =
    let here : i < n = omega (arith, low, length-range_with_len 0 n) in
    let there : get_or (below n) i d ≡ i = get_or-range_with_len 0 n i d here ∙ omega arith in
    subst P (sym there) (h i here)

-- ---- rules

pub refuse_none : (cause : Cause) (path : List ℕ) {broken : Bool} → broken ≡ false → refuse_if broken cause path ≡ Ok tt
unfolding refuse_if
refuse_none cause path is = ap (λ b. if b then Err (fault_at cause path) else Ok tt) is
