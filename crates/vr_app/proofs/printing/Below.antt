-- Lists by the numbers of their places.
use Rattle.std.proofs.Common.{◌≡◌, ◌∙◌, ℕ, ◌<◌, List, map, length, sym, arith}
use Rattle.std.specs.Prelude.{slice_index_or}
use Rattle.std.proofs.lemmas.List.{ext_get_or}
use Rattle.std.proofs.lemmas.List.FromFn.{length-map-range_with_len, get_or-map-range_with_len}
use Rattle.vr_model.specs.tables.Numbers.{below}

-- an entry of a list that is given by number
pub entry_below : {A : Type 0} (f : ℕ → A) (n k : ℕ) (d : A) → k < n → slice_index_or (map f (below n)) k d ≡ f k
entry_below f n k d low = get_or-map-range_with_len f 0 n k k d low (omega arith)

pub length_below : {A : Type 0} (f : ℕ → A) (n : ℕ) → length (map f (below n)) ≡ n
length_below f n = length-map-range_with_len f 0 n

-- a list is what is given of each of its places
pub is_below : {A : Type 0} (d : A) (f : ℕ → A) (n : ℕ) (xs : List A) → length xs ≡ n → ((k : ℕ) → k < n → f k ≡ slice_index_or xs k d) → map f (below n) ≡ xs
is_below d f n xs all same = ext_get_or d (map f (below n)) xs (length_below f n ∙ sym all)
    (λ k low. let here : k < n = omega (arith, low, length_below f n) in entry_below f n k d here ∙ same k here)
