-- The first word of a text, and what stands behind it.
use Rattle.std.proofs.Common.{◌≡◌, ◌∙◌, ◌⊎◌, inl, inr, ◌==◌, ℕ, zero, suc, ◌+◌, ◌-◌, ◌<◌, ◌≤◌, Bool, true, false, cond, not, ◌||◌, List, [], ◌∷◌, length, take}
use Rattle.std.proofs.Common.{drop, filter, position, unwrap_or, Some, None, refl, sym, ap, subst, arith}
use Rattle.std.specs.Prelude.{nat_lt}
use Rattle.std.specs.List.{slice_split, onto_first, position_or_len, list_any}
use Rattle.std.proofs.lemmas.List.{take_all, length-drop}
use Rattle.std.proofs.lemmas.Bool.{cases_lt, lt-ltb, le-ltb, ne_eqb}
use Rattle.vr_tsplib.specs.Texts.{BeginsWord, is_blank, is_empty, words}

abbrev is_word : List ℕ → Bool
is_word word = not (is_empty word)

-- a blank at the front
pub skipped : (b : ℕ) (text : List ℕ) → is_blank b ≡ true → words (b ∷ text) ≡ words text
unfolding words
skipped b text e = ap (λ t. filter is_word (cond t ([] ∷ slice_split is_blank text) (onto_first b (slice_split is_blank text)))) e

pub no_words : words [] ≡ []
unfolding words
no_words = refl

-- these parts are the first k bytes of a text and, where they have bytes, the words behind those
record IsCut (parts : List (List ℕ)) (k : ℕ) (text : List ℕ) : Type 0 where
  tail : List (List ℕ)
  is_cut : parts ≡ take k text ∷ tail
  behind : filter is_word tail ≡ words (drop k text)

cut_more : (b : ℕ) (text : List ℕ) → IsCut (slice_split is_blank text) (position_or_len is_blank text) text → (t : Bool) → is_blank b ≡ t
    → IsCut (cond t ([] ∷ slice_split is_blank text) (onto_first b (slice_split is_blank text))) (cond (not t) (1 + position_or_len is_blank text) 0) (b ∷ text)
unfolding words
cut_more b text h true e = record { tail = slice_split is_blank text; is_cut = refl; behind = sym (skipped b text e) }
cut_more b text h false e =
    let more : suc (position_or_len is_blank text) ≡ 1 + position_or_len is_blank text = omega arith in
    record {
      tail = h.tail;
      is_cut = ap (onto_first b) h.is_cut ∙ ap (λ n. take n (b ∷ text) ∷ h.tail) more;
      behind = h.behind ∙ ap (λ n. words (drop n (b ∷ text))) more;
    }

cut : (text : List ℕ) → IsCut (slice_split is_blank text) (position_or_len is_blank text) text
unfolding words
cut [] = record { tail = []; is_cut = refl; behind = refl }
cut (b ∷ text) = cut_more b text (cut text) (is_blank b) refl

-- a word at the front has bytes
pub word_begins : (b : ℕ) (text : List ℕ) → is_blank b ≡ false → position_or_len is_blank (b ∷ text) ≡ suc (position_or_len is_blank text)
word_begins b text e =
    let more : 1 + position_or_len is_blank text ≡ suc (position_or_len is_blank text) = omega arith in
    ap (λ t. cond (not t) (1 + position_or_len is_blank text) 0) e ∙ more

has_bytes : (b : ℕ) (word : List ℕ) → is_word (b ∷ word) ≡ true
has_bytes b word = ap not (ne_eqb (suc (length word)) 0 (λ e. absurd (omega (arith, e))))

-- the first word of a text that begins with one
pub first_found : (text : List ℕ) → BeginsWord text → 0 < length text
    → words text ≡ take (position_or_len is_blank text) text ∷ words (drop (position_or_len is_blank text) text)
unfolding words
first_found [] h some = absurd (omega (arith, some))
first_found (b ∷ text) h some =
    let c = cut (b ∷ text) in
    let k : ℕ = position_or_len is_blank (b ∷ text) in
    let is : is_word (take k (b ∷ text)) ≡ true = ap (λ n. is_word (take n (b ∷ text))) (word_begins b text h)
    ∙ has_bytes b (take (position_or_len is_blank text) text) in
    ap (filter is_word) c.is_cut ∙ ap (λ t. cond t (take k (b ∷ text) ∷ filter is_word c.tail) (filter is_word c.tail)) is
    ∙ ap (λ ws. take k (b ∷ text) ∷ ws) c.behind

-- what is left behind it is shorter
pub left_shorter : (text : List ℕ) → BeginsWord text → 0 < length text → 0 < position_or_len is_blank text
left_shorter [] h some = absurd (omega (arith, some))
left_shorter (b ∷ text) h some = let e = word_begins b text h in omega (arith, e)

-- ---- colons

next_test : (k n : ℕ) → nat_lt k n ≡ nat_lt (1 + k) (suc n)
next_test k n = by (cases_lt k n)
  where
    by : (k < n) ⊎ (n ≤ k) → nat_lt k n ≡ nat_lt (1 + k) (suc n)
    by (inl low) = lt-ltb k n low ∙ sym (lt-ltb (1 + k) (suc n) (omega (arith, low)))
    by (inr high) = le-ltb k n high ∙ sym (le-ltb (1 + k) (suc n) (omega (arith, high)))

found_more : (t : Bool) (x : Bool) (k n : ℕ) → x ≡ nat_lt k n → (t || x) ≡ nat_lt (cond (not t) (1 + k) 0) (suc n)
found_more true x k n e = sym (lt-ltb 0 (suc n) (omega arith))
found_more false x k n e = e ∙ next_test k n

-- a test passes at some place exactly where the first such place lies in the list
pub any_found : (p : ℕ → Bool) (xs : List ℕ) → list_any p xs ≡ nat_lt (position_or_len p xs) (length xs)
any_found p [] = refl
any_found p (x ∷ xs) = found_more (p x) (list_any p xs) (position_or_len p xs) (length xs) (any_found p xs)

one_further : (t : Bool) (k n : ℕ) → k ≤ n → cond (not t) (1 + k) 0 ≤ suc n
one_further true k n h = omega arith
one_further false k n h = omega (arith, h)

pub place_low : (p : ℕ → Bool) (xs : List ℕ) → position_or_len p xs ≤ length xs
place_low p [] = omega arith
place_low p (x ∷ xs) = one_further (p x) (position_or_len p xs) (length xs) (place_low p xs)

-- the place of a byte that is found
pub place_is : (p : ℕ → Bool) (xs : List ℕ) → unwrap_or (position p xs) (length xs) ≡ position_or_len p xs
place_is p xs = by (cases_lt (position_or_len p xs) (length xs))
  where
    by : (position_or_len p xs < length xs) ⊎ (length xs ≤ position_or_len p xs) → unwrap_or (position p xs) (length xs) ≡ position_or_len p xs
    by (inl low) = ap (λ t. unwrap_or (cond t (Some (position_or_len p xs)) None) (length xs)) (lt-ltb (position_or_len p xs) (length xs) low)
    by (inr high) = ap (λ t. unwrap_or (cond t (Some (position_or_len p xs)) None) (length xs)) (le-ltb (position_or_len p xs) (length xs) high)
        ∙ omega (arith, high, place_low p xs)

-- what is left behind the first k bytes
pub take_rest : (k : ℕ) (text : List ℕ) → take (length text - k) (drop k text) ≡ drop k text
take_rest k text = take_all (length text - k) (drop k text) (omega (arith, length-drop k text))

pub no_bytes : (text : List ℕ) → length text ≡ 0 → words text ≡ []
no_bytes [] e = no_words
no_bytes (b ∷ text) e = absurd (omega (arith, e))

pub some_bytes : (n : ℕ) → (n == 0) ≡ false → 0 < n
some_bytes zero e = absurd cc
some_bytes (suc n) e = omega arith
