-- The kinds of values that are no object and no array.
use Rattle.std.specs.Prelude.{ℕ, ℤ, pos, ◌-ℤ◌, nat_abs, ◌&&◌, List, Bool, length, nat_le, int_le, if◌then◌else◌, find}
use Rattle.std.specs.Prelude.{position, option_map, Result, Ok, Err}
use Rattle.std.specs.Option.{ok_or}
use Rattle.std.specs.Borrow.{Bor}
use Rattle.std.specs.Str.{bytes_eq}
use Rattle.serde_json.specs.Data.{Data}
use Rattle.serde_json.specs.Find.{as_number, as_i64, as_str, as_bool}
use Rattle.vr_json.specs.declared.fault.Cause.{Cause}
use Rattle.vr_json.specs.declared.fault.Cause.TheVariants.{OtherKind, NotWhole, OutOfRange, WrongLength, UnknownWord}
use Rattle.vr_json.specs.Reading.{◌>>=◌, ReaderOf, at_path}

-- a whole number in lo..=hi: its kind, then that it is written as a whole one and fits in an i64, then its range
abbrev pub whole_in : ℤ → ℤ → Data → Result ℤ Cause
whole_in lo hi d = do
  n ← ok_or (as_number d) OtherKind
  z ← ok_or (as_i64 n) NotWhole
  if int_le lo z && int_le z hi then Ok z else Err OutOfRange

-- a string of lo to hi bytes: its kind, then its length
abbrev pub text_in : ℕ → ℕ → Data → Result (List ℕ) Cause
text_in lo hi d = do
  s ← ok_or (as_str d) OtherKind
  if nat_le lo (length s) && nat_le (length s) hi then Ok s else Err WrongLength

-- a string that is one of some words, as the number of the word: its kind, then its words
abbrev pub word_in : List (List ℕ) → Data → Result ℕ Cause
word_in words d = do
  s ← ok_or (as_str d) OtherKind
  ok_or (position (λ word. bytes_eq word s) words) UnknownWord

-- a boolean
abbrev pub flag_in : Data → Result Bool Cause
flag_in d = ok_or (as_bool d) OtherKind

-- a whole number in lo..=hi, as a count
abbrev pub count_in : ℕ → ℕ → Data → Result ℕ Cause
count_in lo hi d = whole_in (pos lo) (pos hi) d >>= λ z. Ok (nat_abs z)

-- the number of one of n things, from 0
abbrev pub below_in : ℕ → Data → Result ℕ Cause
below_in n d = whole_in (pos 0) (pos n -ℤ pos 1) d >>= λ z. Ok (nat_abs z)

-- a word of the code, beside what it means
abbrev pub named : {A : Type 0} → Bor (List ℕ) × A → List ℕ × A
named w = (w.0.now, w.1)

-- a string that is one of some words, as what the first such word means: its kind, then its words
abbrev pub choice_in : {A : Type 0} → List (List ℕ × A) → Data → Result A Cause
choice_in words d = do
  s ← ok_or (as_str d) OtherKind
  ok_or (option_map (λ w. w.1) (find (λ w. bytes_eq w.0 s) words)) UnknownWord

-- the same at a path
unfoldable pub whole : ℤ → ℤ → ReaderOf ℤ
whole lo hi path d = at_path path (whole_in lo hi d)

unfoldable pub text : ℕ → ℕ → ReaderOf (List ℕ)
text lo hi path d = at_path path (text_in lo hi d)

unfoldable pub word : List (List ℕ) → ReaderOf ℕ
word words path d = at_path path (word_in words d)

unfoldable pub flag : ReaderOf Bool
flag path d = at_path path (flag_in d)

unfoldable pub count : ℕ → ℕ → ReaderOf ℕ
count lo hi path d = at_path path (count_in lo hi d)

unfoldable pub below : ℕ → ReaderOf ℕ
below n path d = at_path path (below_in n d)

unfoldable pub choice : {A : Type 0} → List (List ℕ × A) → ReaderOf A
choice words path d = at_path path (choice_in words d)
