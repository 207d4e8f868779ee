-- Lines and words of a file.
use Rattle.std.specs.Prelude.{◌≡◌, ℕ, Bool, false, not, ◌||◌, ◌==◌, List, [], ◌∷◌, length, filter}
use Rattle.std.specs.List.{list_any, slice_split, before_first, after_first}

-- the lines of a file: the pieces between its line feeds
unfoldable pub lines : List ℕ → List (List ℕ)
lines bytes = slice_split (λ b. b == 10) bytes

-- a space, a tab or a carriage return
abbrev pub is_blank : ℕ → Bool
is_blank b = (b == 32) || (b == 9) || (b == 13)

abbrev pub is_empty : {A : Type 0} → List A → Bool
is_empty xs = length xs == 0

-- a text is empty, or begins with a word
abbrev pub BeginsWord : List ℕ → Type 0
BeginsWord [] = Unit {0}
BeginsWord (b ∷ text) = is_blank b ≡ false

-- the words of a text: the maximal runs of bytes that are not blank
unfoldable pub words : List ℕ → List (List ℕ)
words text = filter (λ word. not (is_empty word)) (slice_split is_blank text)

-- whether a byte is in a text, and what is before the first such byte and after it
abbrev pub has_byte : ℕ → List ℕ → Bool
has_byte mark text = list_any (λ b. b == mark) text

abbrev pub before_byte : ℕ → List ℕ → List ℕ
before_byte mark text = before_first (λ b. b == mark) text

abbrev pub after_byte : ℕ → List ℕ → List ℕ
after_byte mark text = after_first (λ b. b == mark) text
