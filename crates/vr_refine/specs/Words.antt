-- The words that the program takes.
use Rattle.std.specs.Prelude.{ℕ, List, [], ◌∷◌, Bool, true, false, ◌&&◌, Option, Some, None, codes, if◌then◌else◌}
use Rattle.std.specs.Str.{bytes_eq}
use Rattle.vr_app.specs.declared.words.Mode.TheVariants as mode
use Rattle.vr_refine.specs.declared.words.Request.{Request}
use Rattle.vr_refine.specs.declared.words.Request.TheVariants.{Find, Price}

-- what one word asks for
abbrev pub one_word : List ℕ → Option Request
one_word word = if bytes_eq word (codes "price") then Some Price
    else if bytes_eq word (codes "first") then Some (Find mode.First)
    else if bytes_eq word (codes "solve") then Some (Find mode.Solve) else None

-- what two words ask for
abbrev pub two_words : List ℕ → List ℕ → Option Request
two_words word more =
    if bytes_eq word (codes "solve") && bytes_eq more (codes "--log") then Some (Find mode.Log) else None

-- what the words ask for; no other words are accepted
abbrev pub request_of : List (List ℕ) → Option Request
request_of [] = None
request_of (word ∷ []) = one_word word
request_of (word ∷ more ∷ []) = two_words word more
request_of (word ∷ more ∷ other ∷ words) = None

-- whether the input is read: if the words are accepted
abbrev pub is_read : Option Request → Bool
is_read None = false
is_read (Some it) = true
