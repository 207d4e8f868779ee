-- The words that the program takes.
use Rattle.std.specs.Prelude.{ℕ, ◌≤◌, List, [], ◌∷◌, Bool, true, false, not, ◌&&◌, ◌==◌, ◌^◌, nat_le, nat_lt, Option}
use Rattle.std.specs.Prelude.{Some, None}
use Rattle.std.specs.Prelude.{codes, if◌then◌else◌, option_map}
use Rattle.std.specs.Char.{is_ascii_digit}
use Rattle.std.specs.List.{list_all}
use Rattle.std.specs.Str.{bytes_eq}
use Rattle.std.specs.Str.Parse.{digits_value}
use Rattle.vr_model.specs.routes.Routes.{is_empty}
use Rattle.vr_app.specs.declared.words.Mode.TheVariants as mode
use Rattle.vr_app.specs.declared.words.Question.TheVariants as question
use Rattle.vr_app.specs.declared.words.Request.{Request}
use Rattle.vr_app.specs.declared.words.Request.TheVariants as request
use Rattle.vr_app.specs.declared.words.Task.TheVariants as task

-- a 0 comes in front of others
abbrev pub has_leading_zero : List ℕ → Bool
has_leading_zero [] = false
has_leading_zero (x ∷ []) = false
has_leading_zero (x ∷ y ∷ ys) = x == 48

-- decimal digits, with no 0 in front of others
abbrev pub is_numeral : List ℕ → Bool
is_numeral word = list_all is_ascii_digit word && not (has_leading_zero word) && not (is_empty word)

-- the number that a word writes, if it is at most 2^64 - 1
abbrev pub number_in : List ℕ → Option ℕ
number_in word =
    if is_numeral word && nat_lt (digits_value 10 word) (2 ^ 64) then Some (digits_value 10 word) else None

-- with how many vehicles a file may be imported: 1 to 100
abbrev pub is_fleet : ℕ → Bool
is_fleet vehicles = nat_le 1 vehicles && nat_le vehicles 100

-- a number of vehicles as a request, if there may be this many
abbrev pub import_of : Option ℕ → Option Request
import_of None = None
import_of (Some vehicles) = if is_fleet vehicles then Some (request.Import vehicles) else None

-- what the word after `import` asks for
abbrev pub imported : List ℕ → Option Request
imported word = import_of (number_in word)

-- what one word asks for
abbrev pub one_word : List ℕ → Option Request
one_word word = if bytes_eq word (codes "first") then Some (request.Read (task.Find mode.First))
    else if bytes_eq word (codes "solve") then Some (request.Read (task.Find mode.Solve))
    else if bytes_eq word (codes "check") then Some (request.Read (task.Ask question.Check))
    else if bytes_eq word (codes "spans") then Some (request.Read (task.Ask question.Spans)) else None

-- what the word after `solve` asks for
abbrev pub logged : List ℕ → Option Request
logged word = if bytes_eq word (codes "--log") then Some (request.Read (task.Find mode.Log)) else None

-- what two words ask for
abbrev pub two_words : List ℕ → List ℕ → Option Request
two_words word more = if bytes_eq word (codes "solve") then logged more
    else if bytes_eq word (codes "import") then imported more
    else if bytes_eq word (codes "generate") then option_map (λ n. request.Generate n) (number_in more)
    else if bytes_eq word (codes "demo") then option_map (λ n. request.Demo n) (number_in more) else None

-- what the words ask for; no other words are accepted
abbrev pub request_of : List (List ℕ) → Option Request
request_of [] = None
request_of (word ∷ []) = one_word word
request_of (word ∷ more ∷ []) = two_words word more
request_of (word ∷ more ∷ other ∷ words) = None

-- whether the input is read
abbrev pub is_read : Option Request → Bool
is_read None = false
is_read (Some (request.Read it)) = true
is_read (Some (request.Import vehicles)) = true
is_read (Some (request.Generate n)) = false
is_read (Some (request.Demo n)) = false

-- whether the input is read as JSON
abbrev pub reads_json : Option Request → Bool
reads_json None = false
reads_json (Some (request.Read it)) = true
reads_json (Some (request.Import vehicles)) = false
reads_json (Some (request.Generate n)) = false
reads_json (Some (request.Demo n)) = false

-- a file is imported with 1 to 100 vehicles
abbrev pub HasFleet : Request → Type 0
HasFleet (request.Read it) = Unit {0}
HasFleet (request.Import vehicles) = (1 ≤ vehicles) × (vehicles ≤ 100)
HasFleet (request.Generate n) = Unit {0}
HasFleet (request.Demo n) = Unit {0}
