-- Reading: a value, or the first fault. Each table of a format is a reader, made of the few forms of this file.
use Rattle.std.specs.Prelude.{◌≡◌, ℕ, ◌&&◌, List, [], ◌∷◌, ◌++◌, Bool, not, length, nat_le, if◌then◌else◌, find}
use Rattle.std.specs.Prelude.{replicate, Option, Some, None, is_some, Result, Ok, Err, IfOk, ⊤}
use Rattle.std.specs.List.{list_any}
use Rattle.std.specs.Str.{bytes_eq}
use Rattle.std.specs.Option.{ok_or}
use Rattle.serde_json.specs.Data.{Data, Items, no_items, item, Members, no_members, member}
use Rattle.serde_json.specs.Find.{as_array, as_object, get_member}
use Rattle.vr_json.specs.declared.fault.Cause.{Cause}
use Rattle.vr_json.specs.declared.fault.Cause.TheVariants.{Absent, OtherKind, UnknownKey, WrongLength}
use Rattle.vr_json.specs.declared.fault.Fault.{Fault}
use Rattle.vr_json.specs.declared.fault.ReadFail.{ReadFail}
use Rattle.vr_json.specs.declared.fault.ReadFail.TheVariants.{Refused}
use Rattle.vr_json.specs.Causes.{fault_at}
use Rattle.vr_json.specs.Paths.{name_path, item_path}

-- one step after another: the first error is the answer
unfoldable pub and_then : {A B E : Type 0} → Result A E → (A → Result B E) → Result B E
and_then (Ok x) f = f x
and_then (Err e) f = Err e

infixl 10 ◌>>=◌
abbrev pub ◌>>=◌ : {A B E : Type 0} → Result A E → (A → Result B E) → Result B E
r >>= f = and_then r f

-- reads a value at a path
abbrev pub ReaderOf : Type 0 → Type 0
ReaderOf A = List ℕ → Data → Result A Fault

-- a reading whose cause lies at the value itself
unfoldable pub at_path : {A : Type 0} → List ℕ → Result A Cause → Result A Fault
at_path path (Ok x) = Ok x
at_path path (Err cause) = Err (fault_at cause path)

-- What a call answers, beside the reading that it is for: that value or that fault. It may be out of memory instead.
pub record Answers {A : Type 0} (answer : Result A ReadFail) (reading : Result A Fault) : Type 0 where
  pub value : IfOk answer (λ x. reading ≡ Ok x)
  pub refused : (fault : Fault) → answer ≡ Err (Refused fault) → reading ≡ Err fault

-- a call's answer, with f of its value
abbrev pub seen : {A B E : Type 0} → (A → B) → Result A E → Result B E
seen f (Ok x) = Ok (f x)
seen f (Err e) = Err e

-- a failure of a reader is this fault, unless memory ran out
abbrev pub Refuses : Cause → List ℕ → ReadFail → Type 0
Refuses cause path fail = (fault : Fault) → fail ≡ Refused fault → fault ≡ fault_at cause path

-- ---- objects

-- The value of a field, if the object has it. Another value than an object is refused.
unfoldable pub field : List ℕ → ReaderOf (Option Data)
field key path d = at_path path (ok_or (as_object d) OtherKind) >>= λ members. Ok (get_member key members)

unfoldable pub if_present : {A : Type 0} → Result A Fault → (Data → Result A Fault) → Option Data → Result A Fault
if_present absent read None = absent
if_present absent read (Some d) = read d

-- a field that must be there
unfoldable pub required : {A : Type 0} → List ℕ → ReaderOf A → ReaderOf A
required key read path d =
    field key path d >>= if_present (Err (fault_at Absent (name_path path key))) (read (name_path path key))

-- a field that may be absent, with its value then
unfoldable pub optional : {A : Type 0} → List ℕ → A → ReaderOf A → ReaderOf A
optional key absent read path d = field key path d >>= if_present (Ok absent) (read (name_path path key))

unfoldable pub present : {A : Type 0} → Result A Fault → Result (Option A) Fault
present reading = reading >>= λ x. Ok (Some x)

-- a field that may be absent, with no value then
unfoldable pub maybe : {A : Type 0} → List ℕ → ReaderOf A → ReaderOf (Option A)
maybe key read path d = field key path d >>= if_present (Ok None) (λ e. present (read (name_path path key) e))

abbrev pub member_keys : Members → List (List ℕ)
member_keys no_members = []
member_keys (member key d members) = key ∷ member_keys members

-- an object has no field but these: the first other key, in byte order, is refused
abbrev pub is_named : List (List ℕ) → List ℕ → Bool
is_named names key = list_any (λ name. bytes_eq name key) names

abbrev pub unknown_key : List (List ℕ) → Members → Option (List ℕ)
unknown_key names members = find (λ key. not (is_named names key)) (member_keys members)

unfoldable pub if_unknown : List ℕ → Option (List ℕ) → Result ⊤ Fault
if_unknown path None = Ok tt
if_unknown path (Some key) = Err (fault_at UnknownKey (name_path path key))

unfoldable pub known : List (List ℕ) → ReaderOf ⊤
known names path d =
    at_path path (ok_or (as_object d) OtherKind) >>= λ members. if_unknown path (unknown_key names members)

-- ---- arrays

abbrev pub list_of : Items → List Data
list_of no_items = []
list_of (item d items) = d ∷ list_of items

-- whether there are lo to hi values
abbrev pub has_between : ℕ → ℕ → List Data → Bool
has_between lo hi ds = nat_le lo (length ds) && nat_le (length ds) hi

-- an array of lo to hi entries
unfoldable pub list : ℕ → ℕ → ReaderOf (List Data)
list lo hi path d = at_path path (ok_or (as_array d) OtherKind)
    >>= λ items. (if has_between lo hi (list_of items) then Ok (list_of items) else Err (fault_at WrongLength path))

-- each entry in order, beside those that were read before it
unfoldable pub entries : {A : Type 0} → (List A → ReaderOf A) → List A → List ℕ → List Data → Result (List A) Fault
entries read earlier path [] = Ok earlier
entries read earlier path (d ∷ ds) =
    read earlier (item_path path (length earlier)) d >>= λ x. entries read (earlier ++ x ∷ []) path ds

-- an array of lo to hi such entries
unfoldable pub array : {A : Type 0} → ℕ → ℕ → (List A → ReaderOf A) → ReaderOf (List A)
array lo hi read path d = list lo hi path d >>= entries read [] path

-- an array of two such values
unfoldable pub first_two : {A : Type 0} → ReaderOf A → List ℕ → List Data → Result (A × A) Fault
first_two read path (first ∷ second ∷ []) =
    read (item_path path 0) first >>= λ x. (read (item_path path 1) second >>= λ y. Ok (x, y))
first_two read path ds = Err (fault_at WrongLength path)

unfoldable pub two_entries : {A : Type 0} → ReaderOf A → ReaderOf (A × A)
two_entries read path d = list 2 2 path d >>= first_two read path

-- an array of n values, or one value for all
unfoldable pub for_each : {A : Type 0} → ℕ → (List A → ReaderOf A) → ReaderOf (List A)
for_each n read path d =
    if is_some (as_array d) then array n n read path d else (read [] path d >>= λ x. Ok (replicate n x))

-- ---- rules

-- nothing, unless a rule is broken
unfoldable pub refuse_if : Bool → Cause → List ℕ → Result ⊤ Fault
refuse_if broken cause path = if broken then Err (fault_at cause path) else Ok tt
