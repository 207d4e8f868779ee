-- What is known of the value that a reading gives, by the form of the reader.
use Rattle.std.proofs.Common.{◌≡◌, ℕ, ◌+◌, ◌<◌, ◌≤◌, Bool, true, false, ◌&&◌, List, [], ◌∷◌, ◌++◌, length, replicate, Option, Some, None, Result, Ok, Err, IfOk}
use Rattle.std.proofs.Common.{refl, subst, arith, length-append}
use Rattle.std.proofs.lemmas.List.{length-replicate}
use Rattle.std.specs.Prelude.{ℤ, pos, negsuc, ◌-ℤ◌, int_le, nat_le, nat_abs, if◌then◌else◌, is_some}
use Rattle.std.specs.List.{All, list_any}
use Rattle.std.proofs.lemmas.Int.{ints}
use Rattle.std.proofs.lemmas.Bool.{and_parts, leb-true}
use Rattle.std.proofs.lemmas.List.Elements.{All-nil, All-push, All-replicate}
use Rattle.serde_json.specs.Data.{Data}
use Rattle.serde_json.specs.Find.{as_array}
use Rattle.vr_json.specs.declared.fault.Cause.{Cause}
use Rattle.vr_json.specs.declared.fault.Fault.{Fault}
use Rattle.vr_json.specs.declared.fault.ReadFail.{ReadFail}
use Rattle.vr_json.specs.Reading.{ReaderOf, Answers, and_then, at_path, if_present, required, optional, present, maybe, list_of, list, entries, array}
use Rattle.vr_json.specs.Reading.{first_two, two_entries, for_each, refuse_if}
use Rattle.vr_json.specs.Kinds.{whole_in, whole, text_in, text, count, below}
use Rattle.vr_model.specs.tables.WellFormed.{HasLength, IsIn, WherePresent}
use Rattle.vr_model.specs.deciding.Testing.{within_is}

-- where a reading gives a value, P holds of it
pub record Ensures {A E : Type 0} (P : A → Type 0) (reading : Result A E) : Type 0 where
  pub of_value : (x : A) → reading ≡ Ok x → P x

-- so does each reading of a reader
abbrev pub EachEnsures : {A : Type 0} → (A → Type 0) → ReaderOf A → Type 0
EachEnsures P read = (path : List ℕ) (d : Data) → Ensures P (read path d)

-- an entry of an array: P holds of it, and no entry before it is the same
abbrev pub EachFresh : {A : Type 0} → (A → Type 0) → (A → A → Bool) → (List A → ReaderOf A) → Type 0
EachFresh {A} P same read = (earlier : List A) → EachEnsures (λ x. P x × (list_any (λ y. same y x) earlier ≡ false)) (read earlier)

-- ---- steps

pub gives : {A E : Type 0} {P : A → Type 0} {x : A} → P x → Ensures {E = E} P (Ok x)
gives {P} {x} h = record { of_value = λ y is. let e : x ≡ y = cc in subst P e h }

pub fails : {A E : Type 0} {P : A → Type 0} {e : E} → Ensures P (Err e)
fails = record { of_value = λ y is. cc }

-- of any reading
pub any_value : {A E : Type 0} {r : Result A E} → Ensures (λ x. Unit {0}) r
any_value = record { of_value = λ y is. tt }

pub after : {A B E : Type 0} {P : A → Type 0} {Q : B → Type 0} {r : Result A E} {f : A → Result B E}
    → Ensures P r → ((x : A) → P x → Ensures Q (f x)) → Ensures Q (and_then r f)
unfolding and_then
after {r = Ok x} h k = k x (h.of_value x refl)
after {r = Err e} h k = fails

pub weaker : {A E : Type 0} {P Q : A → Type 0} {r : Result A E} → ((x : A) → P x → Q x) → Ensures P r → Ensures Q r
weaker f h = record { of_value = λ x is. f x (h.of_value x is) }

-- a fact for each i of what is read
pub for_every : {A E I : Type 0} {P : I → A → Type 0} {r : Result A E} → ((i : I) → Ensures (P i) r) → Ensures (λ x. (i : I) → P i x) r
for_every h = record { of_value = λ x is i. (h i).of_value x is }

pub tested : {A E : Type 0} {P : A → Type 0} (b : Bool) (x : A) (e : E) → (b ≡ true → P x) → Ensures P (if b then Ok x else Err e)
tested true x e h = gives (h refl)
tested false x e h = fails

at_path_ensures : {A : Type 0} {P : A → Type 0} {r : Result A Cause} (path : List ℕ) → Ensures P r → Ensures P (at_path path r)
unfolding at_path
at_path_ensures {r = Ok x} path h = gives (h.of_value x refl)
at_path_ensures {r = Err e} path h = fails

-- a call that answers a reading
pub answered : {A : Type 0} {P : A → Type 0} {answer : Result A ReadFail} {reading : Result A Fault}
    → Ensures P reading → Answers answer reading → IfOk answer P
answered {answer = Ok x} h answers = h.of_value x answers.value
answered {answer = Err e} h answers = tt

-- ---- kinds

in_range : (lo hi z : ℤ) → (int_le lo z && int_le z hi) ≡ true → IsIn lo hi z
in_range lo hi z h = let parts = within_is lo hi z h in record { at_least = parts.0; at_most = parts.1 }

whole_in_ensures : (lo hi : ℤ) (d : Data) → Ensures (IsIn lo hi) (whole_in lo hi d)
whole_in_ensures lo hi d = after any_value λ n _. after any_value λ z _. tested _ _ _ (in_range lo hi z)

pub whole_ensures : (lo hi : ℤ) → EachEnsures (IsIn lo hi) (whole lo hi)
unfolding whole
whole_ensures lo hi path d = at_path_ensures path (whole_in_ensures lo hi d)

as_count : (lo hi : ℕ) (z : ℤ) → IsIn (pos lo) (pos hi) z → (lo ≤ nat_abs z) × (nat_abs z ≤ hi)
as_count lo hi (pos n) h = (omega (arith, ints, h.at_least), omega (arith, ints, h.at_most))
as_count lo hi (negsuc n) h = absurd (omega (arith, ints, h.at_least))

pub count_ensures : (lo hi : ℕ) → EachEnsures (λ n. (lo ≤ n) × (n ≤ hi)) (count lo hi)
unfolding count
count_ensures lo hi path d = at_path_ensures path (after (whole_in_ensures (pos lo) (pos hi) d) λ z h. gives (as_count lo hi z h))

as_number_below : (n : ℕ) (z : ℤ) → IsIn (pos 0) (pos n -ℤ pos 1) z → nat_abs z < n
as_number_below n (pos m) h = omega (arith, ints, h.at_most)
as_number_below n (negsuc m) h = absurd (omega (arith, ints, h.at_least))

pub below_ensures : (n : ℕ) → EachEnsures (λ k. k < n) (below n)
unfolding below
below_ensures n path d = at_path_ensures path (after (whole_in_ensures _ _ d) λ z h. gives (as_number_below n z h))

has_length : {A : Type 0} (lo hi : ℕ) (xs : List A) → (nat_le lo (length xs) && nat_le (length xs) hi) ≡ true → HasLength lo hi xs
has_length lo hi xs h = let parts = and_parts _ _ h in record { at_least = leb-true lo (length xs) parts.0; at_most = leb-true (length xs) hi parts.1 }

text_in_ensures : (lo hi : ℕ) (d : Data) → Ensures (HasLength lo hi) (text_in lo hi d)
text_in_ensures lo hi d = after any_value λ s _. tested _ _ _ (has_length lo hi s)

pub text_ensures : (lo hi : ℕ) → EachEnsures (HasLength lo hi) (text lo hi)
unfolding text
text_ensures lo hi path d = at_path_ensures path (text_in_ensures lo hi d)

-- ---- objects

-- a field: what is known where it is absent, and of what is read where it is present
module _ {A : Type 0} {P : A → Type 0} where
  present_or_not : {absent : Result A Fault} {read : Data → Result A Fault} (o : Option Data)
      → Ensures P absent → ((d : Data) → Ensures P (read d)) → Ensures P (if_present absent read o)
  unfolding if_present
  present_or_not None h k = h
  present_or_not (Some d) h k = k d

  pub required_ensures : (key : List ℕ) {read : ReaderOf A} → EachEnsures P read → EachEnsures P (required key read)
  unfolding required
  required_ensures key h path d = after any_value λ o _. present_or_not o fails (h _)

  pub optional_ensures : (key : List ℕ) (absent : A) {read : ReaderOf A} → P absent → EachEnsures P read → EachEnsures P (optional key absent read)
  unfolding optional
  optional_ensures key absent default h path d = after any_value λ o _. present_or_not o (gives default) (h _)

pub maybe_ensures : {A : Type 0} {P : A → Type 0} (key : List ℕ) {read : ReaderOf A} → EachEnsures P read → EachEnsures (WherePresent P) (maybe key read)
unfolding maybe present
maybe_ensures key h path d = after any_value λ o _. present_or_not o (gives tt) λ e. after (h _ e) λ x k. gives k

pub refuse_if_ensures : (broken : Bool) (cause : Cause) (path : List ℕ) → Ensures (λ passed. broken ≡ false) (refuse_if broken cause path)
unfolding refuse_if
refuse_if_ensures true cause path = fails
refuse_if_ensures false cause path = gives refl

-- ---- arrays

list_ensures : (lo hi : ℕ) → EachEnsures (HasLength lo hi) (list lo hi)
unfolding list
list_ensures lo hi path d = after any_value λ items _. tested _ _ _ (has_length lo hi (list_of items))

module _ {A : Type 0} (I : List A → Type 0) (read : List A → ReaderOf A)
    (step : (earlier : List A) → I earlier → EachEnsures (λ x. I (earlier ++ x ∷ [])) (read earlier)) where
  -- a fact of the entries so far that each entry keeps
  entries_ensure : (ds : List Data) (earlier : List A) (path : List ℕ) (n : ℕ) → I earlier
      → length earlier + length ds ≡ n → Ensures (λ xs. (length xs ≡ n) × I xs) (entries read earlier path ds)
  unfolding entries
  entries_ensure [] earlier path n h e = gives (omega (arith, e), h)
  entries_ensure (d ∷ ds) earlier path n h e =
      after (step earlier h _ d) λ x k. entries_ensure ds (earlier ++ x ∷ []) path n k (rw (length-append earlier (x ∷ [])) (omega (arith, e)))

  pub array_keeps : (lo hi : ℕ) → I [] → EachEnsures (λ xs. HasLength lo hi xs × I xs) (array lo hi read)
  unfolding array
  array_keeps lo hi h path d =
      after (list_ensures lo hi path d) λ ds k.
      weaker (λ xs l. (let e = l.0 in record { at_least = omega (arith, k.at_least); at_most = omega (arith, k.at_most) }, l.1))
      (entries_ensure ds [] path (length ds) h (omega arith))

-- each entry by itself
pub array_ensures : {A : Type 0} {P : A → Type 0} {read : List A → ReaderOf A} (lo hi : ℕ) → ((earlier : List A) → EachEnsures P (read earlier))
    → EachEnsures (λ xs. HasLength lo hi xs × All P xs) (array lo hi read)
array_ensures {P} {read} lo hi h = array_keeps (All P) read (λ earlier k path d. weaker (λ x p. All-push P earlier x k p) (h earlier path d)) lo hi (All-nil P)

pub two_entries_ensure : {A : Type 0} {P : A → Type 0} {read : ReaderOf A} → EachEnsures P read → EachEnsures (λ p. P p.0 × P p.1) (two_entries read)
unfolding two_entries first_two
two_entries_ensure {A} {P} {read} h path d = after any_value λ ds _. both path ds
  where
    both : (path : List ℕ) (ds : List Data) → Ensures (λ p. P p.0 × P p.1) (first_two read path ds)
    both path [] = fails
    both path (a ∷ []) = fails
    both path (a ∷ b ∷ []) = after (h _ a) λ x p. after (h _ b) λ y q. gives (p, q)
    both path (a ∷ b ∷ c ∷ ds) = fails

-- how many entries an array in a field has that a call gave
pub field_length : {A : Type 0} (key : List ℕ) (lo hi : ℕ) (read : List A → ReaderOf A) (path : List ℕ) (d : Data) (xs : List A)
    → Answers (Ok xs) (required key (array lo hi read) path d) → HasLength lo hi xs
field_length {A} key lo hi read path d xs h =
    answered (required_ensures {P = HasLength lo hi} key
    (λ path d. weaker (λ (xs : List A) k. k.0) (array_ensures {P = λ x. Unit {0}} {read = read} lo hi (λ earlier path d. any_value) path d)) path d) h

-- a list of n entries
pub record IsFull {A : Type 0} (n : ℕ) (P : A → Type 0) (xs : List A) : Type 0 where
  pub one_for_each : length xs ≡ n
  pub each_entry : All P xs

pub replicated : {A : Type 0} (n : ℕ) (P : A → Type 0) (x : A) → P x → IsFull n P (replicate n x)
replicated n P x h = record { one_for_each = length-replicate n x; each_entry = All-replicate P n x h }

pub full : {A : Type 0} {n : ℕ} {P : A → Type 0} (xs : List A) → HasLength n n xs → All P xs → IsFull n P xs
full xs h all = record { one_for_each = omega (arith, h.at_least, h.at_most); each_entry = all }

pub full_array_ensures : {A : Type 0} {P : A → Type 0} {read : List A → ReaderOf A} (n : ℕ)
    → ((earlier : List A) → EachEnsures P (read earlier)) → EachEnsures (IsFull n P) (array n n read)
full_array_ensures n h path d = weaker (λ xs k. full xs k.0 k.1) (array_ensures n n h path d)

pub for_each_ensures : {A : Type 0} {P : A → Type 0} {read : List A → ReaderOf A} (n : ℕ)
    → ((earlier : List A) → EachEnsures P (read earlier)) → EachEnsures (IsFull n P) (for_each n read)
unfolding for_each
for_each_ensures {P} {read} n h path d = either (is_some (as_array d)) (full_array_ensures n h path d) (after (h [] path d) λ x p. gives (replicated n P x p))
  where
    either : {A : Type 0} {Q : A → Type 0} {x y : Result A Fault} (b : Bool) → Ensures Q x → Ensures Q y → Ensures Q (if b then x else y)
    either true h k = h
    either false h k = k
