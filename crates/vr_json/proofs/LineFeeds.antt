-- A line feed behind a text changes nothing of what JSON reads in it.
use Rattle.std.proofs.Common.{◌≡◌, ℕ, suc, ◌+◌, ◌-◌, ◌≤◌, List, [], ◌∷◌, ◌++◌, Bool, true, false, cond, ◌&&◌, ◌||◌, ◌==◌, nat_eq, nat_lt, length, length-append}
use Rattle.std.proofs.Common.{take, drop, Option, Some, None, option_map, refl, ap, ap₂, ◌∙◌, arith}
use Rattle.std.specs.Prelude.{option_and_then}
use Rattle.std.specs.List.{prefix_len, starts_with}
use Rattle.std.specs.Cmp.Lexicographic.{pointwise}
use Rattle.std.specs.Char.{is_ascii_digit, is_digit, encode_utf8}
use Rattle.std.proofs.lemmas.List.{drop-append-le, take-append-le}
use Rattle.json.specs.Ascii as ascii
use Rattle.json.specs.Token.{Token, number, boolean, null, bad}
use Rattle.json.specs.Text.{Within, plain, after_backslash, after_u, after_high, content, code_unit, short_escape, prepend, is_high_surrogate, is_low_surrogate}
use Rattle.json.specs.Text.{surrogate_pair}
use Rattle.json.specs.Word.{ends_word, after_digits, after_minus, after_sign, after_whole, after_fraction, after_exponent, after_number, number_before, literal}
use Rattle.json.specs.Word.{word}
use Rattle.json.specs.Lex.{Lexeme, Class, quote, backslash, operator, space, other, class, Mode, between, in_word, in_string, in_escape, token, string_token}
use Rattle.json.specs.Lex.{operator_lexeme, lex_byte, lex, punctuate, fresh}
use Rattle.json.specs.Json as json
use Rattle.serde_json.specs.Read.{read, of_json, max_depth}

abbrev line_feed : List ℕ
line_feed = 10 ∷ []

-- a rest, with the line feed behind it
abbrev fed : Option (List ℕ) → Option (List ℕ)
fed rest = option_map (λ t. t ++ line_feed) rest

-- ---- numbers and literals

digits_fed : (t : List ℕ) → prefix_len is_ascii_digit (t ++ line_feed) ≡ prefix_len is_ascii_digit t
digits_fed [] = refl
digits_fed (x ∷ t) = ap (λ n. cond (is_ascii_digit x) (1 + n) 0) (digits_fed t)

few : (b : Bool) (n m : ℕ) → n ≤ m → cond b (1 + n) 0 ≤ suc m
few true n m h = omega arith
few false n m h = omega arith

digits_within : (t : List ℕ) → prefix_len is_ascii_digit t ≤ length t
digits_within [] = omega arith
digits_within (x ∷ t) = few (is_ascii_digit x) _ _ (digits_within t)

digits_rest : (b : Bool) (n : ℕ) (t : List ℕ) → n ≤ length t → cond b None (Some (drop n (t ++ line_feed))) ≡ fed (cond b None (Some (drop n t)))
digits_rest true n t h = refl
digits_rest false n t h = ap Some (drop-append-le n t line_feed h)

after_digits-fed : (t : List ℕ) → after_digits (t ++ line_feed) ≡ fed (after_digits t)
after_digits-fed t =
    ap (λ n. cond (n == 0) None (Some (drop n (t ++ line_feed)))) (digits_fed t)
    ∙ digits_rest (prefix_len is_ascii_digit t == 0) (prefix_len is_ascii_digit t) t (digits_within t)

choice_fed : (b : Bool) (s t : List ℕ) → cond b (s ++ line_feed) (t ++ line_feed) ≡ cond b s t ++ line_feed
choice_fed true s t = refl
choice_fed false s t = refl

after_minus-fed : (t : List ℕ) → after_minus (t ++ line_feed) ≡ after_minus t ++ line_feed
after_minus-fed [] = refl
after_minus-fed (x ∷ t) = choice_fed (x == ascii.minus) t (x ∷ t)

after_sign-fed : (t : List ℕ) → after_sign (t ++ line_feed) ≡ after_sign t ++ line_feed
after_sign-fed [] = refl
after_sign-fed (x ∷ t) = choice_fed ((x == ascii.minus) || (x == ascii.plus)) t (x ∷ t)

rest_fed : (b : Bool) (o p : Option (List ℕ)) → cond b (fed o) (fed p) ≡ fed (cond b o p)
rest_fed true o p = refl
rest_fed false o p = refl

after_whole-fed : (t : List ℕ) → after_whole (t ++ line_feed) ≡ fed (after_whole t)
after_whole-fed [] = refl
after_whole-fed (x ∷ t) = ap (cond (x == ascii.zero) (Some (t ++ line_feed))) (after_digits-fed (x ∷ t))
    ∙ rest_fed (x == ascii.zero) (Some t) (after_digits (x ∷ t))

after_fraction-fed : (t : List ℕ) → after_fraction (t ++ line_feed) ≡ fed (after_fraction t)
after_fraction-fed [] = refl
after_fraction-fed (x ∷ t) = ap (λ o. cond (x == ascii.dot) o (Some (x ∷ t ++ line_feed))) (after_digits-fed t)
    ∙ rest_fed (x == ascii.dot) (after_digits t) (Some (x ∷ t))

after_exponent-fed : (t : List ℕ) → after_exponent (t ++ line_feed) ≡ fed (after_exponent t)
after_exponent-fed [] = refl
after_exponent-fed (x ∷ t) =
    let marked = (x == ascii.lower_e) || (x == ascii.upper_e) in
    ap (λ o. cond marked o (Some (x ∷ t ++ line_feed))) (ap after_digits (after_sign-fed t) ∙ after_digits-fed (after_sign t))
    ∙ rest_fed marked (after_digits (after_sign t)) (Some (x ∷ t))

then_fed : (f : List ℕ → Option (List ℕ)) → ((t : List ℕ) → f (t ++ line_feed) ≡ fed (f t))
    → (o : Option (List ℕ)) → option_and_then f (fed o) ≡ fed (option_and_then f o)
then_fed f h None = refl
then_fed f h (Some t) = h t

after_number-fed : (t : List ℕ) → after_number (t ++ line_feed) ≡ fed (after_number t)
unfolding after_number
after_number-fed t =
    ap (λ o. option_and_then after_exponent (option_and_then after_fraction o)) (ap after_whole (after_minus-fed t) ∙ after_whole-fed (after_minus t))
    ∙ ap (option_and_then after_exponent) (then_fed after_fraction after_fraction-fed (after_whole (after_minus t)))
    ∙ then_fed after_exponent after_exponent-fed (option_and_then after_fraction (after_whole (after_minus t)))

ends_word-fed : (t : List ℕ) → ends_word (t ++ line_feed) ≡ ends_word t
ends_word-fed [] = refl
ends_word-fed (x ∷ t) = refl

front_len : (n m : ℕ) → (n + 1) - (m + 1) ≡ n - m
front_len n m = omega arith

number_before-fed : (t : List ℕ) (o : Option (List ℕ)) → number_before (t ++ line_feed) (fed o) ≡ number_before t o
number_before-fed t None = refl
number_before-fed t (Some rest) =
    let front = ap₂ (λ n m. n - m) (length-append t line_feed) (length-append rest line_feed) ∙ front_len (length t) (length rest) in
    let same = ap (λ n. take n (t ++ line_feed)) front ∙ take-append-le (length t - length rest) t line_feed (omega arith) in
    ap₂ (λ b s. cond b (number s) bad) (ends_word-fed rest) same

-- a name without a line feed
abbrev no_line_feed : List ℕ → Bool
no_line_feed [] = true
no_line_feed (n ∷ name) = cond (nat_eq n 10) false (no_line_feed name)

abbrev stands : List ℕ → List ℕ → Bool
stands name t = starts_with nat_eq t name && ends_word (drop (length name) t)

both : (b : Bool) (p q r s : Bool) → (p && q) ≡ (r && s) → ((b && p) && q) ≡ ((b && r) && s)
both true p q r s h = h
both false p q r s h = refl

other_byte : (n : ℕ) (b : Bool) (p : Bool) → nat_eq n 10 ≡ b → cond b false p ≡ true → nat_eq n 10 ≡ false
other_byte n true p e h = cc
other_byte n false p e h = e

other_bytes : (b : Bool) (p : Bool) → cond b false p ≡ true → p ≡ true
other_bytes true p h = cc
other_bytes false p h = h

stands-fed : (name t : List ℕ) → no_line_feed name ≡ true → stands name (t ++ line_feed) ≡ stands name t
stands-fed [] t h = ends_word-fed t
stands-fed (n ∷ name) [] h =
    ap (λ b. (b && pointwise nat_eq name (take (length name) [])) && ends_word (drop (length name) [])) (other_byte n (nat_eq n 10) (no_line_feed name) refl h)
stands-fed (n ∷ name) (x ∷ t) h = both (nat_eq n x) _ _ _ _ (stands-fed name t (other_bytes (nat_eq n 10) (no_line_feed name) h))

literal-fed : (name : List ℕ) (k : Token) (t : List ℕ) → no_line_feed name ≡ true → literal name k (t ++ line_feed) ≡ literal name k t
literal-fed name k t h = ap (λ b. cond b k bad) (stands-fed name t h)

word-fed : (x : ℕ) (t : List ℕ) → word (x ∷ t ++ line_feed) ≡ word (x ∷ t)
unfolding word
word-fed x t =
    let s = x ∷ t in
    let numbers = ap (number_before (s ++ line_feed)) (after_number-fed s) ∙ number_before-fed s (after_number s) in
    ap₂ (cond (x == ascii.lower_t)) (literal-fed ascii.true_text (boolean true) s refl)
    (ap₂ (cond (x == ascii.lower_f)) (literal-fed ascii.false_text (boolean false) s refl)
    (ap₂ (cond (x == ascii.lower_n)) (literal-fed ascii.null_text null s refl) numbers))

-- ---- strings

no_digit : (b : Bool) (u : ℕ) → cond (b && false) (Some u) None ≡ None
no_digit true u = refl
no_digit false u = refl

-- a line feed is no hex digit
code_unit-fed : (a b c : ℕ) → code_unit a b c 10 ≡ None
unfolding code_unit
code_unit-fed a b c = no_digit (is_digit a 16 && is_digit b 16 && is_digit c 16) _

same_none : (b : Bool) → cond b None None ≡ (let o : Option (List ℕ) = None in o)
same_none true = refl
same_none false = refl

mutual
  unfolding content short_escape

  content-fed : (w : Within) (t : List ℕ) → content w (t ++ line_feed) ≡ content w t
  content-fed plain [] = refl
  content-fed plain (x ∷ t) =
      ap₂ (λ a b. cond (x == ascii.quote) (Some []) (cond (x == ascii.backslash) a (cond (nat_lt x ascii.space) None (prepend (x ∷ []) b))))
      (content-fed after_backslash t) (content-fed plain t)
  content-fed after_backslash [] = refl
  content-fed after_backslash (x ∷ t) =
      ap₂ (λ a b. cond (x == ascii.lower_u) a (option_and_then (λ c. prepend (c ∷ []) b) (short_escape x))) (content-fed after_u t) (content-fed plain t)
  content-fed after_u [] = refl
  content-fed after_u (a ∷ []) = refl
  content-fed after_u (a ∷ b ∷ []) = refl
  content-fed after_u (a ∷ b ∷ c ∷ []) =
      ap (option_and_then
      (λ u. cond (is_high_surrogate u) (content (after_high u) []) (cond (is_low_surrogate u) None (prepend (encode_utf8 u) (content plain [])))))
      (code_unit-fed a b c)
  content-fed after_u (a ∷ b ∷ c ∷ d ∷ t) =
      ap (λ f. option_and_then f (code_unit a b c d))
      (λ i u. cond (is_high_surrogate u) (content-fed (after_high u) t i) (cond (is_low_surrogate u) None (prepend (encode_utf8 u) (content-fed plain t i))))
  content-fed (after_high h) [] = refl
  content-fed (after_high h) (s ∷ []) = refl
  content-fed (after_high h) (s ∷ u ∷ []) = refl
  content-fed (after_high h) (s ∷ u ∷ a ∷ []) = refl
  content-fed (after_high h) (s ∷ u ∷ a ∷ b ∷ []) = refl
  content-fed (after_high h) (s ∷ u ∷ a ∷ b ∷ c ∷ []) =
      ap (λ o. cond ((s == ascii.backslash) && (u == ascii.lower_u))
      (option_and_then (λ l. cond (is_low_surrogate l) (prepend (encode_utf8 (surrogate_pair h l)) (content plain [])) None) o) None) (code_unit-fed a b c)
      ∙ same_none ((s == ascii.backslash) && (u == ascii.lower_u))
  content-fed (after_high h) (s ∷ u ∷ a ∷ b ∷ c ∷ d ∷ t) =
      ap (λ o. cond ((s == ascii.backslash) && (u == ascii.lower_u))
      (option_and_then (λ l. cond (is_low_surrogate l) (prepend (encode_utf8 (surrogate_pair h l)) o) None) (code_unit a b c d)) None) (content-fed plain t)

-- ---- lexemes and tokens

lex_byte-fed : (m : Mode) (c : Class) (x : ℕ) (t : List ℕ) (k l : Mode → List Lexeme)
    → ((n : Mode) → k n ≡ l n) → lex_byte m c x (t ++ line_feed) k ≡ lex_byte m c x t l
lex_byte-fed between quote x t k l h = ap₂ (λ o r. token (string_token o) ∷ r) (content-fed plain t) (h in_string)
lex_byte-fed between backslash x t k l h = ap (λ r. token bad ∷ r) (h in_word)
lex_byte-fed between operator x t k l h = ap (λ r. operator_lexeme x ∷ r) (h between)
lex_byte-fed between space x t k l h = h between
lex_byte-fed between other x t k l h = ap₂ (λ w r. token w ∷ r) (word-fed x t) (h in_word)
lex_byte-fed in_word quote x t k l h = h in_word
lex_byte-fed in_word backslash x t k l h = h in_word
lex_byte-fed in_word operator x t k l h = ap (λ r. operator_lexeme x ∷ r) (h between)
lex_byte-fed in_word space x t k l h = h between
lex_byte-fed in_word other x t k l h = h in_word
lex_byte-fed in_string quote x t k l h = h between
lex_byte-fed in_string backslash x t k l h = h in_escape
lex_byte-fed in_string operator x t k l h = h in_string
lex_byte-fed in_string space x t k l h = h in_string
lex_byte-fed in_string other x t k l h = h in_string
lex_byte-fed in_escape c x t k l h = h in_string

lex-fed : (m : Mode) (t : List ℕ) → lex m (t ++ line_feed) ≡ lex m t
unfolding lex
lex-fed between [] = refl
lex-fed in_word [] = refl
lex-fed in_string [] = refl
lex-fed in_escape [] = refl
lex-fed m (x ∷ t) = lex_byte-fed m (class x) x t (λ n. lex n (t ++ line_feed)) (λ n. lex n t) (λ n. lex-fed n t)

-- what JSON reads of a text with a line feed behind it is what it reads of the text
pub read-fed : (t : List ℕ) → read (t ++ 10 ∷ []) ≡ read t
read-fed t = ap (λ ls. option_and_then of_json (option_and_then (λ p. json.if_last p.0 p.1) (json.value max_depth (punctuate fresh ls)))) (lex-fed between t)
