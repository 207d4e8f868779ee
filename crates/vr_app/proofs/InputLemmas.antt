-- Inputs, and what they are replied.
use Rattle.std.proofs.Common.{◌≡◌, ◌∙◌, ◌<◌, ◌≤◌, ℕ, List, Bool, true, false, cond, Option, Some, None, refl, ap, sym, arith, length, length-append}
use Rattle.std.specs.Prelude.{nat_lt}
use Rattle.std.specs.Str.{IsUtf8, is_utf8}
use Rattle.std.proofs.lemmas.Str.{IsUtf8-from_is_utf8, is_utf8-from_IsUtf8}
use Rattle.std.proofs.lemmas.Bool.Decides.{nat_tests}
use Rattle.serde_json.specs.Data.{Data}
use Rattle.serde_json.specs.Read.{read}
use Rattle.vr_io.specs.Edges.{Gave}
use Rattle.vr_app.specs.Input.{max_input, input_value}
use Rattle.vr_app.specs.Reply.{Reply, not_json, reply_to_bytes, reply_to_json, too_long}

-- a text that is read
pub value_of-some : (bytes : List ℕ) (d : Data) → IsUtf8 bytes → read bytes ≡ Some d → input_value bytes ≡ Some d
unfolding input_value
value_of-some bytes d u e = ap (λ b. cond b (read bytes) None) (is_utf8-from_IsUtf8 bytes u) ∙ e

-- bytes that are not
pub value_of-none : (bytes : List ℕ) → (IsUtf8 bytes → read bytes ≡ None) → input_value bytes ≡ None
unfolding input_value
value_of-none bytes h = by (is_utf8 bytes) refl
  where
    by : (b : Bool) → is_utf8 bytes ≡ b → cond b (read bytes) None ≡ None
    by true e = h (IsUtf8-from_is_utf8 bytes e)
    by false e = refl

-- the reply to an input, by what is replied to a tree
module _ (reply : Data → Reply) (bytes : List ℕ) where
  -- the reply to an input that is not too long
  pub reply-short : length bytes ≤ max_input → reply_to_bytes reply bytes ≡ reply_to_json reply (input_value bytes)
  unfolding reply_to_bytes
  reply-short h =
      let e : nat_lt max_input (length bytes) ≡ false = grind (arith, nat_tests) in
      ap (λ b. cond b too_long (reply_to_json reply (input_value bytes))) e

  -- the same, where its value is known
  pub reply-value : (o : Option Data) → length bytes ≤ max_input → o ≡ input_value bytes → reply_to_json reply o ≡ reply_to_bytes reply bytes
  reply-value o h e = ap (reply_to_json reply) e ∙ sym (reply-short h)

  -- the reply to one that is too long
  pub reply-long : max_input < length bytes → reply_to_bytes reply bytes ≡ too_long
  unfolding reply_to_bytes
  reply-long h =
      let e : nat_lt max_input (length bytes) ≡ true = grind (arith, nat_tests) in
      ap (λ b. cond b too_long (reply_to_json reply (input_value bytes))) e

  -- what holds of the reply to each kind of input holds of the reply to the bytes
  module _ (P : Reply → Type 0) (of_long : max_input < length bytes → P too_long) (of_none : length bytes ≤ max_input → input_value bytes ≡ None → P not_json)
      (of_tree : (d : Data) → length bytes ≤ max_input → input_value bytes ≡ Some d → P (reply d)) where
    of_value : length bytes ≤ max_input → (o : Option Data) → input_value bytes ≡ o → P (reply_to_json reply o)
    of_value short None e = of_none short e
    of_value short (Some d) e = of_tree d short e

    pub of_input : P (reply_to_bytes reply bytes)
    unfolding reply_to_bytes
    of_input = by (nat_lt max_input (length bytes)) refl
      where
        by : (b : Bool) → nat_lt max_input (length bytes) ≡ b → P (cond b too_long (reply_to_json reply (input_value bytes)))
        by true e = of_long (grind (arith, nat_tests))
        by false e = of_value (grind (arith, nat_tests)) (input_value bytes) refl

-- a source from which too many bytes came
pub long-gave : (old new : Option (List ℕ)) (taken bytes : List ℕ) → max_input < length taken → Gave old new taken → old ≡ Some bytes → max_input < length bytes
long-gave old new taken bytes h gave e = let g = gave.known bytes e in omega (arith, length-append taken g.0, ap length g.1)
