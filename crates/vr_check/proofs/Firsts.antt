-- A loop that looks for the first of what a function gives of the numbers below n.
use Rattle.std.proofs.Common.{◌≡◌, ℕ, ◌+◌, ◌<◌, ◌≤◌, Bool, true, false, not, Option, Some, None, refl, sym, ap, ap₂, ◌∙◌}
use Rattle.std.specs.Prelude.{is_some}
use Rattle.vr_model.specs.tables.Numbers.{from_to}
use Rattle.vr_model.proofs.tables.Ranges.{walk_opens, walk_ends}
use Rattle.vr_check.specs.Findings.{where_wrong, earlier, first_finding}
use Rattle.vr_check.specs.declared.finding.Spot.{Spot}

-- a test that passes where something is right finds nothing
pub right : {b : Bool} (s : Spot) → b ≡ true → where_wrong (not b) s ≡ None
right s h = ap (λ b. where_wrong (not b) s) h

-- and one that fails finds the spot
pub not_right : {b : Bool} {s x : Spot} → b ≡ false → x ≡ s → where_wrong (not b) s ≡ Some x
not_right h is = ap₂ (λ b s. where_wrong (not b) s) h (sym is)

-- the same of a test that passes where something is wrong
pub not_wrong : {b : Bool} (s : Spot) → b ≡ false → where_wrong b s ≡ None
not_wrong s h = ap (λ b. where_wrong b s) h

pub wrong : {b : Bool} {s x : Spot} → b ≡ true → x ≡ s → where_wrong b s ≡ Some x
wrong h is = ap₂ (λ b s. where_wrong b s) h (sym is)

is_none : {B : Type 0} (o : Option B) → is_some o ≡ false → o ≡ None
is_none None h = refl
is_none (Some x) h = absurd (cc)

module _ {B : Type 0} (f : ℕ → Option B) (n : ℕ) {whole : Option B} (k : ℕ) (left : first_finding f (from_to k n) ≡ whole) where
  -- a number gave something
  pub finds : k < n → {x : B} → f k ≡ Some x → Some x ≡ whole
  finds low h = sym (ap (λ o. earlier o (first_finding f (from_to (k + 1) n))) h) ∙ walk_opens (first_finding f) n k left low

  -- a number gave nothing
  pub goes_on : k < n → f k ≡ None → first_finding f (from_to (k + 1) n) ≡ whole
  goes_on low h = sym (ap (λ o. earlier o (first_finding f (from_to (k + 1) n))) h) ∙ walk_opens (first_finding f) n k left low

  -- what a number gave is there
  pub found : k < n → {o : Option B} → o ≡ f k → is_some o ≡ true → o ≡ whole
  found low {o} is h = go o is h
    where
      go : (o : Option B) → o ≡ f k → is_some o ≡ true → o ≡ whole
      go (Some x) is h = finds low (sym is)
      go None is h = absurd (cc)

  -- what a number gave is not there
  pub passed_by : k < n → {o : Option B} → o ≡ f k → is_some o ≡ false → first_finding f (from_to (k + 1) n) ≡ whole
  passed_by low {o} is h = goes_on low (sym is ∙ is_none o h)

  -- no number gave anything
  pub ends : n ≤ k → None ≡ whole
  ends high = walk_ends (first_finding f) n k left high
