-- A loop that keeps a rule for each of the numbers below n: what is left of the rule where the loop stands.
use Rattle.std.proofs.Common.{◌≡◌, ℕ, ◌+◌, ◌<◌, ◌≤◌, Result, Ok, Err, refl, sym, ap, ◌∙◌, subst}
use Rattle.std.specs.Prelude.{⊤}
use Rattle.std.specs.Result.{IsErrAnd}
use Rattle.vr_json.specs.declared.fault.Fault.{Fault}
use Rattle.vr_json.specs.declared.fault.ReadFail.{ReadFail}
use Rattle.vr_json.specs.Reading.{Answers, and_then}
use Rattle.vr_json.proofs.Steps.{stops, gives}
use Rattle.vr_model.specs.tables.Numbers.{from_to}
use Rattle.vr_model.proofs.tables.Ranges.{walk_opens, walk_ends}
use Rattle.vr_read.specs.Rules.{for_all}

module _ (rule : ℕ → Result ⊤ Fault) (n : ℕ) where
  module _ {whole : Result ⊤ Fault} (k : ℕ) (left : for_all (from_to k n) rule ≡ whole) where
    opened : k < n → and_then (rule k) (λ passed. for_all (from_to (k + 1) n) rule) ≡ whole
    unfolding for_all
    opened low = walk_opens (λ ks. for_all ks rule) n k left low

    -- a number passed
    pub rule_passes : k < n → {passed : ⊤} → Answers (Ok passed) (rule k) → for_all (from_to (k + 1) n) rule ≡ whole
    unfolding and_then
    rule_passes low h = sym (ap (λ r. and_then r (λ passed. for_all (from_to (k + 1) n) rule)) h.value) ∙ opened low

    -- a number failed, and its failure is the answer
    pub rule_stops : k < n → {e : ReadFail} (a : Result ⊤ ReadFail) → Answers {A = ⊤} (Err e) (rule k) → IsErrAnd a (λ d. d ≡ e) → Answers a whole
    rule_stops low a h is = subst (λ r. Answers a r) (opened low) (stops a (λ passed. for_all (from_to (k + 1) n) rule) h is)

    -- each number passed
    pub rule_ends : n ≤ k → Answers (Ok tt) whole
    unfolding for_all
    rule_ends high = subst (λ r. Answers (Ok tt) r) (walk_ends (λ ks. for_all ks rule) n k left high) (gives refl)
