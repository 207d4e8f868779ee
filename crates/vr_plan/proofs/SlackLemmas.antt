-- One slack more.
use Rattle.std.proofs.Common.{◌≡◌, ℕ, zero, suc, ◌<◌, List, [], ◌∷◌, ◌++◌, length, ℤ, pos, ◌-ℤ◌, inl, inr, refl, ap, ◌∙◌, arith}
use Rattle.std.specs.Prelude.{slice_index_or}
use Rattle.std.proofs.lemmas.Bool.{cases_lt}
use Rattle.std.proofs.lemmas.List.{get_or_append_left, length-append}
use Rattle.vr_model.specs.tables.Numbers.{number_at}
use Rattle.vr_steps.specs.declared.hops.Hop.{Hop}
use Rattle.vr_plan.specs.Plans.{no_hop}

-- the slack of arc j, by the cumuls
abbrev pub slack_of : List Hop → List ℤ → ℕ → ℤ
slack_of hops cumuls j = (number_at cumuls (suc j) -ℤ number_at cumuls j) -ℤ (slice_index_or hops j no_hop).transit

-- the number that was added last
pub number_last : (xs : List ℤ) (x : ℤ) (i : ℕ) → length xs ≡ i → number_at (xs ++ x ∷ []) i ≡ x
number_last [] x zero e = refl
number_last [] x (suc i) e = absurd (omega (arith, e))
number_last (c ∷ cs) x zero e = absurd (omega (arith, e))
number_last (c ∷ cs) x (suc i) e = number_last cs x i (omega (arith, e))

pub slacks_more : (hops : List Hop) (cumuls slacks : List ℤ) (k : ℕ) (x : ℤ) → length slacks ≡ k
    → ((j : ℕ) → j < length slacks → number_at slacks j ≡ slack_of hops cumuls j) → x ≡ slack_of hops cumuls k
    → (j : ℕ) → j < length (slacks ++ x ∷ []) → number_at (slacks ++ x ∷ []) j ≡ slack_of hops cumuls j
slacks_more hops cumuls slacks k x long before is j lt =
    let n = length-append slacks (x ∷ []) in
    elim (cases_lt j k) [
      | inl earlier ↦ get_or_append_left slacks (x ∷ []) (pos 0) j (omega (arith, earlier, long)) ∙ before j (omega (arith, earlier, long))
      | inr at ↦ (let e : k ≡ j = omega (arith, lt, n, long, at) in number_last slacks x j (long ∙ e) ∙ (is ∙ ap (slack_of hops cumuls) e))
    ]
