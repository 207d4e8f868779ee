-- What is told of the lists after a change, dimension by dimension.
use Rattle.std.proofs.Common.{◌≡◌, inl, inr, ℕ, ◌+◌, ◌<◌, List, [], length, length-set, sym, subst, arith}
use Rattle.std.specs.Prelude.{slice_index_or, slice_set}
use Rattle.std.proofs.lemmas.Bool.{cases_lt}
use Rattle.std.proofs.lemmas.List.{get_or-set_other, get_or-set_same}
use Rattle.vr_model.specs.tables.Tables.{dimension_at}
use Rattle.vr_model.specs.declared.records.Model.{Model}
use Rattle.vr_routes.specs.Pieces.{ListAfter}
use Rattle.vr_earliest.specs.declared.earlies.Early.{Early}
use Rattle.vr_earliest.specs.Kept.{KeptWays}
use Rattle.vr_earliest.specs.Earlies.{IsEarlyRow}
use Rattle.vr_earliest.specs.Kept.{HaveWays, IsUnpaid}

-- the first n dimensions are told where anything is paid for spans
abbrev pub AreTold : Model → List (List ℕ) → List ListAfter → ℕ → List (List Early) → Type 0
AreTold model lists parts n rows =
    (d : ℕ) → d < n → (IsUnpaid (dimension_at model d) → ⊥) → IsEarlyRow model lists parts d (slice_index_or rows d [])

-- of some lists nothing is kept only where nothing is paid for spans
pub unpaid-where-none : (model : Model) (d : ℕ) (lists : List (List ℕ)) (kept : List KeptWays)
    → HaveWays model d lists kept → length kept ≡ 0 → 0 < length lists → IsUnpaid (dimension_at model d)
unpaid-where-none model d lists kept h none some = elim h.many [
  | inl many ↦ absurd (omega (arith, many, none, some))
  | inr unpaid ↦ unpaid
]

-- where something is kept it is of all of them
pub all-where-some : (model : Model) (d : ℕ) (lists : List (List ℕ)) (kept : List KeptWays)
    → HaveWays model d lists kept → 0 < length kept → length kept ≡ length lists
all-where-some model d lists kept h some = elim h.many [
  | inl many ↦ many
  | inr unpaid ↦ (let none = h.none unpaid in absurd (omega (arith, none, some)))
]

module _ (model : Model) (lists : List (List ℕ)) (parts : List ListAfter) (n : ℕ) (rows : List (List Early)) (told : AreTold model lists parts n rows) where
  -- one dimension more is told
  pub told-more : (row : List Early) → n < 4 → length (slice_set rows n row) ≡ 4
      → IsEarlyRow model lists parts n row → AreTold model lists parts (n + 1) (slice_set rows n row)
  told-more row low four is d under paid = elim (cases_lt d n) [
    | inl before ↦ subst (IsEarlyRow model lists parts d) (sym (get_or-set_other rows n d row [] (omega (arith, before)))) (told d before paid)
    | inr past ↦ (
        let here : n ≡ d = omega (arith, under, past) in
        let many = length-set rows n row in
        subst (λ k. IsEarlyRow model lists parts k (slice_index_or (slice_set rows n row) k [])) here
        (subst (IsEarlyRow model lists parts n) (sym (get_or-set_same rows n row [] (omega (arith, low, four, many)))) is))
  ]

  -- nothing is paid for spans in one dimension more
  pub told-unpaid : IsUnpaid (dimension_at model n) → AreTold model lists parts (n + 1) rows
  told-unpaid unpaid d under paid = elim (cases_lt d n) [
    | inl before ↦ told d before paid
    | inr past ↦ (
        let here : n ≡ d = omega (arith, under, past) in
        absurd (paid (subst (λ k. IsUnpaid (dimension_at model k)) here unpaid)))
  ]
