-- Items in their turns, as code puts them back.
use Rattle.std.proofs.Common.{◌≡◌, ◌∙◌, ◌<◌, ◌≤◌, ◌-◌, ℕ, zero, suc, List, [], ◌∷◌, Bool, true, false, Option, Some, None, refl, ap, ap₂, sym, arith, length}
use Rattle.std.proofs.Common.{map, get_or}
use Rattle.std.specs.Prelude.{◌/◌, min, pos, slice_get, unwrap_or, ℤ, IfSome}
use Rattle.std.specs.Option.{option_map}
use Rattle.std.proofs.lemmas.Int.{ints}
use Rattle.std.proofs.lemmas.List.{get_or-map, length-map}
use Rattle.std.proofs.lemmas.List.Folds.{find_at}
use Rattle.std.proofs.Math.Nat.{zero-min}
use Rattle.rand_pcg.specs.Lcg.{Lcg}
use Rattle.vr_model.specs.declared.records.Group.{Group}
use Rattle.vr_model.specs.declared.records.Model.{Model}
use Rattle.vr_model.specs.tables.Limits.{greatest_cost}
use Rattle.vr_model.specs.tables.WellFormed.{IsGroup, IsIn, IsWellFormed, WherePresent}
use Rattle.vr_model.specs.routes.Routes.{holds}
use Rattle.vr_lists.specs.Nodes.{group_number}
use Rattle.vr_rules.specs.declared.items.Candidate.{Candidate}
use Rattle.vr_rules.specs.Placing.{fits_beside, item_nodes, AreCandidates}
use Rattle.vr_strings.specs.Turns.{item_at}
use Rattle.vr_strings.specs.Sorting.{sorted_by}
use Rattle.vr_strings.specs.Zeros.{zeros}
use Rattle.vr_ruin.specs.declared.ranking.Priced.{Priced}
use Rattle.vr_ruin.specs.Cheapest.{first_in}
use Rattle.vr_ruin.specs.Offers.{offer_at, offers, penalty_at, penalty_of_group, put_back, rank_key, with_offer}
use Rattle.vr_ruin.specs.Ranks.{insertion_at}
use Rattle.vr_ruin.proofs.Remade.{chosen_is}

-- ---- penalties

past : {A : Type 0} (xs : List A) (k : ℕ) → length xs ≤ k → slice_get xs k ≡ None
past [] k low = refl
past (x ∷ xs) zero low = absurd (omega (arith, low))
past (x ∷ xs) (suc k) low = past xs k (omega (arith, low))

pub penalty_none : (model : Model) (node g : ℕ) → g ≡ group_number model node → length model.groups ≤ g → pos 0 ≡ penalty_at model node
penalty_none model node g is low =
    sym (ap penalty_of_group (find_at (λ group. holds group.nodes node) model.groups ∙ ap (slice_get model.groups) (sym is) ∙ past model.groups g low))

pub penalty_is : (model : Model) (node g : ℕ) (group : Group) → g ≡ group_number model node
    → slice_get model.groups g ≡ Some group → unwrap_or group.penalty (pos 0) ≡ penalty_at model node
penalty_is model node g group is there =
    sym (ap penalty_of_group (find_at (λ group. holds group.nodes node) model.groups ∙ ap (slice_get model.groups) (sym is) ∙ there))

pub penalty_range : (model : Model) (group : Group) → IsGroup model group → IsIn (pos 0) greatest_cost (unwrap_or group.penalty (pos 0))
penalty_range model group is = by group.penalty is.penalty_in_range
  where
    by : (penalty : Option ℤ) → WherePresent (IsIn (pos 0) greatest_cost) penalty → IsIn (pos 0) greatest_cost (unwrap_or penalty (pos 0))
    by None h = record { at_least = omega (arith, ints); at_most = omega (arith, ints) }
    by (Some x) h = h

-- ---- the offer that is chosen

got_map : {A B : Type 0} (f : A → B) (xs : List A) (k : ℕ) → slice_get (map f xs) k ≡ option_map f (slice_get xs k)
got_map f [] k = refl
got_map f (x ∷ xs) zero = refl
got_map f (x ∷ xs) (suc k) = got_map f xs k

module _ (model : Model) (wide : Bool) (lists : List (List ℕ)) (item : List ℕ) (r : ℕ) (chosen : Option Priced) where
  pub chosen_offer : (ranked : List Priced) → map insertion_at ranked ≡ sorted_by (rank_key model lists) (offers model wide lists item)
      → chosen ≡ slice_get ranked (min r (length ranked - 1))
      → option_map insertion_at chosen ≡ offer_at model wide lists item r
  chosen_offer ranked order is =
      ap (option_map insertion_at) is ∙ sym (got_map insertion_at ranked (min r (length ranked - 1)))
      ∙ ap (λ n. slice_get (map insertion_at ranked) (min r (n - 1))) (sym (length-map ranked insertion_at))
      ∙ ap (λ xs. slice_get xs (min r (length xs - 1))) order

  -- its item is the one that is put back
  pub chosen_item : IsWellFormed model → option_map insertion_at chosen ≡ offer_at model wide lists item r
      → IfSome chosen (λ best. (insertion_at best).item ≡ item)
  chosen_item well_formed e = by chosen e
    where
      by : (c : Option Priced) → option_map insertion_at c ≡ offer_at model wide lists item r → IfSome c (λ best. (insertion_at best).item ≡ item)
      by None e = tt
      by (Some best) e = (chosen_is model well_formed wide lists item r (insertion_at best) (sym e)).item_is

  -- the first one
  pub first_chosen : option_map insertion_at chosen ≡ first_in (sorted_by (rank_key model lists) (offers model wide lists item))
      → r ≡ 0 → option_map insertion_at chosen ≡ offer_at model wide lists item r
  first_chosen e none =
      let in_order = sorted_by (rank_key model lists) (offers model wide lists item) in
      e ∙ ap (slice_get in_order) (at_first r (length in_order - 1) none)
    where
      at_first : (r n : ℕ) → r ≡ 0 → 0 ≡ min r n
      at_first zero n e = sym (zero-min n)
      at_first (suc r) n e = absurd (omega (arith, e))

-- ---- an item in its turn

pub put_back_is : (model : Model) (wide : Bool) (lists after : List (List ℕ)) (item : List ℕ) (words later : Lcg) (n : ℕ)
    → fits_beside model lists item ≡ true → (n, later) ≡ zeros words
    → after ≡ with_offer model lists (offer_at model wide lists item (n / 7)) → (after, later) ≡ put_back model wide (lists, words) item
put_back_is model wide lists after item words later n fits drawn is =
    ap₂ (λ a w. (a, w)) (is ∙ ap (λ word. with_offer model lists (offer_at model wide lists item (word.0 / 7))) drawn) (ap (λ word. word.1) drawn)
    ∙ sym (opened fits)
  where
    opened : fits_beside model lists item ≡ true
        → put_back model wide (lists, words) item ≡ (with_offer model lists (offer_at model wide lists item ((zeros words).0 / 7)), (zeros words).1)
    opened e = by (fits_beside model lists item) e
      where
        by : (b : Bool) → b ≡ true → (let next : List (List ℕ) × Lcg = elim b
            [ true ↦ let word = zeros words in (with_offer model lists (offer_at model wide lists item (word.0 / 7)), word.1) | false ↦ (lists, words) ] in
            next ≡ (with_offer model lists (offer_at model wide lists item ((zeros words).0 / 7)), (zeros words).1))
        by true e = refl
        by false e = absurd (cc)

-- the item at a place is that of its candidate
pub item_is_at : (model : Model) (candidates : List Candidate) (k : ℕ) (d : Candidate)
    → AreCandidates model candidates → k < length candidates → item_nodes (get_or candidates k d).item ≡ item_at model k
item_is_at model candidates k d are low =
    sym (get_or-map (λ candidate. item_nodes candidate.item) candidates k d [] low) ∙ ap (λ xs. get_or xs k []) are.all
