-- What a move changes in each of its lists.
use Rattle.std.proofs.Common.{◌≡◌, ◌≢◌, ◌∙◌, ℕ, ◌<◌, ◌≤◌, cond, List, [], ◌∷◌, ◌++◌, length, take, drop, refl, sym, ap, inl, inr, arith}
use Rattle.std.specs.Prelude.{IsTrue, slice_index, slice_set, insert, remove}
use Rattle.std.proofs.lemmas.Bool.{cases_lt}
use Rattle.std.proofs.lemmas.List.{get_or-set_same, get_or_append_left, get_or-take, length-append, length-take-le, length-drop}
use Rattle.vr_model.specs.deciding.Testing.{test_of_eq}
use Rattle.vr_model.specs.routes.Routes.{route, are_lists}
use Rattle.vr_model.specs.moves.Moves.{with_pair, without_pair}
use Rattle.vr_model.specs.declared.records.Model.{Model}
use Rattle.vr_model.specs.declared.records.Pair.{Pair}
use Rattle.vr_model.proofs.moves.Times.{hit, times, at_least_one, times_routes}
use Rattle.vr_model.proofs.moves.Kept.{removed_times, inserted_times, pair_times, pickup_out, none_left}
use Rattle.vr_model.proofs.moves.KeptLists.{few}

hit_self : (x : ℕ) → hit x x ≡ 1
hit_self x = ap (λ t. cond t 1 0) (test_of_eq x x refl)

pub removed_differs : (xs : List ℕ) (a : ℕ) → a < length xs → remove xs a ≢ xs
removed_differs xs a low e =
    let less = removed_times (slice_index xs a) xs a low in
    let same = ap (times (slice_index xs a)) e in
    let one = hit_self (slice_index xs a) in
    omega (arith, less, same, one)

pub inserted_differs : (xs : List ℕ) (t y : ℕ) → insert xs t y ≢ xs
inserted_differs xs t y e =
    let more = inserted_times y xs t y in
    let same = ap (times y) e in
    let one = hit_self y in
    omega (arith, more, same, one)

pub replaced_differs : (xs : List ℕ) (a y : ℕ) → a < length xs → y ≢ slice_index xs a → slice_set xs a y ≢ xs
replaced_differs xs a y low other e = other (sym (get_or-set_same xs a y 0 low) ∙ ap (λ l. slice_index l a) e)

-- the front of a list takes the place of that of another
pub joined_differs : (xs ys : List ℕ) (a b : ℕ) → a ≤ length xs → b ≤ length ys
    → (a ≡ 0 → b ≡ 0 → ⊥) → (0 < length ys → 0 < length xs → slice_index ys 0 ≡ slice_index xs 0 → ⊥)
    → take b ys ++ drop a xs ≢ xs
joined_differs xs ys a b front other some apart e =
    let long = ap length e in
    let joined = length-append (take b ys) (drop a xs) in
    let taken = length-take-le b ys other in
    let left = length-drop a xs in
    let equal : a ≡ b = omega (arith, long, joined, taken, left, front) in
    elim (cases_lt 0 b) [
      | inl more ↦ apart (omega (arith, other, more)) (omega (arith, equal, front, more))
          (sym (get_or_append_left (take b ys) (drop a xs) 0 0 (omega (arith, taken, more)) ∙ get_or-take b ys 0 0 more) ∙ ap (λ l. slice_index l 0) e)
      | inr none ↦ some (omega (arith, equal, none)) (omega (arith, none))
    ]

pub paired_differs : (pair : Pair) (s t : ℕ) (xs : List ℕ) → s ≤ t → with_pair pair s t xs ≢ xs
paired_differs pair s t xs order e =
    let more = pair_times pair.pickup xs s t pair.pickup pair.delivery order in
    let same = ap (times pair.pickup) e in
    let one = hit_self pair.pickup in
    omega (arith, more, same, one)

pub unpaired_differs : (pair : Pair) (xs : List ℕ) (k : ℕ) → k < length xs → slice_index xs k ≡ pair.pickup → without_pair pair xs ≢ xs
unpaired_differs pair xs k low found e =
    let some = at_least_one pair.pickup xs k low found in
    let none = none_left pair (xs ∷ []) pair.pickup (pickup_out pair) in
    let same = ap (times pair.pickup) e in
    omega (arith, some, none, same)

-- no node stands in two lists
pub apart_between : (model : Model) (lists : List (List ℕ)) → IsTrue (are_lists model lists) → (v w j k : ℕ) → v ≢ w
    → j < length (route lists v) → k < length (route lists w) → slice_index (route lists v) j ≡ slice_index (route lists w) k → ⊥
apart_between model lists are v w j k apart low next e =
    let x : ℕ = slice_index (route lists w) k in
    let here = at_least_one x (route lists v) j low e in
    let there = at_least_one x (route lists w) k next refl in
    let one = few model lists are x in
    elim (cases_lt v w) [
      | inl before ↦ (let all = times_routes x lists v w before in omega (arith, here, there, all, one))
      | inr from ↦ elim (cases_lt w v) [
        | inl behind ↦ (let all = times_routes x lists w v behind in omega (arith, here, there, all, one))
        | inr to ↦ apart (omega (arith, from, to))
      ]
    ]
