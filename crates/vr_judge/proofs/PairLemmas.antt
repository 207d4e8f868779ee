-- A pair that is moved stays active, as the other visits do.
use Rattle.std.proofs.Common.{◌≡◌, ◌∙◌, ℕ, ◌+◌, ◌<◌, ◌≤◌, Bool, true, false, cond, not, ◌||◌, List, [], ◌∷◌, map, refl, sym, ap, subst, inl, inr, arith}
use Rattle.std.specs.Prelude.{IsTrue, ◌==◌, filter}
use Rattle.std.specs.List.{concat}
use Rattle.std.proofs.lemmas.Bool.{false≢true}
use Rattle.std.proofs.lemmas.List.{length-map}
use Rattle.std.proofs.lemmas.Bool.Decides.{eqb_tells}
use Rattle.vr_model.specs.deciding.Testing.{and_left, or_cases, or_left, or_right, test_of_eq}
use Rattle.vr_model.specs.routes.Routes.{route, holds, is_active}
use Rattle.vr_model.specs.moves.Moves.{apply, comes_before, is_pair_served, with_pair, without_pair}
use Rattle.vr_model.specs.moves.MoveTests.{is_move}
use Rattle.vr_model.specs.tables.Tables.{pair_at}
use Rattle.vr_model.specs.declared.records.Model.{Model}
use Rattle.vr_model.specs.declared.records.Pair.{Pair}
use Rattle.vr_model.specs.declared.neighbours.Move.{Move}
use Rattle.vr_model.specs.declared.neighbours.Move.TheVariants.{TwoOpt, OrOpt, Relocate, Exchange, Cross, RelocatePair}
use Rattle.vr_model.proofs.tables.Tests.{clash, same_tests}
use Rattle.vr_model.proofs.routes.Lists.{is_active-concat}
use Rattle.vr_model.proofs.moves.Kept.{pair_times}
use Rattle.vr_model.proofs.moves.Times.{times, times_in, hit, here_or_later, held_times, joined_times, times_held, times_set}
use Rattle.vr_routes.specs.Pairs.{are_in_order}
use Rattle.vr_routes.proofs.FactLemmas.{of_relocate_pair}
use Rattle.vr_model.specs.moves.Kinds.{changes_activity, kind_of}
use Rattle.vr_known.proofs.Activity.{same_active}

-- both of two nodes that come one before the other stand in the list
both_held : (xs : List ℕ) (x y : ℕ) → IsTrue (comes_before xs x y) → IsTrue (holds xs x) × IsTrue (holds xs y)
both_held [] x y h = absurd (clash false h refl)
both_held (z ∷ zs) x y h = elim (eqb_tells z x) [
  | inl here ↦ (
    or_left (x == z) (holds zs x) (test_of_eq x z (sym here.1)),
    or_right (y == z) (holds zs y) (subst (λ t. IsTrue (cond t (holds zs y) (comes_before zs x y))) here.0 h),
  )
  | inr other ↦ (
      let rest = both_held zs x y (subst (λ t. IsTrue (cond t (holds zs y) (comes_before zs x y))) other.0 h) in
      (or_right (x == z) (holds zs x) rest.0, or_right (y == z) (holds zs y) rest.1))
]

both_active : (lists : List (List ℕ)) (x y : ℕ) → IsTrue (are_in_order lists x y) → IsTrue (is_active lists x) × IsTrue (is_active lists y)
both_active [] x y h = absurd (clash false h refl)
both_active (l ∷ ls) x y h = elim (or_cases (comes_before l x y) _ h) [
  | inl here ↦ (let both = both_held l x y here in (or_left (holds l x) (is_active ls x) both.0, or_left (holds l y) (is_active ls y) both.1))
  | inr later ↦ (let both = both_active ls x y later in (or_right (holds l x) (is_active ls x) both.0, or_right (holds l y) (is_active ls y) both.1))
]

-- a node is active where it stands at least once
pub active_times : (lists : List (List ℕ)) (x : ℕ) → IsTrue (is_active lists x) → 1 ≤ times_in x lists
active_times lists x h =
    let some = held_times x (concat lists) (sym (is_active-concat lists x) ∙ h) in
    let all = joined_times x lists in
    omega (arith, some, all)

pub times_active : (lists : List (List ℕ)) (x : ℕ) → 1 ≤ times_in x lists → IsTrue (is_active lists x)
times_active lists x some = let all = joined_times x lists in is_active-concat lists x ∙ times_held x (concat lists) (omega (arith, some, all))

module _ (pair : Pair) where
  abbrev keeps : ℕ → Bool
  keeps node = not ((node == pair.pickup) || (node == pair.delivery))

  -- a node of neither is kept
  other_kept : (x : ℕ) → hit x pair.pickup ≡ 0 → hit x pair.delivery ≡ 0 → keeps x ≡ true
  other_kept x first second = by (x == pair.pickup) (x == pair.delivery) first second
    where
      by : (a b : Bool) → ◌≡◌ {A = ℕ} (cond a 1 0) 0 → ◌≡◌ {A = ℕ} (cond b 1 0) 0 → not (a || b) ≡ true
      by true b first second = absurd (omega (arith, first))
      by false true first second = absurd (omega (arith, second))
      by false false first second = refl

  -- a node of neither stands as often without them
  as_often_in : (x : ℕ) → keeps x ≡ true → (xs : List ℕ) → times x (without_pair pair xs) ≡ times x xs
  as_often_in x stays [] = refl
  as_often_in x stays (y ∷ ys) = elim (here_or_later x y) [
    | inl same ↦ ap (λ t. times x (cond t (y ∷ filter keeps ys) (filter keeps ys))) (ap keeps (sym same.0) ∙ stays)
        ∙ ap (λ n. hit x y + n) (as_often_in x stays ys)
    | inr other ↦ by (keeps y) (as_often_in x stays ys) other
  ]
    where
      by : (t : Bool) → times x (filter keeps ys) ≡ times x ys → hit x y ≡ 0 → times x (cond t (y ∷ filter keeps ys) (filter keeps ys)) ≡ hit x y + times x ys
      by true same other = omega (arith, same, other)
      by false same other = omega (arith, same, other)

  as_often_without : (x : ℕ) → keeps x ≡ true → (lists : List (List ℕ)) → times_in x (map (without_pair pair) lists) ≡ times_in x lists
  as_often_without x stays [] = refl
  as_often_without x stays (l ∷ ls) =
      let here = as_often_in x stays l in
      let rest = as_often_without x stays ls in
      omega (arith, here, rest)

-- a pair that is moved
pair_active : (model : Model) (lists : List (List ℕ)) (p w s t : ℕ) → IsTrue (is_move model lists (RelocatePair p w s t)) → (x : ℕ)
    → is_active (apply model lists (RelocatePair p w s t)) x ≡ is_active lists x
pair_active model lists p w s t one x =
    let pair = pair_at model p in
    let rest : List (List ℕ) = map (without_pair pair) lists in
    let later : List (List ℕ) = apply model lists (RelocatePair p w s t) in
    let facts = of_relocate_pair model lists p w s t one in
    let served = both_active lists pair.pickup pair.delivery (and_left (is_pair_served model lists p) _ one) in
    let many = length-map lists (without_pair pair) in
    let known = facts.vehicle in
    let set = times_set x rest w (with_pair pair s t (route rest w)) (omega (arith, many, known)) in
    let put = pair_times x (route rest w) s t pair.pickup pair.delivery facts.order in
    elim (here_or_later x pair.pickup) [
      | inl same ↦ (let one = same.1 in
          times_active later x (omega (arith, set, put, one)) ∙ sym (subst (λ y. IsTrue (is_active lists y)) (sym same.0) served.0))
      | inr other ↦ elim (here_or_later x pair.delivery) [
        | inl same ↦ (let one = same.1 in
            times_active later x (omega (arith, set, put, one)) ∙ sym (subst (λ y. IsTrue (is_active lists y)) (sym same.0) served.1))
        | inr too ↦ (
            let often = as_often_without pair x (other_kept pair x other too) lists in
            same_tests (is_active later x) (is_active lists x)
            (λ h. let some = active_times later x h in times_active lists x (omega (arith, set, put, often, other, too, some)))
            (λ h. let some = active_times lists x h in times_active later x (omega (arith, set, put, often, other, too, some))))
      ]
    ]

-- the same visits are active after a move that puts visits or a pair elsewhere
pub stay_active : (model : Model) (lists : List (List ℕ)) (mv : Move) → IsTrue (is_move model lists mv)
    → changes_activity (kind_of mv) ≡ false → is_active (apply model lists mv) ≡ is_active lists
stay_active model lists (RelocatePair p w s t) one low = λ i x. pair_active model lists p w s t one x i
stay_active model lists (TwoOpt v a b) one low = same_active model lists (TwoOpt v a b) one refl
stay_active model lists (OrOpt v a k t) one low = same_active model lists (OrOpt v a k t) one refl
stay_active model lists (Relocate v a w t) one low = same_active model lists (Relocate v a w t) one refl
stay_active model lists (Exchange v a w b) one low = same_active model lists (Exchange v a w b) one refl
stay_active model lists (Cross v a w b) one low = same_active model lists (Cross v a w b) one refl
stay_active model lists other one still = absurd (false≢true (sym still))
