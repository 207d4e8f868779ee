-- What is kept of vehicles, one after another.
use Rattle.std.proofs.Common.{◌≡◌, ◌∙◌, ◌⊎◌, inl, inr, ℕ, ◌+◌, ◌<◌, ◌≤◌, Bool, true, false, List, [], ◌∷◌, ◌++◌, length, length-set, refl, ap, sym, subst}
use Rattle.std.proofs.Common.{arith}
use Rattle.std.specs.Prelude.{slice_set, slice_index_or, ℤ, ◌-ℤ◌, ◌≤ℤ◌, ◌<ℤ◌, ◌||◌, int_le}
use Rattle.std.proofs.lemmas.Int.{ints}
use Rattle.std.proofs.lemmas.Bool.{cases_lt}
use Rattle.std.proofs.lemmas.Bool.Decides.{eqb_tells}
use Rattle.std.proofs.lemmas.List.{get_or-set_same, get_or-set_other, get_or_append_left, get_or_push, get_or_default}
use Rattle.vr_model.specs.routes.Routes.{route}
use Rattle.vr_model.specs.moves.Moves.{with_route}
use Rattle.vr_model.proofs.routes.Lists.{route_set_same, route_set_other}
use Rattle.vr_model.specs.declared.records.Model.{Model}
use Rattle.vr_model.specs.tables.Numbers.{number_at, total_by}
use Rattle.vr_model.specs.tables.Tables.{dimension_at, vehicle_at, evaluator_number}
use Rattle.vr_model.specs.routes.Routes.{is_empty}
use Rattle.vr_model.specs.deciding.Testing.{or_right, test_of_le, le_of_test}
use Rattle.vr_model.proofs.tables.Tests.{fails}
use Rattle.vr_loads.specs.Loads.{value_of, taken, load_of, can_carry}
use Rattle.vr_loads.specs.declared.loads.Carried.{Carried}
use Rattle.vr_loads.specs.Kept.{nothing_carried, IsCarried, AreCarried}

module _ (model : Model) (d : ℕ) (lists : List (List ℕ)) where
  -- another list of one vehicle, and what is kept of it
  pub carried-put : (carried : List Carried) (v : ℕ) (list : List ℕ) (one : Carried)
      → AreCarried model d lists carried → v < length carried → IsCarried model d v list one
      → AreCarried model d (with_route lists v list) (slice_set carried v one)
  carried-put carried v list one are low new = record {
    many = length-set carried v one ∙ (are.many ∙ sym (length-set lists v list));
    each = λ u under. elim (eqb_tells u v) [
      | inl at ↦ subst (λ w. IsCarried model d w (route (with_route lists v list) w) (slice_index_or (slice_set carried v one) w nothing_carried)) (sym at.1)
          (subst (λ l. IsCarried model d v l (slice_index_or (slice_set carried v one) v nothing_carried))
          (sym (route_set_same lists v list (let n = are.many in omega (arith, low, n))))
          (subst (IsCarried model d v list) (sym (get_or-set_same carried v one nothing_carried low)) new))
      | inr other ↦
          subst (λ l. IsCarried model d u l (slice_index_or (slice_set carried v one) u nothing_carried)) (sym (route_set_other lists v u list other.1))
          (subst (IsCarried model d u (route lists u)) (sym (get_or-set_other carried v u one nothing_carried other.1))
          (are.each u (let l = length-set lists v list in omega (arith, under, l))))
    ];
  }

  -- what is kept of a vehicle, as it is found
  pub kept-at : (carried inside : List Carried) (v : ℕ) (one : Carried) → AreCarried model d lists carried
      → v < length lists → inside ≡ carried → one ≡ slice_index_or inside v one → IsCarried model d v (route lists v) one
  kept-at carried inside v one are low same is =
      subst (IsCarried model d v (route lists v))
      (sym (is ∙ (ap (λ l. slice_index_or l v one) same ∙ get_or_default carried v one nothing_carried (let n = are.many in omega (arith, low, n)))))
      (are.each v low)

  -- of two looks at it, the evaluator of the first and the room of the second
  pub kept-both : (carried inside : List Carried) (v : ℕ) (one two : Carried) → AreCarried model d lists carried
      → v < length lists → inside ≡ carried → one ≡ slice_index_or inside v one → two ≡ slice_index_or inside v two
      → (one.evaluator ≡ evaluator_number (dimension_at model d) v)
      × (two.room ≡ number_at (dimension_at model d).capacities v -ℤ taken model d v (vehicle_at model v).start)
  kept-both carried inside v one two are low same is also =
      ((kept-at carried inside v one are low same is).evaluator_is, (kept-at carried inside v two are low same also).room_is)

  -- what is kept of one vehicle more
  pub carried-more : (carried more : List Carried) (n : ℕ) (one : Carried) → length carried ≡ n
      → ((v : ℕ) → v < n → IsCarried model d v (route lists v) (slice_index_or carried v nothing_carried))
      → IsCarried model d n (route lists n) one → more ≡ carried ++ one ∷ [] → (v : ℕ)
      → v < n + 1 → IsCarried model d v (route lists v) (slice_index_or more v nothing_carried)
  carried-more carried more n one many all new is v under =
      subst (λ l. IsCarried model d v (route lists v) (slice_index_or l v nothing_carried)) (sym is) (go (cases_lt v n))
    where
      go : (v < n) ⊎ (n ≤ v) → IsCarried model d v (route lists v) (slice_index_or (carried ++ one ∷ []) v nothing_carried)
      go (inl less) =
          subst (IsCarried model d v (route lists v)) (sym (get_or_append_left carried (one ∷ []) nothing_carried v (omega (arith, less, many)))) (all v less)
      go (inr high) =
          let here : n ≡ v = omega (arith, high, under) in
          subst (IsCarried model d v (route lists v)) (sym (get_or_push carried one nothing_carried v (many ∙ here)))
          (subst (λ w. IsCarried model d w (route lists w) one) here new)

-- what the sum along a list says of its vehicle
module _ (model : Model) (d v : ℕ) (list : List ℕ) (e : ℕ) (sum room : ℤ) (number : e ≡ evaluator_number (dimension_at model d) v)
    (room_is : room ≡ number_at (dimension_at model d).capacities v -ℤ taken model d v (vehicle_at model v).start)
    (sum_is : sum ≡ total_by (value_of model d e) list) where
  whole : sum ≡ total_by (taken model d v) list
  whole = sum_is ∙ ap (λ k. total_by (value_of model d k) list) number

  pub carries : sum ≤ℤ room → can_carry model d v list ≡ true
  carries le = or_right (is_empty list) (int_le (load_of model d v list) (number_at (dimension_at model d).capacities v))
      (test_of_le (load_of model d v list) (number_at (dimension_at model d).capacities v) (let w = whole in omega (arith, ints, w, room_is, le)))

  pub carries-nothing : room <ℤ sum → can_carry model d v list ≡ is_empty list
  carries-nothing more =
      ap (λ b. is_empty list || b) (fails (int_le (load_of model d v list) (number_at (dimension_at model d).capacities v))
      (λ t. let l = le_of_test (load_of model d v list) (number_at (dimension_at model d).capacities v) t in
      let w = whole in omega (arith, ints, l, w, room_is, more)))
      ∙ alone (is_empty list)
    where
      alone : (b : Bool) → (b || false) ≡ b
      alone true = refl
      alone false = refl
