-- No rule on active visits, pairs or vehicles finds anything in valid lists.
use Rattle.std.proofs.Common.{◌≡◌, ◌∙◌, ℕ, zero, suc, ◌+◌, ◌<◌, ◌≤◌, Bool, true, false, cond, not, ◌&&◌, ◌||◌, List, [], ◌∷◌, length, filter, Option, None}
use Rattle.std.proofs.Common.{refl, sym, ap, subst, inl, inr, arith}
use Rattle.std.specs.Prelude.{IsTrue, slice_index_or}
use Rattle.std.specs.List.{list_all, range_with_len}
use Rattle.std.proofs.lemmas.Bool.{cases_lt}
use Rattle.vr_model.specs.tables.Numbers.{below}
use Rattle.vr_model.specs.tables.Tables.{is_visit, vehicle_at, pair_at}
use Rattle.vr_model.specs.deciding.Testing.{and_left, and_right, and_both, list_all_range}
use Rattle.vr_model.specs.routes.Routes.{route, holds, is_active, are_lists, vehicles}
use Rattle.vr_model.specs.routes.Rules.{is_valid, is_open, is_route_open, serves_pair, keeps_policy, policy_allows, allows_vehicle, is_grouped, fits_group}
use Rattle.vr_model.specs.routes.Rules.{has_enough, active_in, has_required}
use Rattle.vr_model.specs.schedules.Lines.{line}
use Rattle.vr_model.specs.schedules.Choices.{is_feasible}
use Rattle.vr_model.specs.declared.records.Model.{Model}
use Rattle.vr_model.specs.declared.records.Pair.{Pair}
use Rattle.vr_model.proofs.tables.Tests.{clash, all-from_list_all}
use Rattle.vr_check.specs.Findings.{spot, spot_of_none, spot_of_vehicle, where_wrong, earlier, first_finding}
use Rattle.vr_check.specs.Lists.{node_at}
use Rattle.vr_check.specs.Visits.{required_broken_at, required_broken, has_right_number, no_group, group_broken_at, group_broken}
use Rattle.vr_check.specs.Pairs.{is_served, pair_broken_at, pair_broken, policy_broken_in, policy_broken, allowed_broken_at, allowed_broken_in, allowed_broken}

-- ---- a rule that finds nothing

in_range : {B : Type 0} (f : ℕ → Option B) (a n : ℕ) → ((k : ℕ) → a ≤ k → k < a + n → f k ≡ None) → first_finding f (range_with_len a n) ≡ None
in_range f a zero h = refl
in_range f a (suc n) h = ap (λ o. earlier o (first_finding f (range_with_len (a + 1) n))) (h a (omega arith) (omega arith))
    ∙ in_range f (a + 1) n (λ k from low. h k (omega (arith, from)) (omega (arith, low)))

pub nothing : {B : Type 0} (f : ℕ → Option B) (n : ℕ) → ((k : ℕ) → k < n → f k ≡ None) → first_finding f (below n) ≡ None
nothing f n h = in_range f 0 n (λ k from low. h k (omega (arith, low)))

-- a test that passes is not wrong, wherever it would be said
pub right : (b : Bool) (v k : ℕ) → b ≡ true → where_wrong (not b) (spot v k) ≡ None
right b v k e = ap (λ b. where_wrong (not b) (spot v k)) e

pub right_place : (b : Bool) (k : ℕ) → b ≡ true → where_wrong (not b) (spot_of_none k) ≡ None
right_place b k e = ap (λ b. where_wrong (not b) (spot_of_none k)) e

right_vehicle : (b : Bool) (v : ℕ) → b ≡ true → where_wrong (not b) (spot_of_vehicle v) ≡ None
right_vehicle b v e = ap (λ b. where_wrong (not b) (spot_of_vehicle v)) e

-- ---- what valid lists keep

module _ (model : Model) (lists : List (List ℕ)) (valid : IsTrue (is_valid model lists)) where
  pub are : IsTrue (are_lists model lists)
  unfolding is_valid
  are = and_left (are_lists model lists) _ valid

  pub opened : IsTrue (is_open model lists)
  unfolding is_valid
  opened = and_left (is_open model lists) _ (and_right (are_lists model lists) _ valid)

  required : IsTrue (has_required model lists)
  unfolding is_valid
  required = and_left (has_required model lists) _ (and_right (is_open model lists) _ (and_right (are_lists model lists) _ valid))

  enough : IsTrue (list_all (λ group. has_enough group.penalty group.max (active_in lists group)) model.groups)
  unfolding is_valid
  enough = and_right (has_required model lists) _ (and_right (is_open model lists) _ (and_right (are_lists model lists) _ valid))

  fitting : IsTrue (list_all (fits_group lists) model.groups)
  unfolding is_open
  fitting = and_right (list_all (λ v. is_route_open model v (route lists v)) (vehicles lists)) _ opened

  pub open_at : (v : ℕ) → v < length lists → IsTrue (is_route_open model v (route lists v))
  unfolding is_open
  open_at v low = list_all_range (λ v. is_route_open model v (route lists v)) 0 (length lists)
      (and_left (list_all (λ v. is_route_open model v (route lists v)) (vehicles lists)) _ opened) v (omega arith) (omega (arith, low))

  pub nothing_required : required_broken model lists ≡ None
  nothing_required = nothing (required_broken_at model lists) model.nodes (λ node low. ap (λ b. where_wrong b (spot_of_none node))
      (missing (is_visit model node) (is_active lists node) (is_grouped model node)
      (λ visit. kept 0 model.nodes required node (omega arith) (omega (arith, low)) visit)))
    where
      kept : (a n : ℕ) → IsTrue (list_all (λ node. is_grouped model node || is_active lists node) (filter (is_visit model) (range_with_len a n)))
          → (node : ℕ) → a ≤ node → node < a + n → is_visit model node ≡ true
          → (is_grouped model node || is_active lists node) ≡ true
      kept a zero h node from low visit = absurd (omega (arith, from, low))
      kept a (suc n) h node from low visit = by (is_visit model a) refl h (kept (a + 1) n)
        where
          p : ℕ → Bool
          p node = is_grouped model node || is_active lists node

          rest : List ℕ
          rest = filter (is_visit model) (range_with_len (a + 1) n)

          by : (b : Bool) → is_visit model a ≡ b → IsTrue (list_all p (cond b (a ∷ rest) rest))
              → (IsTrue (list_all p rest) → (node : ℕ) → a + 1 ≤ node → node < (a + 1) + n → is_visit model node ≡ true → p node ≡ true) → p node ≡ true
          by true e t later = elim (cases_lt a node) [
            | inl next ↦ later (and_right (p a) _ t) node (omega (arith, next)) (omega (arith, low)) visit
            | inr first ↦ (let same : a ≡ node = omega (arith, first, from) in subst (λ i. p i ≡ true) same (and_left (p a) _ t))
          ]
          by false e t later = elim (cases_lt a node) [
            | inl next ↦ later t node (omega (arith, next)) (omega (arith, low)) visit
            | inr first ↦ (let same : node ≡ a = omega (arith, first, from) in absurd (clash (is_visit model a) (ap (is_visit model) (sym same) ∙ visit) e))
          ]

      missing : (visit active grouped : Bool) → (visit ≡ true → (grouped || active) ≡ true) → ((visit && not active) && not grouped) ≡ false
      missing false active grouped h = refl
      missing true true grouped h = refl
      missing true false true h = refl
      missing true false false h = absurd (clash false (h refl) refl)

  pub nothing_in_groups : group_broken model lists ≡ None
  nothing_in_groups =
      nothing (group_broken_at model lists) (length model.groups) (λ g low. right_place (has_right_number lists (slice_index_or model.groups g no_group)) g
      (and_both _ _ (all-from_list_all (fits_group lists) model.groups fitting g no_group low)
      (all-from_list_all (λ group. has_enough group.penalty group.max (active_in lists group)) model.groups enough g no_group low)))

  -- what a used list keeps
  pub nothing_in_pairs : pair_broken model lists ≡ None
  nothing_in_pairs = nothing (pair_broken_at model lists) (length model.pairs) (λ p low. right_place (is_served lists (pair_at model p)) p
      (each_list (λ list. serves_pair list (pair_at model p)) lists (λ v known. served v p low (route lists v) (open_at v known))))
    where
      each_list : (q : List ℕ → Bool) (ls : List (List ℕ)) → ((v : ℕ) → v < length ls → q (route ls v) ≡ true) → list_all q ls ≡ true
      each_list q [] h = refl
      each_list q (l ∷ ls) h = and_both (q l) _ (h 0 (omega arith)) (each_list q ls (λ v low. h (suc v) (omega (arith, low))))

      served : (v p : ℕ) → p < length model.pairs → (list : List ℕ) → IsTrue (is_route_open model v list) → serves_pair list (pair_at model p) ≡ true
      served v p low [] h = refl
      served v p low (x ∷ xs) h =
          let list : List ℕ = x ∷ xs in
          let rest = and_right (list_all (λ d. is_feasible (line model d v list)) (below (length model.dimensions))) _ h in
          all-from_list_all (serves_pair list) model.pairs (and_left (list_all (serves_pair list) model.pairs) _ rest) p _ low

  pub nothing_of_policies : policy_broken model lists ≡ None
  nothing_of_policies = nothing (policy_broken_in model lists) (length lists)
      (λ v low. right_vehicle (keeps_policy model v (route lists v)) v (kept v (route lists v) (open_at v low)))
    where
      no_pairs : (pairs : List Pair) → filter (λ pair. holds [] pair.pickup) pairs ≡ []
      no_pairs [] = refl
      no_pairs (p ∷ ps) = no_pairs ps

      kept : (v : ℕ) (list : List ℕ) → IsTrue (is_route_open model v list) → keeps_policy model v list ≡ true
      kept v [] h = ap (λ pairs. list_all (λ x. list_all (λ y. policy_allows (vehicle_at model v).policy [] x y) pairs) pairs) (no_pairs model.pairs)
      kept v (x ∷ xs) h =
          let list : List ℕ = x ∷ xs in
          let rest = and_right (list_all (λ d. is_feasible (line model d v list)) (below (length model.dimensions))) _ h in
          and_left (keeps_policy model v list) _ (and_right (list_all (serves_pair list) model.pairs) _ rest)

  pub nothing_of_vehicles : allowed_broken model lists ≡ None
  nothing_of_vehicles = nothing (allowed_broken_in model lists) (length lists) (λ v low.
      nothing (allowed_broken_at model v (route lists v)) (length (route lists v))
      (λ k here. right (allows_vehicle model v (node_at (route lists v) k)) v (k + 1)
      (all-from_list_all (allows_vehicle model v) (route lists v) (kept v (route lists v) (open_at v low)) k 0 here)))
    where
      kept : (v : ℕ) (list : List ℕ) → IsTrue (is_route_open model v list) → list_all (allows_vehicle model v) list ≡ true
      kept v [] h = refl
      kept v (x ∷ xs) h =
          let list : List ℕ = x ∷ xs in
          let rest = and_right (list_all (λ d. is_feasible (line model d v list)) (below (length model.dimensions))) _ h in
          and_right (keeps_policy model v list) _ (and_right (list_all (serves_pair list) model.pairs) _ rest)
