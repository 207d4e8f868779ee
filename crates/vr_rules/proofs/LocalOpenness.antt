-- Openness is local: where lists are open, they stay open with nodes added to one list exactly where that list is open
-- and the groups have room for these nodes.
use Rattle.std.proofs.Common.{◌≡◌, ◌∙◌, ◌<◌, ℕ, zero, suc, List, [], ◌∷◌, Bool, true, false, refl, ap, ap₂, sym, subst, arith, length}
use Rattle.std.specs.Prelude.{◌&&◌, ◌||◌, ◌==◌, count_by, nat_le}
use Rattle.std.specs.List.{list_all}
use Rattle.std.proofs.lemmas.Bool.{eqb-true}
use Rattle.std.proofs.lemmas.List.{length-set}
use Rattle.vr_model.specs.declared.records.Model.{Model}
use Rattle.vr_model.specs.routes.Routes.{route, holds, is_active}
use Rattle.vr_model.specs.moves.Moves.{with_route}
use Rattle.vr_model.specs.routes.Rules.{is_open, is_route_open}
use Rattle.vr_model.specs.deciding.Testing.{and_left, list_all_range, range_list_all}
use Rattle.vr_model.proofs.tables.Tests.{clash, fails}
use Rattle.vr_model.proofs.routes.Lists.{route_set_same, route_set_other}
use Rattle.vr_routes.specs.Tours.{are_routes_open}
use Rattle.vr_rules.specs.Openness.{OpennessIsLocal}

-- ---- the lists

-- what holds of the new list and of all old ones holds of each list
pub each-route : (P : List ℕ → Type 0) (lists : List (List ℕ)) (v : ℕ) (list : List ℕ) → v < length lists
    → P list → ((w : ℕ) → P (route lists w)) → (w : ℕ) → P (route (with_route lists v list) w)
each-route P lists v list low h others w = by (w == v) refl
  where
    by : (b : Bool) → (w == v) ≡ b → P (route (with_route lists v list) w)
    by true e =
        let same : v ≡ w = sym (eqb-true w v e) in
        subst (λ w. P (route (with_route lists v list) w)) same (subst P (sym (route_set_same lists v list low)) h)
    by false e = subst P (sym (route_set_other lists v w list (λ same. differ (same_test w v same) e))) (others w)
      where
        differ : {b : Bool} → b ≡ true → b ≡ false → ⊥
        differ t f = cc

        same_test : (a b : ℕ) → a ≡ b → (a == b) ≡ true
        same_test a b same = grind arith

open-local : (model : Model) (lists : List (List ℕ)) (v : ℕ) (list : List ℕ) → v < length lists → are_routes_open model lists ≡ true
    → are_routes_open model (with_route lists v list) ≡ is_route_open model v list
open-local model lists v list low all = by (is_route_open model v list) refl
  where
    count : length (with_route lists v list) ≡ length lists
    count = length-set lists v list

    by : (b : Bool) → is_route_open model v list ≡ b → are_routes_open model (with_route lists v list) ≡ b
    by true passes = range_list_all (λ w. is_route_open model w (route (with_route lists v list) w)) 0
        (length (with_route lists v list)) (λ w start end. each w (w == v) refl (omega (arith, end, count)))
      where
        each : (w : ℕ) (b : Bool) → (w == v) ≡ b → w < length lists → is_route_open model w (route (with_route lists v list) w) ≡ true
        each w true e low_w = let same : v ≡ w = sym (eqb-true w v e) in
            subst (λ w. is_route_open model w (route (with_route lists v list) w) ≡ true)
            same (ap (is_route_open model v) (route_set_same lists v list low) ∙ passes)
        each w false e low_w = ap (is_route_open model w) (route_set_other lists v w list (λ same. differ (same_test w v same) e))
            ∙ list_all_range (λ w. is_route_open model w (route lists w)) 0 (length lists) all w (omega arith) (omega (arith, low_w))
          where
            differ : {b : Bool} → b ≡ true → b ≡ false → ⊥
            differ t f = cc

            same_test : (a b : ℕ) → a ≡ b → (a == b) ≡ true
            same_test a b same = grind arith
    by false closed = fails _ (λ h. clash (is_route_open model v list)
        (sym (ap (is_route_open model v) (route_set_same lists v list low))
        ∙ list_all_range (λ w. is_route_open model w (route (with_route lists v list) w)) 0
        (length (with_route lists v list)) h v (omega arith) (omega (arith, low, count)))
        closed)

-- ---- the active nodes

swap-or : (a b c : Bool) → (a || (b || c)) ≡ (b || (a || c))
swap-or true true c = refl
swap-or true false c = refl
swap-or false b c = refl

or-or : (a b c : Bool) → ((a || b) || c) ≡ (a || (b || c))
or-or true b c = refl
or-or false b c = refl

-- the nodes that were added are active beside those that were
pub is_active-added : (lists : List (List ℕ)) (v : ℕ) (list nodes : List ℕ) (node : ℕ)
    → v < length lists → holds list node ≡ (holds nodes node || holds (route lists v) node)
    → is_active (with_route lists v list) node ≡ (holds nodes node || is_active lists node)
is_active-added [] v list nodes node low h = absurd (omega (arith, low))
is_active-added (l ∷ ls) zero list nodes node low h = ap (λ b. b || is_active ls node) h ∙ or-or (holds nodes node) (holds l node) (is_active ls node)
is_active-added (l ∷ ls) (suc v) list nodes node low h =
    ap (λ b. holds l node || b) (is_active-added ls v list nodes node (omega (arith, low)) h) ∙ swap-or (holds l node) (holds nodes node) (is_active ls node)

-- ---- both

pub is_open-local : OpennessIsLocal
unfolding is_open
is_open-local model lists v list nodes are_open low added =
    let same : (node : ℕ) → is_active (with_route lists v list) node ≡ is_active (nodes ∷ lists) node = λ node. is_active-added lists
    v list nodes node low (added node) in
    ap₂ (λ a b. a && b)
    (open-local model lists v list low (and_left (are_routes_open model lists) _ are_open))
    (ap (λ f. list_all f model.groups) (λ t group. nat_le (count_by (λ node. same node t) group.nodes) group.max))
