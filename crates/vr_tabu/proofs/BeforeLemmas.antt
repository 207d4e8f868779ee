-- The node just before a visit of a list.
use Rattle.std.proofs.Common.{◌≡◌, ◌∙◌, ℕ, zero, suc, ◌-◌, ◌<◌, true, false, cond, not, List, [], ◌∷◌, length, Option, Some, None, refl, sym, ap, arith}
use Rattle.std.specs.Prelude.{IsTrue, ◌==◌, slice_index}
use Rattle.vr_model.specs.deciding.Testing.{and_left, and_right, test_of_eq}
use Rattle.vr_model.specs.routes.Routes.{holds, is_active, is_distinct, route}
use Rattle.vr_model.proofs.routes.Lists.{held_at, place_of_held}
use Rattle.vr_model.proofs.tables.Tests.{apart, clash, eq_turned, fails, fails_not, or-false_left, or-false_right}
use Rattle.vr_routes.specs.Seats.{IsOnce, IsSeat}
use Rattle.vr_routes.proofs.SeatLemmas.{active_at}
use Rattle.vr_tabu.specs.Changed.{node_just_before, is_same_node, is_changed_in}

-- the node just before a place of a list that begins behind a node
abbrev pub before_place : ℕ → List ℕ → ℕ → ℕ
before_place origin list zero = origin
before_place origin list (suc k) = slice_index list k

-- one entry more in front
behind : (x : ℕ) (xs : List ℕ) (k : ℕ) → before_place x xs k ≡ slice_index (x ∷ xs) k
behind x xs zero = refl
behind x xs (suc k) = refl

-- where no visit stands twice, a visit of a list comes behind the place before it
pub before_at : (origin : ℕ) (list : List ℕ) (k : ℕ) → k < length list → IsTrue (is_distinct list)
    → node_just_before origin list (slice_index list k) ≡ Some (before_place origin list k)
before_at origin [] k low d = absurd (omega (arith, low))
before_at origin (x ∷ xs) zero low d = ap (λ b. cond b (Some origin) (node_just_before x xs x)) (test_of_eq x x refl)
before_at origin (x ∷ xs) (suc k) low d =
    ap (λ b. cond b (Some origin) (node_just_before x xs (slice_index xs k))) other
    ∙ (before_at x xs k (omega (arith, low)) (and_right (not (holds xs x)) (is_distinct xs) d) ∙ ap (λ y. Some y) (behind x xs k))
  where
    other : (x == slice_index xs k) ≡ false
    other = apart x (slice_index xs k)
        (λ same. clash (holds xs x) (held_at xs x k (omega (arith, low)) (sym same)) (fails_not (holds xs x) (and_left (not (holds xs x)) (is_distinct xs) d)))

-- the first place, and a later one
pub before_first : (origin : ℕ) (list : List ℕ) (k : ℕ) → k < length list → IsTrue (is_distinct list)
    → k ≡ 0 → Some origin ≡ node_just_before origin list (slice_index list k)
before_first origin list zero low d e = sym (before_at origin list 0 low d)
before_first origin list (suc k) low d e = absurd (omega (arith, e))

pub before_later : (origin : ℕ) (list : List ℕ) (k : ℕ) → k < length list → IsTrue (is_distinct list)
    → 0 < k → Some (slice_index list (k - 1)) ≡ node_just_before origin list (slice_index list k)
before_later origin list zero low d some = absurd (omega (arith, some))
before_later origin list (suc k) low d some = ap (λ i. Some (slice_index list i)) (omega arith) ∙ sym (before_at origin list (suc k) low d)

-- a visit that does not stand in a list has no node before it
pub before_none : (origin : ℕ) (list : List ℕ) (visit : ℕ) → holds list visit ≡ false → node_just_before origin list visit ≡ None
before_none origin [] visit h = refl
before_none origin (x ∷ xs) visit h =
    ap (λ b. cond b (Some origin) (node_just_before x xs visit)) (eq_turned x visit ∙ or-false_left (visit == x) (holds xs visit) h)
    ∙ before_none x xs visit (or-false_right (visit == x) (holds xs visit) h)

-- a visit that stands in neither list is not changed
pub unchanged_where_absent : (start : ℕ) (old new : List ℕ) (visit : ℕ)
    → holds old visit ≡ false → holds new visit ≡ false → is_changed_in start old new visit ≡ false
unchanged_where_absent start old new visit h g =
    ap (λ a. not (is_same_node a (node_just_before start new visit))) (before_none start old visit h)
    ∙ ap (λ a. not (is_same_node None a)) (before_none start new visit g)

same_as_itself : (a : Option ℕ) → is_same_node a a ≡ true
same_as_itself None = refl
same_as_itself (Some x) = test_of_eq x x refl

-- nothing is changed in a list that stays
pub unchanged_where_same : (start : ℕ) (old new : List ℕ) (visit : ℕ) → new ≡ old → is_changed_in start old new visit ≡ false
unchanged_where_same start old new visit e =
    ap (λ list. not (is_same_node (node_just_before start old visit) (node_just_before start list visit))) e
    ∙ ap not (same_as_itself (node_just_before start old visit))

-- ---- lists in which a visit does not stand

-- that of a vehicle, where the visit is inactive
pub absent_where_inactive : (lists : List (List ℕ)) (visit v : ℕ) → is_active lists visit ≡ false → v < length lists → holds (route lists v) visit ≡ false
absent_where_inactive lists visit v none there = fails (holds (route lists v) visit) λ held.
    let at = place_of_held (route lists v) visit held in
    clash (is_active lists visit) (active_at lists visit v at.0 there at.1 at.2) none

-- that of a vehicle, where the visit stands in another list
pub absent_where_elsewhere : (lists : List (List ℕ)) (visit v w k : ℕ) → IsOnce lists
    → IsSeat lists visit w k → v < length lists → (w ≡ v → ⊥) → holds (route lists v) visit ≡ false
absent_where_elsewhere lists visit v w k once seat there other = fails (holds (route lists v) visit) λ held.
    let at = place_of_held (route lists v) visit held in
    other (once visit w k v at.0 seat (record { vehicle = there; place = at.1; found = at.2 })).0
