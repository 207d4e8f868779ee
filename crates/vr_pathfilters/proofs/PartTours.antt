-- Single lists of tours, before a change and after it, and rules of single lists.
use Rattle.std.proofs.Common.{◌≡◌, ◌≢◌, ◌⊎◌, inl, inr, ℕ, suc, ◌+◌, ◌<◌, Bool, true, false, List, [], ◌∷◌, length, get_or, refl, sym, ap, subst, arith}
use Rattle.std.specs.Prelude.{IsTrue, ◌==◌, not}
use Rattle.std.specs.List.{list_all}
use Rattle.std.proofs.lemmas.Bool.{cases_lt}
use Rattle.vr_model.specs.deciding.Testing.{and_both, or_cases, list_all_range, range_list_all, eq_of_test}
use Rattle.vr_model.proofs.tables.Tests.{clash, fails}
use Rattle.vr_model.specs.tables.Tables.{visits, is_visit}
use Rattle.vr_model.specs.tables.Numbers.{below}
use Rattle.vr_model.specs.routes.Routes.{route, holds, is_active, is_distinct}
use Rattle.vr_model.specs.declared.records.Model.{Model}
use Rattle.vr_model.proofs.tables.Members.{In, of_filter}
use Rattle.vr_routes.specs.Seats.{IsOnce, IsSeat}
use Rattle.vr_routes.specs.Tours.{Tours}
use Rattle.vr_routes.specs.Pieces.{ListAfter, joined, changed, part_at, no_part}
use Rattle.vr_routes.specs.Changes.{IsMadeOn, AreParts, after}
use Rattle.vr_routes.proofs.SeatLemmas.{active_at}
use Rattle.vr_model.proofs.routes.Lists.{place_of_held}
use Rattle.vr_routes.proofs.CommitLemmas.{as_many_lists}
use Rattle.vr_routes.proofs.PartLemmas.{part_is, part_or_before}
use Rattle.vr_reach.specs.Lists.{IsTour}
use Rattle.vr_pathfilters.specs.Lists.{holds_of_each}
use Rattle.vr_pathfilters.specs.TourLists.{AreTours, KeepRule}
use Rattle.vr_pathfilters.proofs.AfterChanges.{tours_after}

in_of_held : (xs : List ℕ) (x : ℕ) → IsTrue (holds xs x) → In xs x
in_of_held [] x h = absurd (clash false h refl)
in_of_held (y ∷ ys) x h = elim (or_cases (x == y) (holds ys x) h) [ inl e ↦ inl (eq_of_test x y e) | inr more ↦ inr (in_of_held ys x more) ]

visit_of_held : (model : Model) (x : ℕ) → IsTrue (holds (visits model) x) → IsTrue (is_visit model x)
visit_of_held model x h = (of_filter (is_visit model) (below model.nodes) x (in_of_held (visits model) x h)).1

pub all_by_place : (test : ℕ → Bool) (xs : List ℕ) → ((k : ℕ) → k < length xs → IsTrue (test (get_or xs k 0))) → IsTrue (list_all test xs)
all_by_place test [] each = refl
all_by_place test (x ∷ xs) each =
    and_both (test x) (list_all test xs) (each 0 (omega arith)) (all_by_place test xs (λ k low. each (suc k) (omega (arith, low))))

distinct_by_place : (xs : List ℕ) → ((i j : ℕ) → i < j → j < length xs → get_or xs i 0 ≢ get_or xs j 0) → IsTrue (is_distinct xs)
distinct_by_place [] apart = refl
distinct_by_place (x ∷ xs) apart =
    and_both (not (holds xs x)) (is_distinct xs)
    (ap not (fails (holds xs x) (λ h. let p = place_of_held xs x h in apart 0 (suc p.0) (omega arith) (let low = p.1 in omega (arith, low)) (sym p.2))))
    (distinct_by_place xs (λ i j order low. apart (suc i) (suc j) (omega (arith, order)) (omega (arith, low))))

-- lists that keep a rule are tours
pub kept_tours : {rule : Model → ℕ → List ℕ → Bool} {model : Model} {tours : Tours} → KeepRule rule model tours
    → IsOnce tours.lists → ((node : ℕ) → IsTrue (is_active tours.lists node) → IsTrue (holds tours.visits node)) → AreTours model tours
kept_tours kept once entries = record { visits_are = kept.visits_are; list_of_each = kept.list_of_each; once = once; entries = entries }

module _ (model : Model) (tours : Tours) (are : AreTours model tours) where
  -- each list is of distinct visits
  pub tour_of : (v : ℕ) → v < length tours.lists → IsTour model (route tours.lists v)
  tour_of v low = record {
    visits =
        all_by_place (is_visit model) list (λ k within. visit_of_held model (get_or list k 0) (subst (λ xs. IsTrue (holds xs (get_or list k 0))) are.visits_are
        (are.entries (get_or list k 0) (active_at tours.lists (get_or list k 0) v k low within refl))));
    distinct = distinct_by_place list
        (λ i j order within e. let k = (are.once (get_or list j 0) v i v j (seat i (omega (arith, order, within)) e) (seat j within refl)).1 in
        omega (arith, order, k));
  }
    where
      list : List ℕ
      list = route tours.lists v

      seat : (k : ℕ) → k < length list → {x : ℕ} → get_or list k 0 ≡ x → IsSeat tours.lists x v k
      seat k within e = record { vehicle = low; place = within; found = e }

-- the list of a part is one of distinct visits
pub tour_of_part : (model : Model) (tours : Tours) → AreTours model tours → (parts : List ListAfter)
    → IsMadeOn tours parts → (k : ℕ) → k < length parts → IsTour model (joined tours.lists (part_at parts k).pieces)
tour_of_part model tours are parts made k low =
    let n = as_many_lists tours.lists parts in
    let h = made.makes.parts_are.each_vehicle k no_part low in
    subst (IsTour model) (part_is tours.lists parts made.makes.parts_are k low)
    (tour_of model (after tours parts) (tours_after model tours are parts made) (part_at parts k).vehicle (omega (arith, n, h)))

-- a rule of each list, for one of them, and from all of them
pub rule_at : (rule : ℕ → List ℕ → Bool) (lists : List (List ℕ))
    → IsTrue (holds_of_each rule lists) → (v : ℕ) → v < length lists → IsTrue (rule v (route lists v))
rule_at rule lists all v low = list_all_range (λ v. rule v (route lists v)) 0 (length lists) all v (omega arith) (omega (arith, low))

pub rule_of_all : (rule : ℕ → List ℕ → Bool) (lists : List (List ℕ))
    → ((v : ℕ) → v < length lists → IsTrue (rule v (route lists v))) → IsTrue (holds_of_each rule lists)
rule_of_all rule lists each = range_list_all (λ v. rule v (route lists v)) 0 (length lists) (λ v low within. each v (omega (arith, within)))

-- a rule holds of the lists of the parts before place k of a change
abbrev pub HoldsSoFar : (ℕ → List ℕ → Bool) → List (List ℕ) → List ListAfter → ℕ → Type 0
HoldsSoFar rule lists parts k = (j : ℕ) → j < k → IsTrue (rule (part_at parts j).vehicle (joined lists (part_at parts j).pieces))

-- and of that of part k too
pub holds_more : (rule : ℕ → List ℕ → Bool) (lists : List (List ℕ)) (parts : List ListAfter) (k : ℕ) → HoldsSoFar rule lists parts k
    → IsTrue (rule (part_at parts k).vehicle (joined lists (part_at parts k).pieces)) → HoldsSoFar rule lists parts (k + 1)
holds_more rule lists parts k before here j low = elim (cases_lt j k) [
  | inl earlier ↦ before j earlier
  | inr past ↦ (let e : k ≡ j = omega (arith, low, past) in subst (λ i. IsTrue (rule (part_at parts i).vehicle (joined lists (part_at parts i).pieces))) e here)
]

module _ (rule : ℕ → List ℕ → Bool) (lists : List (List ℕ)) (parts : List ListAfter) (are : AreParts lists parts) where
  -- the rule holds after a change where it held before and holds of each part
  pub holds_after : IsTrue (holds_of_each rule lists) → HoldsSoFar rule lists parts (length parts) → holds_of_each rule (changed lists parts) ≡ true
  holds_after before each = rule_of_all rule (changed lists parts)
      (λ v low. let n = as_many_lists lists parts in by v (omega (arith, low, n)) (part_or_before lists parts are v (omega (arith, low, n))))
    where
      by : (v : ℕ) → v < length lists
          → ((k : ℕ) × (k < length parts) × ((part_at parts k).vehicle ≡ v) × (route (changed lists parts) v ≡ joined lists (part_at parts k).pieces))
          ⊎ (route (changed lists parts) v ≡ route lists v)
          → IsTrue (rule v (route (changed lists parts) v))
      by v low (inl m) = subst (λ l. IsTrue (rule v l)) (sym m.3) (subst (λ w. IsTrue (rule w (joined lists (part_at parts m.0).pieces))) m.2 (each m.0 m.1))
      by v low (inr same) = subst (λ l. IsTrue (rule v l)) (sym same) (rule_at rule lists before v low)

  -- and it fails where it fails of a part
  pub fails_after : (k : ℕ) → k < length parts → rule (part_at parts k).vehicle (joined lists (part_at parts k).pieces) ≡ false
      → holds_of_each rule (changed lists parts) ≡ false
  fails_after k low failed =
      fails (holds_of_each rule (changed lists parts)) (λ all. clash (rule (part_at parts k).vehicle (joined lists (part_at parts k).pieces))
      (subst (λ l. IsTrue (rule (part_at parts k).vehicle l)) (part_is lists parts are k low)
      (rule_at rule (changed lists parts) all (part_at parts k).vehicle
      (let n = as_many_lists lists parts in let h = are.each_vehicle k no_part low in omega (arith, n, h)))) failed)
