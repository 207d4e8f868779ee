-- The visits that a change changes, part by part.
use Rattle.std.proofs.Common.{◌≡◌, ℕ, ◌<◌, Bool, true, false, not, List, [], ◌∷◌, length, refl, sym, ap, subst, inl, inr, arith}
use Rattle.std.specs.Prelude.{IsTrue, ◌||◌, ◌==◌}
use Rattle.std.specs.List.{list_all, list_any}
use Rattle.vr_model.specs.deciding.Testing.{and_both, and_left, and_right, any_place, eq_of_test, or_cases, or_left, or_right, range_list_any, test_of_eq}
use Rattle.vr_model.specs.tables.Numbers.{below}
use Rattle.vr_model.specs.tables.Tables.{vehicle_at, visits}
use Rattle.vr_model.specs.routes.Routes.{holds, route}
use Rattle.vr_model.specs.declared.records.Model.{Model}
use Rattle.vr_model.proofs.tables.Members.{In, of_filter, to_filter}
use Rattle.vr_model.proofs.tables.Tests.{clash, same_tests}
use Rattle.vr_routes.specs.Changes.{AreParts}
use Rattle.vr_routes.specs.Pieces.{ListAfter, changed, joined, no_part, part_at}
use Rattle.vr_routes.proofs.PartLemmas.{part_is, part_or_before}
use Rattle.vr_tabu.specs.Changed.{changed_visits, is_changed, is_changed_in}
use Rattle.vr_tabu.specs.Parts.{OldAndNew, change_of, changes, frees, is_freed}
use Rattle.vr_tabu.specs.TabuSearches.{TabuList, is_tabu, is_tabu_visit}
use Rattle.vr_tabu.proofs.BeforeLemmas.{unchanged_where_absent, unchanged_where_same}

-- ---- members of a list, and tests

pub in_of_held : (xs : List ℕ) (x : ℕ) → IsTrue (holds xs x) → In xs x
in_of_held [] x h = absurd (clash false h refl)
in_of_held (y ∷ ys) x h = elim (or_cases (x == y) _ h) [ inl here ↦ inl (eq_of_test x y here) | inr later ↦ inr (in_of_held ys x later) ]

any_in : (test : ℕ → Bool) (xs : List ℕ) → IsTrue (list_any test xs) → (x : ℕ) × IsTrue (holds xs x) × IsTrue (test x)
any_in test [] h = absurd (clash false h refl)
any_in test (y ∷ ys) h = elim (or_cases (test y) _ h) [
  | inl here ↦ (y, or_left (y == y) _ (test_of_eq y y refl), here)
  | inr later ↦ (let r = any_in test ys later in (r.0, or_right (r.0 == y) _ r.1, r.2))
]

in_any : (test : ℕ → Bool) (xs : List ℕ) (x : ℕ) → IsTrue (holds xs x) → IsTrue (test x) → IsTrue (list_any test xs)
in_any test [] x h t = absurd (clash false h refl)
in_any test (y ∷ ys) x h t = elim (or_cases (x == y) _ h) [
  | inl here ↦ or_left (test y) _ (subst (λ z. IsTrue (test z)) (eq_of_test x y here) t)
  | inr later ↦ or_right (test y) _ (in_any test ys x later t)
]

all_in : (test : ℕ → Bool) (xs : List ℕ) (x : ℕ) → IsTrue (list_all test xs) → In xs x → IsTrue (test x)
all_in test [] x h i = absurd i
all_in test (y ∷ ys) x h (inl e) = subst (λ z. IsTrue (test z)) (sym e) (and_left (test y) (list_all test ys) h)
all_in test (y ∷ ys) x h (inr i) = all_in test ys x (and_right (test y) (list_all test ys) h) i

in_all : (test : ℕ → Bool) (xs : List ℕ) → ((x : ℕ) → In xs x → IsTrue (test x)) → IsTrue (list_all test xs)
in_all test [] each = refl
in_all test (y ∷ ys) each = and_both (test y) (list_all test ys) (each y (inl refl)) (in_all test ys (λ x i. each x (inr i)))

-- a visit that is changed stands in the old list or in the new one
pub changed_stands : (list : OldAndNew) (visit : ℕ) → IsTrue (changes list visit) → (holds list.new visit || holds list.old visit) ≡ true
changed_stands list visit c = by (holds list.new visit) (holds list.old visit) refl refl
  where
    by : (a b : Bool) → holds list.new visit ≡ a → holds list.old visit ≡ b → (a || b) ≡ true
    by true b e f = refl
    by false true e f = refl
    by false false e f = absurd (clash (changes list visit) c (unchanged_where_absent list.start list.old list.new visit f e))

-- a change of one list frees a visit that it changes and that is not tabu
pub frees_where : (tabus : TabuList) (list : OldAndNew) (visit : ℕ)
    → is_tabu_visit tabus visit ≡ false → IsTrue (changes list visit) → IsTrue (frees tabus list)
frees_where tabus list visit free c = elim (or_cases (holds list.new visit) _ (changed_stands list visit c)) [
  | inl new ↦ or_left (list_any (is_freed tabus list) list.new) _ (in_any (is_freed tabus list) list.new visit new freed)
  | inr old ↦ or_right (list_any (is_freed tabus list) list.new) _ (in_any (is_freed tabus list) list.old visit old freed)
]
  where
    freed : IsTrue (is_freed tabus list visit)
    freed = and_both (not (is_tabu_visit tabus visit)) (changes list visit) (ap not free) c

-- where a change of one list frees, it changes a visit of either list that is not tabu
pub record IsFreed (tabus : TabuList) (list : OldAndNew) : Type 0 where
  pub visit : ℕ
  pub stands : (holds list.new visit || holds list.old visit) ≡ true
  pub free : is_tabu_visit tabus visit ≡ false
  pub changed : IsTrue (changes list visit)

pub freed_where : (tabus : TabuList) (list : OldAndNew) → IsTrue (frees tabus list) → IsFreed tabus list
freed_where tabus list h = elim (or_cases (list_any (is_freed tabus list) list.new) _ h) [
  | inl new ↦ (let r = any_in (is_freed tabus list) list.new new in of r.0 (or_left (holds list.new r.0) _ r.1) r.2)
  | inr old ↦ (let r = any_in (is_freed tabus list) list.old old in of r.0 (or_right (holds list.new r.0) _ r.1) r.2)
]
  where
    not_true : (b : Bool) → IsTrue (not b) → b ≡ false
    not_true true n = absurd (clash false n refl)
    not_true false n = refl

    of : (x : ℕ) → (holds list.new x || holds list.old x) ≡ true → IsTrue (is_freed tabus list x) → IsFreed tabus list
    of x s f = record {
      visit = x;
      stands = s;
      free = not_true (is_tabu_visit tabus x) (and_left (not (is_tabu_visit tabus x)) (changes list x) f);
      changed = and_right (not (is_tabu_visit tabus x)) (changes list x) f;
    }

-- ---- the parts of a change

module _ (model : Model) (lists : List (List ℕ)) (parts : List ListAfter) (are : AreParts lists parts) where
  abbrev after : List (List ℕ)
  after = changed lists parts

  abbrev changed_by : ℕ → ℕ → Bool
  changed_by visit k = changes (change_of model lists parts k) visit

  abbrev changed_for : ℕ → ℕ → Bool
  changed_for visit v = is_changed_in (vehicle_at model v).start (route lists v) (route after v) visit

  -- a visit is changed where some part changes it
  pub changed_by_parts : (visit : ℕ) → list_any (changed_by visit) (below (length parts)) ≡ is_changed model lists after visit
  changed_by_parts visit = same_tests _ _ to from
    where
      to : IsTrue (list_any (changed_by visit) (below (length parts))) → IsTrue (is_changed model lists after visit)
      to h =
          let r = any_place (changed_by visit) 0 (length parts) h in
          let k = r.0 in
          let low : k < length parts = (let high = r.2 in omega (arith, high)) in
          let v = (part_at parts k).vehicle in
          range_list_any (changed_for visit) 0 (length lists) v (omega arith) (let there = vehicle_low k low in omega (arith, there))
          (subst (λ list. IsTrue (is_changed_in (vehicle_at model v).start (route lists v) list visit)) (sym (part_is lists parts are k low)) r.3)
        where
          vehicle_low : (k : ℕ) → k < length parts → (part_at parts k).vehicle < length lists
          vehicle_low k low = are.each_vehicle k no_part low

      from : IsTrue (is_changed model lists after visit) → IsTrue (list_any (changed_by visit) (below (length parts)))
      from h =
          let r = any_place (changed_for visit) 0 (length lists) h in
          let v = r.0 in
          elim (part_or_before lists parts are v (let high = r.2 in omega (arith, high))) [
            | inl m ↦ range_list_any (changed_by visit) 0 (length parts) m.0 (omega arith) (let low = m.1 in omega (arith, low))
                (subst (λ w. IsTrue (is_changed_in (vehicle_at model w).start (route lists w) (joined lists (part_at parts m.0).pieces) visit)) (sym m.2)
                (subst (λ list. IsTrue (is_changed_in (vehicle_at model v).start (route lists v) list visit)) m.3 r.3))
            | inr same ↦ absurd (clash (changed_for visit v) r.3 (unchanged_where_same (vehicle_at model v).start (route lists v) (route after v) visit same))
          ]

  abbrev pub free_by : TabuList → ℕ → Bool
  free_by tabus k = frees tabus (change_of model lists parts k)

  -- a change is tabu where no part of it frees a visit
  pub tabu_by_parts : (tabus : TabuList) → ((k : ℕ) → k < length parts → (visit : ℕ)
      → (holds (change_of model lists parts k).new visit || holds (change_of model lists parts k).old visit) ≡ true → In (visits model) visit)
      → is_tabu model tabus lists after ≡ not (list_any (free_by tabus) (below (length parts)))
  unfolding is_tabu
  tabu_by_parts tabus are_visits = same_tests _ _ to from
    where
      none : (b : Bool) → (IsTrue b → ⊥) → IsTrue (not b)
      none true never = absurd (never refl)
      none false never = refl

      to : IsTrue (list_all (is_tabu_visit tabus) (changed_visits model lists after)) → IsTrue (not (list_any (free_by tabus) (below (length parts))))
      to h = none (list_any (free_by tabus) (below (length parts))) λ some.
          let r = any_place (free_by tabus) 0 (length parts) some in
          let k = r.0 in
          let low : k < length parts = (let high = r.2 in omega (arith, high)) in
          let f = freed_where tabus (change_of model lists parts k) r.3 in
          let changed_one = subst IsTrue (changed_by_parts f.visit)
          (range_list_any (changed_by f.visit) 0 (length parts) k (omega arith) (omega (arith, low)) f.changed) in
          clash (is_tabu_visit tabus f.visit) (all_in (is_tabu_visit tabus) (changed_visits model lists after) f.visit h
          (to_filter (is_changed model lists after) (visits model) f.visit (are_visits k low f.visit f.stands) changed_one)) f.free

      from : IsTrue (not (list_any (free_by tabus) (below (length parts)))) → IsTrue (list_all (is_tabu_visit tabus) (changed_visits model lists after))
      from h = in_all (is_tabu_visit tabus) (changed_visits model lists after)
          λ visit i. by visit (of_filter (is_changed model lists after) (visits model) visit i).1 (is_tabu_visit tabus visit) refl
        where
          no_more : (b : Bool) → IsTrue (not b) → IsTrue b → ⊥
          no_more true n t = clash false n refl
          no_more false n t = clash false t refl

          by : (visit : ℕ) → IsTrue (is_changed model lists after visit) → (b : Bool) → is_tabu_visit tabus visit ≡ b → IsTrue (is_tabu_visit tabus visit)
          by visit c true e = e
          by visit c false e =
              let r = any_place (changed_by visit) 0 (length parts) (subst IsTrue (sym (changed_by_parts visit)) c) in
              absurd (no_more (list_any (free_by tabus) (below (length parts))) h
              (range_list_any (free_by tabus) 0 (length parts) r.0 (omega arith) (let high = r.2 in omega (arith, high))
              (frees_where tabus (change_of model lists parts r.0) visit e r.3)))
