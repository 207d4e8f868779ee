-- The pair that a node is in.
use Rattle.std.proofs.Common.{◌≡◌, ◌∙◌, inl, inr, ℕ, Bool, true, false, cond, List, [], ◌∷◌, refl, sym, ap, ap₂, subst}
use Rattle.std.specs.Prelude.{IsTrue, ◌||◌, ◌==◌, not, find, Some, None}
use Rattle.std.specs.List.{list_any}
use Rattle.std.proofs.lemmas.List.Concat.{flat_map-cons}
use Rattle.vr_model.specs.deciding.Testing.{and_left, and_right, or_cases, or_left, or_right, eq_of_test, test_of_eq}
use Rattle.vr_model.specs.declared.records.Model.{Model}
use Rattle.vr_model.specs.declared.records.Pair.{Pair}
use Rattle.vr_model.specs.declared.records.Policy.{Policy}
use Rattle.vr_model.specs.routes.Routes.{holds, is_distinct}
use Rattle.vr_model.specs.tables.Numbers.{each}
use Rattle.vr_model.specs.tables.WellFormed.{pair_nodes}
use Rattle.vr_model.proofs.routes.Lists.{is_distinct-right}
use Rattle.vr_model.proofs.tables.Members.{In}
use Rattle.vr_model.proofs.tables.Tests.{clash, eq_turned, fails, fails_not, or-false_left, or-false_right}
use Rattle.vr_pathfilters.specs.Replaced.{is_in_turn_if_any}
use Rattle.vr_pathfilters.specs.Turns.{is_in_turn}

-- a node is one of a pair
abbrev pub is_of : ℕ → Pair → Bool
is_of x pair = (pair.pickup == x) || (pair.delivery == x)

-- a node of one of some pairs is a node of them
held_in : (pairs : List Pair) (pair : Pair) (x : ℕ) → In pairs pair → IsTrue (is_of x pair) → IsTrue (holds (each pairs pair_nodes) x)
held_in [] pair x among of = absurd among
held_in (q ∷ qs) pair x (inl e) of =
    subst (λ xs. IsTrue (holds xs x)) (sym (flat_map-cons pair_nodes q qs))
    (elim (or_cases (pair.pickup == x) (pair.delivery == x) of) [
      | inl h ↦ or_left (x == q.pickup) ((x == q.delivery) || holds (each qs pair_nodes) x)
          (subst (λ (p : Pair). IsTrue (x == p.pickup)) e (eq_turned x pair.pickup ∙ h))
      | inr h ↦ or_right (x == q.pickup) ((x == q.delivery) || holds (each qs pair_nodes) x)
          (or_left (x == q.delivery) (holds (each qs pair_nodes) x) (subst (λ (p : Pair). IsTrue (x == p.delivery)) e (eq_turned x pair.delivery ∙ h)))
    ])
held_in (q ∷ qs) pair x (inr more) of =
    subst (λ xs. IsTrue (holds xs x)) (sym (flat_map-cons pair_nodes q qs))
    (or_right (x == q.pickup) ((x == q.delivery) || holds (each qs pair_nodes) x)
    (or_right (x == q.delivery) (holds (each qs pair_nodes) x) (held_in qs pair x more of)))

-- among pairs of distinct nodes, the pair of a node is the one that has it
pub pair_found : (pairs : List Pair) (pair : Pair) (x : ℕ) → IsTrue (is_distinct (each pairs pair_nodes))
    → In pairs pair → IsTrue (is_of x pair) → find (is_of x) pairs ≡ Some pair
pair_found [] pair x distinct among of = absurd among
pair_found (q ∷ qs) pair x distinct (inl e) of =
    ap (λ b. cond b (Some q) (find (is_of x) qs)) (subst (λ p. IsTrue (is_of x p)) e of) ∙ ap Some (sym e)
pair_found (q ∷ qs) pair x distinct (inr more) of =
    ap (λ b. cond b (Some q) (find (is_of x) qs)) other ∙ pair_found qs pair x
    (and_right (not (holds rest q.delivery)) (is_distinct rest) (and_right (not ((q.pickup == q.delivery) || holds rest q.pickup)) _ both)) more of
  where
    rest : List ℕ
    rest = each qs pair_nodes

    both : IsTrue (is_distinct (q.pickup ∷ q.delivery ∷ rest))
    both = subst (λ xs. IsTrue (is_distinct xs)) (flat_map-cons pair_nodes q qs) distinct

    there : IsTrue (holds rest x)
    there = held_in qs pair x more of

    no_pickup : (q.pickup == x) ≡ false
    no_pickup = fails (q.pickup == x) (λ h. clash (holds rest q.pickup) (subst (λ y. IsTrue (holds rest y)) (sym (eq_of_test q.pickup x h)) there)
        (or-false_right (q.pickup == q.delivery) (holds rest q.pickup)
        (fails_not ((q.pickup == q.delivery) || holds rest q.pickup) (and_left (not ((q.pickup == q.delivery) || holds rest q.pickup)) _ both))))

    no_delivery : (q.delivery == x) ≡ false
    no_delivery = fails (q.delivery == x) (λ h. clash (holds rest q.delivery) (subst (λ y. IsTrue (holds rest y)) (sym (eq_of_test q.delivery x h)) there)
        (fails_not (holds rest q.delivery)
        (and_left (not (holds rest q.delivery)) (is_distinct rest) (and_right (not ((q.pickup == q.delivery) || holds rest q.pickup)) _ both))))

    other : is_of x q ≡ false
    other = ap₂ (λ a b. a || b) no_pickup no_delivery

-- what each pair of a node would pass, the one that is found passes
pub found_turns : (model : Model) (policy : Policy) (list : List ℕ) (x : ℕ) (pairs : List Pair)
    → ((pair : Pair) → In pairs pair → IsTrue (is_of x pair) → IsTrue (is_in_turn model policy list pair))
    → IsTrue (is_in_turn_if_any model policy list (find (is_of x) pairs))
found_turns model policy list x [] each_one = refl
found_turns model policy list x (pair ∷ pairs) each_one = by (is_of x pair) refl (found_turns model policy list x pairs (λ p among. each_one p (inr among)))
  where
    by : (b : Bool) → is_of x pair ≡ b → IsTrue (is_in_turn_if_any model policy list (find (is_of x) pairs))
        → IsTrue (is_in_turn_if_any model policy list (cond b (Some pair) (find (is_of x) pairs)))
    by true is rest = each_one pair (inl refl) is
    by false is rest = rest

-- a test that one of some passes
pub any_of : (f : Pair → ℕ) (pairs : List Pair) (pair : Pair) → In pairs pair → IsTrue (list_any (λ p. f p == f pair) pairs)
any_of f [] pair among = absurd among
any_of f (q ∷ qs) pair (inl e) = or_left (f q == f pair) (list_any (λ p. f p == f pair) qs) (test_of_eq (f q) (f pair) (ap f (sym e)))
any_of f (q ∷ qs) pair (inr more) = or_right (f q == f pair) (list_any (λ p. f p == f pair) qs) (any_of f qs pair more)

-- the pair that passes it
pub one_with : (f : Pair → ℕ) (pairs : List Pair) (x : ℕ) → IsTrue (list_any (λ pair. f pair == x) pairs) → (pair : Pair) × In pairs pair × (f pair ≡ x)
one_with f [] x h = absurd (clash false h refl)
one_with f (q ∷ qs) x h = elim (or_cases (f q == x) (list_any (λ pair. f pair == x) qs) h) [
  | inl here ↦ (q, inl refl, eq_of_test (f q) x here)
  | inr later ↦ (let r = one_with f qs x later in (r.0, inr r.1, r.2))
]

-- the pair that is found is one of all, and passes
pub found_in : (test : Pair → Bool) (pairs : List Pair) (pair : Pair) → find test pairs ≡ Some pair → In pairs pair × IsTrue (test pair)
found_in test [] pair e = absurd (let no : None ≡ Some pair → ⊥ = λ h. Prim.cc in no e)
found_in test (q ∷ qs) pair e = by (test q) refl e (found_in test qs pair)
  where
    by : (b : Bool) → test q ≡ b → cond b (Some q) (find test qs) ≡ Some pair
        → (find test qs ≡ Some pair → In qs pair × IsTrue (test pair)) → In (q ∷ qs) pair × IsTrue (test pair)
    by true is same later = let is_it : q ≡ pair = Prim.cc in (inl (sym is_it), subst (λ p. IsTrue (test p)) is_it is)
    by false is same later = let r = later same in (inr r.0, r.1)

-- the nodes of a pair are two
pub two_nodes : (pairs : List Pair) (pair : Pair) → IsTrue (is_distinct (each pairs pair_nodes)) → In pairs pair → (pair.pickup == pair.delivery) ≡ false
two_nodes [] pair distinct among = absurd among
two_nodes (q ∷ qs) pair distinct (inl e) =
    let both = subst (λ xs. IsTrue (is_distinct xs)) (flat_map-cons pair_nodes q qs) distinct in
    subst (λ (p : Pair). (p.pickup == p.delivery) ≡ false) (sym e)
    (or-false_left (q.pickup == q.delivery) (holds (each qs pair_nodes) q.pickup)
    (fails_not (holds (q.delivery ∷ each qs pair_nodes) q.pickup)
    (and_left (not (holds (q.delivery ∷ each qs pair_nodes) q.pickup)) (is_distinct (q.delivery ∷ each qs pair_nodes)) both)))
two_nodes (q ∷ qs) pair distinct (inr more) =
    two_nodes qs pair
    (is_distinct-right (pair_nodes q) (each qs pair_nodes) (subst (λ xs. IsTrue (is_distinct xs)) (flat_map-cons pair_nodes q qs) distinct)) more
