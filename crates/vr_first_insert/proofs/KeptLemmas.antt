-- What is known of items in lists.
use Rattle.std.proofs.Common.{◌≡◌, ◌∙◌, ◌<◌, ◌+◌, ℕ, zero, suc, List, [], Bool, true, false, Option, Some, None, refl}
use Rattle.std.proofs.Common.{ap, sym, subst, inl, inr, arith, length, length-set}
use Rattle.std.specs.Prelude.{map, not, replicate, slice_index_or, slice_set}
use Rattle.std.specs.List.{list_all}
use Rattle.std.proofs.lemmas.Bool.{cases_lt}
use Rattle.std.proofs.lemmas.Bool.Decides.{eqb_tells}
use Rattle.std.proofs.lemmas.Int.{ints}
use Rattle.std.proofs.lemmas.List.{get_or-set_same, get_or-set_other}
use Rattle.vr_model.specs.tables.Numbers.{from_to}
use Rattle.vr_model.specs.routes.Routes.{route}
use Rattle.vr_model.specs.moves.Moves.{with_route, gaps}
use Rattle.vr_model.specs.routes.Rules.{allows_vehicle, is_route_open}
use Rattle.vr_model.specs.declared.records.Model.{Model}
use Rattle.vr_model.proofs.routes.Lists.{route_set_other}
use Rattle.vr_model.proofs.tables.Members.{from_each, from_map, of_below, of_from_to}
use Rattle.vr_rules.specs.Placing.{item_nodes}
use Rattle.vr_rules.specs.declared.items.Item.{Item}
use Rattle.vr_rules.specs.declared.items.Item.TheVariants.{Visit, PickupAndDelivery}
use Rattle.vr_rules.specs.declared.items.Candidate.{Candidate}
use Rattle.vr_first_insert.specs.declared.choice.InsertionChoice.{InsertionChoice}
use Rattle.vr_first_insert.specs.declared.choice.Placing.TheVariants.{One, Two}
use Rattle.vr_first_insert.specs.declared.known_best.KnownItem.{KnownItem}
use Rattle.vr_first_insert.specs.declared.known_best.KnownItem.TheVariants.{Nothing, AtLeast, Best}
use Rattle.vr_model.proofs.tables.Tests.{clash}
use Rattle.vr_first_insert.specs.Kept.{best_of, candidate_at, is_settled, leaves_best, known_row}
use Rattle.vr_first_insert.specs.Kept.{AreCandidatesKnown, AreKnownRows, IsForgotten, IsCandidateKnown}
use Rattle.vr_first_insert.specs.Placings.{best_in, choices_in, key_of, may_improve, pair_choice, placed, visit_choice}
use Rattle.vr_first_insert.proofs.ReadyLemmas.{closed-by_vehicle, passed-closed}
use Rattle.vr_rules.proofs.LazyLeast.{untested}
use Rattle.vr_first_insert.proofs.BoundLemmas.{none-improves}
use Rattle.vr_first_insert.proofs.ToldLemmas.{best-merged, bound-passed_over}

-- an item of which the vehicle may not visit some node
pub item-closed : (model : Model) (v : ℕ) (list : List ℕ) (candidate : Candidate) (best : Option InsertionChoice) → is_route_open model v list ≡ true
    → list_all (allows_vehicle model v) (item_nodes candidate.item) ≡ false → best ≡ best_in model v list candidate best
item-closed model v list candidate best stands = by candidate.item
  where
    by : (item : Item) → list_all (allows_vehicle model v) (item_nodes item) ≡ false
        → best ≡ best_in model v list (record { item = item; class = candidate.class }) best
    by (Visit node) h = passed-closed model list best (choices_in model v list candidate.class (Visit node)) (λ choice there.
        from_map (visit_choice model v list candidate.class node) (gaps list) choice there (λ t low is.
        let l = of_below (suc (length list)) t low in
        ap (λ c. is_route_open model c.vehicle (placed list c.placing)) is ∙ closed-by_vehicle model v list (One node t) (omega (arith, l)) stands h))
    by (PickupAndDelivery pickup delivery) h =
        passed-closed model list best (choices_in model v list candidate.class (PickupAndDelivery pickup delivery)) (λ choice there.
        from_each (λ s. map (pair_choice model v list candidate.class pickup delivery s) (from_to s (suc (length list))))
        (gaps list) choice there (λ s s_in inner.
        from_map (pair_choice model v list candidate.class pickup delivery s) (from_to s (suc (length list))) choice inner (λ t t_in is.
        let b = of_from_to s (suc (length list)) t t_in in let from = b.0 in let high = b.1 in
        ap (λ c. is_route_open model c.vehicle (placed list c.placing)) is
        ∙ closed-by_vehicle model v list (Two pickup delivery s t) (omega (arith, from), omega (arith, high)) stands h)))

pub no-better : (b : Bool) → not b ≡ true → b ≡ false
no-better false h = refl
no-better true h = absurd (clash false h refl)

-- where what is known tells the best, it is so beside the best so far
pub settled-is : (model : Model) (v : ℕ) (list : List ℕ) (candidate : Candidate) (known : KnownItem) (best : Option InsertionChoice)
    → is_settled known candidate.class best ≡ true → IsCandidateKnown model v list candidate known → best_of known best ≡ best_in model v list candidate best
settled-is model v list candidate Nothing best h is = absurd (clash false h refl)
settled-is model v list candidate (AtLeast bound) best h is =
    bound-passed_over model v list candidate best bound.least is (no-better (may_improve best candidate.class bound.least) h)
settled-is model v list candidate (Best found) best h is = best-merged model v list candidate found best is

left-settled : (known : KnownItem) (class : ℕ) (best : Option InsertionChoice) → leaves_best known class best ≡ true → is_settled known class best ≡ true
left-settled Nothing class best h = h
left-settled (AtLeast bound) class best h = h
left-settled (Best None) class best h = refl
left-settled (Best (Some next)) class best h = refl

left-best : (known : KnownItem) (class : ℕ) (best : Option InsertionChoice) → leaves_best known class best ≡ true → best ≡ best_of known best
left-best Nothing class best h = refl
left-best (AtLeast bound) class best h = refl
left-best (Best None) class best h = refl
left-best (Best (Some next)) class best h =
    untested key_of best next true
    (none-improves best next.class next.increase (no-better (may_improve best next.class next.increase) h) next refl (omega (arith, ints)))

-- where what is known leaves the best so far as it is, that is the best beside it
pub left-is : (model : Model) (v : ℕ) (list : List ℕ) (candidate : Candidate) (known : KnownItem) (best : Option InsertionChoice)
    → leaves_best known candidate.class best ≡ true → IsCandidateKnown model v list candidate known → best ≡ best_in model v list candidate best
left-is model v list candidate known best h is =
    left-best known candidate.class best h
    ∙ settled-is model v list candidate known best (left-settled known candidate.class best h) is

-- what is known of one candidate is written
pub known-written : (model : Model) (v : ℕ) (list : List ℕ) (candidates : List Candidate) (row : List KnownItem) (i : ℕ) (known : KnownItem)
    → AreCandidatesKnown model v list candidates row → IsCandidateKnown model v list (candidate_at candidates i) known
    → AreCandidatesKnown model v list candidates (slice_set row i known)
known-written model v list candidates row i known are is = record {
  many = length-set row i known ∙ are.many;
  each = λ k low. elim (eqb_tells k i) [
    | inl same ↦ subst (λ u. IsCandidateKnown model v list (candidate_at candidates u) (slice_index_or (slice_set row i known) u Nothing)) (sym same.1)
        (subst (IsCandidateKnown model v list (candidate_at candidates i))
        (sym (get_or-set_same row i known Nothing (let m = are.many in let e = same.1 in omega (arith, low, m, e)))) is)
    | inr other ↦ subst (IsCandidateKnown model v list (candidate_at candidates k)) (sym (get_or-set_other row i k known Nothing other.1)) (are.each k low)
  ];
}

-- one row is written
pub row-written : (model : Model) (lists : List (List ℕ)) (candidates : List Candidate) (rows : List (List KnownItem)) (v : ℕ) (row : List KnownItem)
    → AreKnownRows model lists candidates rows
    → AreCandidatesKnown model v (route lists v) candidates row → AreKnownRows model lists candidates (slice_set rows v row)
row-written model lists candidates rows v row are is = record {
  many = length-set rows v row ∙ are.many;
  each = λ w low. elim (eqb_tells w v) [
    | inl same ↦ subst (λ u. AreCandidatesKnown model u (route lists u) candidates (known_row (slice_set rows v row) u)) (sym same.1)
        (subst (AreCandidatesKnown model v (route lists v) candidates)
        (sym (get_or-set_same rows v row [] (let m = are.many in let e = same.1 in omega (arith, low, m, e)))) is)
    | inr other ↦ subst (AreCandidatesKnown model w (route lists w) candidates) (sym (get_or-set_other rows v w row [] other.1)) (are.each w low)
  ];
}

-- one candidate more is forgotten
pub nothing-more : (row : List KnownItem) (i : ℕ) → i < length row → ((k : ℕ) → k < i → slice_index_or row k Nothing ≡ Nothing)
    → (k : ℕ) → k < i + 1 → slice_index_or (slice_set row i Nothing) k Nothing ≡ Nothing
nothing-more row i there done k low = elim (cases_lt k i) [
  | inl earlier ↦ get_or-set_other row i k Nothing Nothing (λ e. omega (arith, earlier, e)) ∙ done k earlier
  | inr at ↦ (let e : i ≡ k = omega (arith, low, at) in
      subst (λ j. slice_index_or (slice_set row i Nothing) j Nothing ≡ Nothing) e (get_or-set_same row i Nothing Nothing there))
]

-- nothing is known of a list
known-nothing : (model : Model) (v : ℕ) (list : List ℕ) (candidates : List Candidate) (row : List KnownItem)
    → length row ≡ length candidates → ((i : ℕ) → slice_index_or row i Nothing ≡ Nothing) → AreCandidatesKnown model v list candidates row
known-nothing model v list candidates row many nothing = record {
  many = many;
  each = λ i low. subst (IsCandidateKnown model v list (candidate_at candidates i)) (sym (nothing i)) tt;
}

-- a list has changed, and nothing is known of it
pub rows-forgotten : (model : Model) (lists : List (List ℕ)) (candidates : List Candidate) (rows after : List (List KnownItem)) (v : ℕ) (list : List ℕ)
    → v < length lists → AreKnownRows model lists candidates rows
    → IsForgotten v rows after → AreKnownRows model (with_route lists v list) candidates after
rows-forgotten model lists candidates rows after v list there are is =
    subst (AreKnownRows model (with_route lists v list) candidates) (sym is.rows_are) (record {
      many = length-set rows v is.row ∙ are.many ∙ sym (length-set lists v list);
      each = λ w low. elim (eqb_tells w v) [
        | inl same ↦ subst (λ u. AreCandidatesKnown model u (route (with_route lists v list) u) candidates (known_row (slice_set rows v is.row) u)) (sym same.1)
            (subst (AreCandidatesKnown model v (route (with_route lists v list) v) candidates)
            (sym (get_or-set_same rows v is.row [] (let m = are.many in omega (arith, there, m))))
            (known-nothing model v (route (with_route lists v list) v) candidates is.row (is.many ∙ (are.each v there).many) is.nothing))
        | inr other ↦
            subst (λ l. AreCandidatesKnown model w l candidates (known_row (slice_set rows v is.row) w)) (sym (route_set_other lists v w list other.1))
            (subst (AreCandidatesKnown model w (route lists w) candidates) (sym (get_or-set_other rows v w is.row [] other.1))
            (are.each w (let m = length-set lists v list in omega (arith, low, m))))
      ];
    })

replicated : {A : Type 0} (n k : ℕ) (x d : A) → k < n → slice_index_or (replicate n x) k d ≡ x
replicated zero k x d low = absurd (omega (arith, low))
replicated (suc n) zero x d low = refl
replicated (suc n) (suc k) x d low = replicated n k x d (omega (arith, low))

many-replicated : {A : Type 0} (n : ℕ) (x : A) → length (replicate n x) ≡ n
many-replicated zero x = refl
many-replicated (suc n) x = ap suc (many-replicated n x)

-- nothing is known of any list
pub rows-begun : (model : Model) (lists : List (List ℕ)) (candidates : List Candidate) (vehicles : ℕ)
    → length lists ≡ vehicles → AreKnownRows model lists candidates (replicate vehicles (replicate (length candidates) Nothing))
rows-begun model lists candidates vehicles many = record {
  many = many-replicated vehicles (replicate (length candidates) Nothing) ∙ sym many;
  each = λ v low. subst (AreCandidatesKnown model v (route lists v) candidates)
      (sym (replicated vehicles v (replicate (length candidates) Nothing) [] (omega (arith, low, many))))
      (known-nothing model v (route lists v) candidates (replicate (length candidates) Nothing)
      (many-replicated (length candidates) Nothing) (nothing (length candidates)));
}
  where
    nothing : (n i : ℕ) → slice_index_or (replicate n Nothing) i Nothing ≡ Nothing
    nothing zero i = refl
    nothing (suc n) zero = refl
    nothing (suc n) (suc i) = nothing n i
