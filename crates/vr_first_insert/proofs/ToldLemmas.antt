-- What a search of a list tells that began with the best so far.
use Rattle.std.proofs.Common.{◌≡◌, ◌∙◌, ◌⊎◌, ℕ, suc, List, [], ◌∷◌, Bool, true, false, cond, Option, Some, None, ℤ, pos, ◌≤ℤ◌, refl, ap, sym, subst, inl, inr}
use Rattle.std.proofs.Common.{arith, length}
use Rattle.std.specs.Prelude.{◌&&◌, ◌||◌, IfSome, fold, int_lt, int_le, map, nat_lt, nat_le}
use Rattle.vr_model.specs.declared.records.Model.{Model}
use Rattle.vr_model.specs.first.Choosing.{better}
use Rattle.vr_model.specs.moves.Moves.{gaps}
use Rattle.vr_model.specs.routes.Rules.{is_route_open}
use Rattle.vr_model.specs.tables.Numbers.{from_to, is_lex_less}
use Rattle.vr_model.proofs.first.LexOrder.{less_self}
use Rattle.vr_model.proofs.tables.Members.{In, from_each, from_map, of_below, of_from_to}
use Rattle.vr_rules.specs.declared.items.Item.{Item}
use Rattle.vr_rules.specs.declared.items.Item.TheVariants.{Visit, PickupAndDelivery}
use Rattle.vr_rules.specs.declared.items.Candidate.{Candidate}
use Rattle.vr_rules.proofs.LazyLeast.{untested}
use Rattle.vr_first_insert.specs.declared.choice.InsertionChoice.{InsertionChoice}
use Rattle.vr_first_insert.specs.declared.known_best.KnownItem.{KnownItem}
use Rattle.vr_first_insert.specs.declared.known_best.KnownItem.TheVariants.{AtLeast, Best}
use Rattle.vr_first_insert.specs.Kept.{begun_with, best_of, known_by_search, AddsAtLeast, BestAddsAtLeast, IsCandidateKnown}
use Rattle.vr_first_insert.specs.Placings.{best_in, choices_in, key_of, may_improve, pair_choice, placed, tail_key, visit_choice, weigh}
use Rattle.vr_first_insert.proofs.BoundLemmas.{none-improves}
use Rattle.vr_first_insert.proofs.LeastMerged.{merged_best, weighed-merged}

-- ---- what all choices of a list have, the best has

weighed-has : (P : InsertionChoice → Type 0) (b : Bool) (best : Option InsertionChoice) (next : InsertionChoice)
    → IfSome best P → P next → IfSome (cond b (better key_of best next) best) P
weighed-has P false best next before is = before
weighed-has P true None next before is = is
weighed-has P true (Some best) next before is = by (is_lex_less (key_of next) (key_of best))
  where
    by : (b : Bool) → P (cond b next best)
    by true = is
    by false = before

best-has : (model : Model) (list : List ℕ) (P : InsertionChoice → Type 0) (best : Option InsertionChoice) (choices : List InsertionChoice)
    → IfSome best P → ((choice : InsertionChoice) → In choices choice → P choice) → IfSome (fold (weigh model list) best choices) P
best-has model list P best [] before each = before
best-has model list P best (c ∷ cs) before each =
    best-has model list P (weigh model list best c) cs
    (weighed-has P (is_route_open model c.vehicle (placed list c.placing)) best c before (each c (inl refl))) (λ d there. each d (inr there))

choice-class : (v : ℕ) (list : List ℕ) (model : Model) (class : ℕ) (item : Item) (choice : InsertionChoice)
    → In (choices_in model v list class item) choice → choice.class ≡ class
choice-class v list model class (Visit node) choice there =
    from_map (visit_choice model v list class node) (gaps list) choice there (λ t low is. ap (λ c. c.class) is)
choice-class v list model class (PickupAndDelivery pickup delivery) choice there =
    from_each (λ s. map (pair_choice model v list class pickup delivery s) (from_to s (suc (length list)))) (gaps list) choice there (λ s s_in inner.
    from_map (pair_choice model v list class pickup delivery s) (from_to s (suc (length list))) choice inner (λ t t_in is. ap (λ c. c.class) is))

pub best-class : (model : Model) (v : ℕ) (list : List ℕ) (candidate : Candidate)
    → IfSome (best_in model v list candidate None) (λ choice. choice.class ≡ candidate.class)
best-class model v list candidate =
    best-has model list (λ choice. choice.class ≡ candidate.class) None
    (choices_in model v list candidate.class candidate.item) tt (choice-class v list model candidate.class candidate.item)

choice-adds : (v : ℕ) (list : List ℕ) (model : Model) (class : ℕ) (item : Item) (least : ℤ) → AddsAtLeast model v list item least
    → (choice : InsertionChoice) → In (choices_in model v list class item) choice → least ≤ℤ choice.increase
choice-adds v list model class (Visit node) least adds choice there =
    from_map (visit_choice model v list class node) (gaps list) choice there (λ t low is.
    subst (λ x. least ≤ℤ x) (sym (ap (λ c. c.increase) is)) (adds t (let l = of_below (suc (length list)) t low in omega (arith, l))))
choice-adds v list model class (PickupAndDelivery pickup delivery) least adds choice there =
    from_each (λ s. map (pair_choice model v list class pickup delivery s) (from_to s (suc (length list)))) (gaps list) choice there (λ s s_in inner.
    from_map (pair_choice model v list class pickup delivery s) (from_to s (suc (length list))) choice inner (λ t t_in is.
    let l = of_below (suc (length list)) s s_in in let b = of_from_to s (suc (length list)) t t_in in let high = b.1 in
    subst (λ x. least ≤ℤ x) (sym (ap (λ c. c.increase) is)) (adds s t (omega (arith, l)) (omega (arith, high)))))

-- what is added wherever the item is put
pub best-adds : (model : Model) (v : ℕ) (list : List ℕ) (candidate : Candidate) (least : ℤ)
    → AddsAtLeast model v list candidate.item least → BestAddsAtLeast model v list candidate least
best-adds model v list candidate least adds =
    best-has model list (λ choice. least ≤ℤ choice.increase) None (choices_in model v list candidate.class candidate.item)
    tt (choice-adds v list model candidate.class candidate.item least adds)

-- ---- the best beside the best so far

best_of-merged : (found best : Option InsertionChoice) → best_of (Best found) best ≡ merged_best key_of best found
best_of-merged None best = refl
best_of-merged (Some next) best = refl

-- the best in a list beside the best so far
pub best-merged : (model : Model) (v : ℕ) (list : List ℕ) (candidate : Candidate) (found best : Option InsertionChoice)
    → found ≡ best_in model v list candidate None → best_of (Best found) best ≡ best_in model v list candidate best
best-merged model v list candidate found best e =
    best_of-merged found best ∙ ap (merged_best key_of best) e
    ∙ sym (weighed-merged key_of (λ next. is_route_open model next.vehicle (placed list next.placing))
    best (choices_in model v list candidate.class candidate.item))

pub in-merged : (model : Model) (v : ℕ) (list : List ℕ) (candidate : Candidate) (best : Option InsertionChoice)
    → best_in model v list candidate best ≡ merged_best key_of best (best_in model v list candidate None)
in-merged model v list candidate best = sym (best-merged model v list candidate (best_in model v list candidate None) best refl)
    ∙ best_of-merged (best_in model v list candidate None) best

-- an item whose bound is not better than the best so far
pub bound-passed_over : (model : Model) (v : ℕ) (list : List ℕ) (candidate : Candidate) (best : Option InsertionChoice) (least : ℤ)
    → BestAddsAtLeast model v list candidate least
    → may_improve best candidate.class least ≡ false → best ≡ best_in model v list candidate best
bound-passed_over model v list candidate best least adds h = by (best_in model v list candidate None) adds (best-class model v list candidate)
    ∙ sym (in-merged model v list candidate best)
  where
    by : (found : Option InsertionChoice) → IfSome found (λ choice. least ≤ℤ choice.increase)
        → IfSome found (λ choice. choice.class ≡ candidate.class) → best ≡ merged_best key_of best found
    by None low same = refl
    by (Some f) low same = untested key_of best f true (none-improves best candidate.class least h f same low)

-- ---- what a search tells

pub less-self : (best : InsertionChoice) → is_lex_less (key_of best) (key_of best) ≡ false
less-self best = by (is_lex_less (key_of best) (key_of best)) refl
  where
    by : (b : Bool) → is_lex_less (key_of best) (key_of best) ≡ b → b ≡ false
    by false e = refl
    by true e = absurd (less_self (key_of best) e)

-- what a search tells beside the best so far: the best of the list, or that none there is better
abbrev Tells : InsertionChoice → Option InsertionChoice → Type 0
Tells best found = (known_by_search (Some best) (merged_best key_of (Some best) found) ≡ Best found)
    ⊎ ((known_by_search (Some best) (merged_best key_of (Some best) found) ≡ AtLeast (record { least = best.increase; searched = true }))
    × (merged_best key_of (Some best) found ≡ Some best) × IfSome found (λ f. is_lex_less (key_of f) (key_of best) ≡ false))

tells : (best : InsertionChoice) (found : Option InsertionChoice) → Tells best found
tells best None = inr (ap (λ b. cond b (Best (Some best)) (AtLeast (record { least = best.increase; searched = true }))) (less-self best), refl, tt)
tells best (Some f) = by (is_lex_less (key_of f) (key_of best)) refl
  where
    told : InsertionChoice → KnownItem
    told next = known_by_search (Some best) (Some next)

    by : (b : Bool) → is_lex_less (key_of f) (key_of best) ≡ b → Tells best (Some f)
    by true e = inl (ap told (ap (λ b. cond b f best) e) ∙ ap (λ b. cond b (Best (Some f)) (AtLeast (record { least = best.increase; searched = true }))) e)
    by false e =
        let same : cond (is_lex_less (key_of f) (key_of best)) f best ≡ best = ap (λ b. cond b f best) e in
        inr (ap told same ∙ ap (λ b. cond b (Best (Some best)) (AtLeast (record { least = best.increase; searched = true }))) (less-self best), ap Some same, e)

not-less : (n c : ℕ) (i l b : ℤ) (tail : Bool) → (nat_lt n c || (nat_le n c && int_le l b)) ≡ true
    → (int_lt (pos n) (pos c) || (int_le (pos n) (pos c) && (int_lt i b || (int_le i b && tail)))) ≡ false → b ≤ℤ i
not-less n c i l b tail may h = Prim.grind arith

-- what is better is the best of the list, and else the best of the list adds no less
pub told-known : (model : Model) (v : ℕ) (list : List ℕ) (candidate : Candidate) (best : Option InsertionChoice) (least : ℤ)
    → may_improve best candidate.class least ≡ true
    → IsCandidateKnown model v list candidate (known_by_search best (best_in model v list candidate best))
told-known model v list candidate None least may = refl
told-known model v list candidate (Some best) least may =
    subst (λ found. IsCandidateKnown model v list candidate (known_by_search (Some best) found))
    (sym (in-merged model v list candidate (Some best))) (by (tells best (best_in model v list candidate None)))
  where
    low : (found : Option InsertionChoice) → IfSome found (λ f. is_lex_less (key_of f) (key_of best) ≡ false)
        → IfSome found (λ f. f.class ≡ candidate.class) → IfSome found (λ f. best.increase ≤ℤ f.increase)
    low None less same = tt
    low (Some f) less same =
        not-less f.class best.class f.increase least best.increase (is_lex_less (tail_key f) (tail_key best))
        (ap (λ n. nat_lt n best.class || (nat_le n best.class && int_le least best.increase)) same ∙ may) less

    by : Tells best (best_in model v list candidate None)
        → IsCandidateKnown model v list candidate (known_by_search (Some best) (merged_best key_of (Some best) (best_in model v list candidate None)))
    by (inl e) = subst (IsCandidateKnown model v list candidate) (sym e) refl
    by (inr (e, same, less)) =
        subst (IsCandidateKnown model v list candidate) (sym e) (low (best_in model v list candidate None) less (best-class model v list candidate))

-- and it tells the best beside the best so far
pub told-better : (model : Model) (v : ℕ) (list : List ℕ) (candidate : Candidate) (best : Option InsertionChoice)
    → best_of (known_by_search best (best_in model v list candidate best)) best ≡ best_in model v list candidate best
told-better model v list candidate None = best-merged model v list candidate (best_in model v list candidate None) None refl
told-better model v list candidate (Some best) =
    ap (λ found. best_of (known_by_search (Some best) found) (Some best)) (in-merged model v list candidate (Some best))
    ∙ by (tells best (best_in model v list candidate None)) ∙ sym (in-merged model v list candidate (Some best))
  where
    by : Tells best (best_in model v list candidate None)
        → best_of (known_by_search (Some best) (merged_best key_of (Some best) (best_in model v list candidate None))) (Some best)
        ≡ merged_best key_of (Some best) (best_in model v list candidate None)
    by (inl e) = ap (λ known. best_of known (Some best)) e ∙ best_of-merged (best_in model v list candidate None) (Some best)
    by (inr (e, same, less)) = ap (λ known. best_of known (Some best)) e ∙ sym same

-- ---- the same of what the search of an item begins with

pub begun-known : (model : Model) (v : ℕ) (list : List ℕ) (candidate : Candidate) (searched : Bool) (best : Option InsertionChoice) (least : ℤ)
    → may_improve best candidate.class least ≡ true
    → IsCandidateKnown model v list candidate
    (known_by_search (begun_with candidate.item searched best) (best_in model v list candidate (begun_with candidate.item searched best)))
begun-known model v list candidate searched best least may = by candidate.item searched
  where
    by : (item : Item) (searched : Bool) → IsCandidateKnown model v list candidate
        (known_by_search (begun_with item searched best) (best_in model v list candidate (begun_with item searched best)))
    by item true = refl
    by (Visit node) false = refl
    by (PickupAndDelivery pickup delivery) false = told-known model v list candidate best least may

pub begun-better : (model : Model) (v : ℕ) (list : List ℕ) (candidate : Candidate) (searched : Bool) (best : Option InsertionChoice)
    → best_of (known_by_search (begun_with candidate.item searched best) (best_in model v list candidate (begun_with candidate.item searched best))) best
    ≡ best_in model v list candidate best
begun-better model v list candidate searched best = by candidate.item searched
  where
    by : (item : Item) (searched : Bool)
        → best_of (known_by_search (begun_with item searched best) (best_in model v list candidate (begun_with item searched best))) best
        ≡ best_in model v list candidate best
    by item true = best-merged model v list candidate (best_in model v list candidate None) best refl
    by (Visit node) false = best-merged model v list candidate (best_in model v list candidate None) best refl
    by (PickupAndDelivery pickup delivery) false = told-better model v list candidate best
