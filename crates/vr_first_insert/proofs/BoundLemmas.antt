-- Choices that cannot be better than the best so far.
use Rattle.std.proofs.Common.{◌≡◌, ◌∙◌, ◌<◌, ◌≤◌, ◌+◌, ◌-◌, ◌⊎◌, ℕ, suc, List, [], ◌∷◌, Bool, true, false, cond, Option, Some, None, ℤ, pos, ◌≤ℤ◌, ◌+ℤ◌, refl}
use Rattle.std.proofs.Common.{ap, sym, subst, inl, inr, arith, length, to_z, of_z, w64}
use Rattle.std.specs.Prelude.{◌&&◌, ◌||◌, ◌==◌, ◌^◌, fold, map, int_lt, int_le, nat_lt, nat_le, neg_ℤ, slice_index_or}
use Rattle.std.proofs.lemmas.Int.{ints}
use Rattle.std.specs.Int.{int_min}
use Rattle.std.proofs.lemmas.Bool.{cases_lt, eqb-true}
use Rattle.vr_model.specs.declared.records.Model.{Model}
use Rattle.vr_model.specs.tables.Numbers.{is_lex_less, from_to}
use Rattle.vr_model.specs.routes.Rules.{is_route_open}
use Rattle.vr_model.specs.tables.Tables.{arc_cost}
use Rattle.vr_model.proofs.tables.Members.{In, from_map, of_from_to}
use Rattle.vr_rules.specs.Placing.{improves}
use Rattle.vr_rules.proofs.LazyLeast.{untested}
use Rattle.vr_first_insert.specs.declared.choice.InsertionChoice.{InsertionChoice}
use Rattle.vr_first_insert.specs.Increases.{arc_cost_at, detour, node_before, node_behind, visit_increase, pair_increase}
use Rattle.vr_first_insert.specs.Placings.{key_of, tail_key, may_improve, pair_choice, placed, weigh, AreLeastAhead, IsAddedAhead, VisitAddsAtLeast}
use Rattle.vr_first_insert.specs.Placings.{IsLeastAhead, IsLeastIncrease}
use Rattle.vr_first_insert.specs.declared.vehicle_list.LookedUpList.{LookedUpList}

not-before : (n c : ℕ) (i l b : ℤ) (tail : Bool) → (nat_lt n c || (nat_le n c && int_le l b)) ≡ false → l ≤ℤ i
    → (int_lt (pos n) (pos c) || (int_le (pos n) (pos c) && (int_lt i b || (int_le i b && tail)))) ≡ false
not-before n c i l b tail h low = Prim.grind arith

-- a choice of the class that adds no less
pub none-improves : (best : Option InsertionChoice) (class : ℕ) (least : ℤ) → may_improve best class least ≡ false
    → (next : InsertionChoice) → next.class ≡ class → least ≤ℤ next.increase → improves key_of best next ≡ false
none-improves None class least h next same low = absurd (cc)
none-improves (Some b) class least h next same low =
    not-before next.class b.class next.increase least b.increase (is_lex_less (tail_key next) (tail_key b))
    (ap (λ n. nat_lt n b.class || (nat_le n b.class && int_le least b.increase)) same ∙ h) low

-- choices none of which is better
pub passed-over : (model : Model) (list : List ℕ) (best : Option InsertionChoice) (choices : List InsertionChoice)
    → ((choice : InsertionChoice) → In choices choice → improves key_of best choice ≡ false) → best ≡ fold (weigh model list) best choices
passed-over model list best [] h = refl
passed-over model list best (c ∷ cs) h =
    let here : best ≡ weigh model list best c = untested key_of best c (is_route_open model c.vehicle (placed list c.placing)) (h c (inl refl)) in
    passed-over model list best cs (λ d there. h d (inr there)) ∙ ap (λ b. fold (weigh model list) b cs) here

-- deliveries from a place on, none of which is better
pub deliveries-passed_over : (model : Model) (v : ℕ) (list : List ℕ) (class pickup delivery s from : ℕ) (best : Option InsertionChoice) (least : ℤ)
    → ((t : ℕ) → from ≤ t → t ≤ length list → least ≤ℤ pair_increase model v list pickup delivery s t)
    → may_improve best class least ≡ false
    → best ≡ fold (weigh model list) best (map (pair_choice model v list class pickup delivery s) (from_to from (suc (length list))))
deliveries-passed_over model v list class pickup delivery s from best least low h =
    passed-over model list best (map (pair_choice model v list class pickup delivery s) (from_to from (suc (length list)))) (λ choice there.
    from_map _ (from_to from (suc (length list))) choice there (λ t t_in is.
    let b = of_from_to from (suc (length list)) t t_in in
    let start = b.0 in
    let high = b.1 in
    none-improves best class least h choice (ap (λ c. c.class) is)
    (subst (λ x. least ≤ℤ x) (sym (ap (λ c. c.increase) is)) (low t (omega (arith, start)) (omega (arith, high))))))

-- the pair apart
apart-is : (model : Model) (v : ℕ) (list : List ℕ) (pickup delivery s t : ℕ) → (s == t) ≡ false
    → pair_increase model v list pickup delivery s t ≡ (visit_increase model v list pickup s +ℤ visit_increase model v list delivery t)
apart-is model v list pickup delivery s t e =
    ap (λ b. cond b
    (arc_cost model v (node_before model v list s) pickup +ℤ detour model v pickup delivery (node_behind model v list s) (arc_cost_at model v list s))
    (visit_increase model v list pickup s +ℤ visit_increase model v list delivery t)) e

-- the pair with its delivery behind
pub least-further : (model : Model) (v : ℕ) (list : List ℕ) (pickup delivery s t : ℕ) (least : ℤ)
    → VisitAddsAtLeast model v list delivery least → s < t → t ≤ length list
    → (visit_increase model v list pickup s +ℤ least) ≤ℤ pair_increase model v list pickup delivery s t
least-further model v list pickup delivery s t least is_least behind within =
    let low = is_least t within in
    subst (λ x. (visit_increase model v list pickup s +ℤ least) ≤ℤ x)
    (sym (apart-is model v list pickup delivery s t (differ s t behind))) (omega (arith, ints, low))
  where
    differ : (s t : ℕ) → s < t → (s == t) ≡ false
    differ s t behind = grind arith

-- the pair at each place of its delivery
pub least-apart : (model : Model) (v : ℕ) (list : List ℕ) (pickup delivery s : ℕ) (least together result : ℤ)
    → VisitAddsAtLeast model v list delivery least → together ≡ pair_increase model v list pickup delivery s s
    → result ≤ℤ together → result ≤ℤ (visit_increase model v list pickup s +ℤ least)
    → (t : ℕ) → t ≤ length list → result ≤ℤ pair_increase model v list pickup delivery s t
least-apart model v list pickup delivery s least together result is_least same below_one below_two t within = by (s == t) refl
  where
    by : (b : Bool) → (s == t) ≡ b → result ≤ℤ pair_increase model v list pickup delivery s t
    by true e = subst (λ t. result ≤ℤ pair_increase model v list pickup delivery s t) (eqb-true s t e) (subst (λ x. result ≤ℤ x) same below_one)
    by false e =
        let apart = apart-is model v list pickup delivery s t e in
        let low = is_least t within in
        subst (λ x. result ≤ℤ x) (sym apart) (omega (arith, ints, below_two, low))

-- the pair with its delivery behind, which alone adds so much at least
pub least-apart-at : (model : Model) (v : ℕ) (list : List ℕ) (pickup delivery s t : ℕ) (least : ℤ) → least ≤ℤ visit_increase model v list delivery t → s < t
    → (visit_increase model v list pickup s +ℤ least) ≤ℤ pair_increase model v list pickup delivery s t
least-apart-at model v list pickup delivery s t least low behind =
    subst (λ x. (visit_increase model v list pickup s +ℤ least) ≤ℤ x)
    (sym (apart-is model v list pickup delivery s t (differ s t behind))) (omega (arith, ints, low))
  where
    differ : (s t : ℕ) → s < t → (s == t) ≡ false
    differ s t behind = grind arith

-- the least of the last places with one place more
pub ahead-more : (model : Model) (v : ℕ) (list : List ℕ) (node k : ℕ) (least next x : ℤ)
    → k ≤ length list → x ≤ℤ least → x ≤ℤ next → next ≡ visit_increase model v list node (length list - k)
    → ((t : ℕ) → length list < t + k → t ≤ length list → least ≤ℤ visit_increase model v list node t)
    → (t : ℕ) → length list ≤ t + k → t ≤ length list → x ≤ℤ visit_increase model v list node t
ahead-more model v list node k least next x within low_one low_two is before t from high = by (cases_lt (length list) (t + k))
  where
    by : (length list < t + k) ⊎ (t + k ≤ length list) → x ≤ℤ visit_increase model v list node t
    by (inl less) = let old = before t less high in omega (arith, ints, low_one, old)
    by (inr at) =
        let here : length list - k ≡ t = omega (arith, from, at) in
        subst (λ t. x ≤ℤ visit_increase model v list node t) here (subst (λ y. x ≤ℤ y) is low_two)

-- the lesser of two numbers is one of them
min-one : (a b x : ℤ) → x ≡ int_min a b → (x ≡ a) ⊎ (x ≡ b)
min-one a b x is = by (int_lt b a) is
  where
    by : (c : Bool) → x ≡ cond c b a → (x ≡ a) ⊎ (x ≡ b)
    by true e = inr e
    by false e = inl e

-- the same of numbers as code reads them
pub min-one-of : (a b x r c : ℤ) → x ≡ r → c ≡ b → r ≡ int_min a c → (x ≡ a) ⊎ (x ≡ b)
min-one-of a b x r c fits fits_too is = by (min-one a c r is)
  where
    by : (r ≡ a) ⊎ (r ≡ c) → (x ≡ a) ⊎ (x ≡ b)
    by (inl e) = inl (fits ∙ e)
    by (inr e) = inr (fits ∙ (e ∙ fits_too))

-- what was added before one of the last places is so with one place more
pub added-more : (model : Model) (v : ℕ) (list : List ℕ) (node k : ℕ) (least next x : ℤ) → k ≤ length list → (x ≡ least) ⊎ (x ≡ next)
    → next ≡ visit_increase model v list node (length list - k) → IsAddedAhead model v list node k least → IsAddedAhead model v list node k x
added-more model v list node k least next x within (inl old) is before =
    record { place = before.place; from = before.from; within = before.within; adds = old ∙ before.adds }
added-more model v list node k least next x within (inr new) is before =
    record { place = length list - k; from = omega (arith, within); within = omega arith; adds = new ∙ is }

pub added-on : (model : Model) (v : ℕ) (list : List ℕ) (node k : ℕ) (least : ℤ)
    → IsAddedAhead model v list node k least → IsAddedAhead model v list node (k + 1) least
added-on model v list node k least before =
    let from = before.from in
    record { place = before.place; from = omega (arith, from); within = before.within; adds = before.adds }

-- what code reads of the last places
pub ahead-read : (model : Model) (v : ℕ) (list : List ℕ) (node k : ℕ) (ahead : List ℤ) (x : ℤ)
    → AreLeastAhead model v list node ahead → slice_index_or ahead k (pos 0) ≡ x → k ≤ length list
    → IsLeastAhead model v list node k (to_z w64 (of_z w64 x))
ahead-read model v list node k ahead x are read within =
    let long = are.one_of_each in
    let is : IsLeastAhead model v list node k x = subst (IsLeastAhead model v list node k) read (are.each k (pos 0) (omega (arith, long, within))) in
    let fits : to_z w64 (of_z w64 x) ≡ x = omega (arith, ints, is.low, is.high) in
    subst (IsLeastAhead model v list node k) (sym fits) is

-- what code reads of all places
pub all-read : (list : LookedUpList) (node : ℕ) (ahead : List ℤ) (x : ℤ)
    → AreLeastAhead list.lookups.now.closed.model.now list.vehicle list.nodes.now node ahead → slice_index_or ahead (length list.nodes.now) (pos 0) ≡ x
    → IsLeastIncrease list.lookups.now.closed.model.now list.vehicle list.nodes.now node (to_z w64 (of_z w64 x))
all-read list node ahead x are read =
    let is = ahead-read list.lookups.now.closed.model.now list.vehicle list.nodes.now node (length list.nodes.now) ahead x are read (omega arith) in
    record { adds = λ t within. is.behind t (omega arith) within; small = record { low = is.low; high = is.high } }

-- the least of all places, as code hands it on
pub least-read : (list : LookedUpList) (node : ℕ) (x : ℤ)
    → VisitAddsAtLeast list.lookups.now.closed.model.now list.vehicle list.nodes.now node x → neg_ℤ (pos (2 ^ 40)) ≤ℤ x → x ≤ℤ pos (2 ^ 41)
    → IsLeastIncrease list.lookups.now.closed.model.now list.vehicle list.nodes.now node (to_z w64 (of_z w64 x))
least-read list node x is low high =
    let fits : to_z w64 (of_z w64 x) ≡ x = omega (arith, ints, low, high) in
    subst (IsLeastIncrease list.lookups.now.closed.model.now list.vehicle list.nodes.now node)
    (sym fits) (record { adds = is; small = record { low = low; high = high } })
