-- Bounds on what routes in front save, and joins that are passed over by them.
use Rattle.std.proofs.Common.{◌≡◌, ◌∙◌, ◌<◌, ◌≤◌, ◌^◌, ◌≢◌, ℕ, zero, suc, List, [], ◌∷◌, Bool, true, false, cond, not, Option, Some, None, refl, ap, sym, subst}
use Rattle.std.proofs.Common.{inl, inr, ◌⊎◌, arith, length, ℤ, pos, ◌≤ℤ◌, ◌+◌}
use Rattle.std.specs.Prelude.{◌&&◌, ◌||◌, ◌==◌, map, fold, filter, set, int_le, int_lt, neg_ℤ, ◌+ℤ◌, ◌-ℤ◌, IsTrue, IfSome, All, slice_index_or}
use Rattle.std.specs.Option.{option_map, MatchOption}
use Rattle.std.specs.Int.{int_max}
use Rattle.std.proofs.lemmas.Int.{ints, clamps}
use Rattle.std.proofs.lemmas.Bool.{cases_lt, eq-eqb}
use Rattle.std.proofs.lemmas.Bool.Decides.{eqb_tells}
use Rattle.std.proofs.lemmas.List.{get_or-set_same, get_or-set_other, get_or-replicate, length-set}
use Rattle.vr_model.specs.declared.records.Model.{Model}
use Rattle.vr_model.specs.tables.Numbers.{below, number_at, is_lex_less}
use Rattle.vr_model.specs.tables.WellFormed.{IsWellFormed}
use Rattle.vr_model.specs.tables.Tables.{arc_cost, vehicle_at}
use Rattle.vr_model.specs.routes.Routes.{route}
use Rattle.vr_model.specs.first.Choosing.{better, least_by}
use Rattle.vr_model.specs.first.Items.{first_node, last_node}
use Rattle.vr_model.specs.first.SavingsJoins.{Join, may_join, join_key, joins, saving, after_join, joined_route, is_part_of}
use Rattle.vr_model.specs.search.ChoosingLaws.{IsFirstLeast}
use Rattle.vr_model.proofs.first.LeastChoice.{least_first}
use Rattle.vr_model.proofs.tables.Tests.{clash, fails}
use Rattle.vr_model.proofs.tables.Members.{In, of_below, to_map, to_filter, to_contains}
use Rattle.vr_model.proofs.tables.Bounds.{arc_cost_in_range}
use Rattle.vr_rules.proofs.LazyLeast.{IsBest-none}
use Rattle.vr_model.proofs.first.LexOrder.{less_trans, less_split}
use Rattle.vr_first_savings.specs.declared.choice.JoinChoice.{JoinChoice}
use Rattle.vr_first_savings.specs.Joins.{AreApart, MayBeJoined, join_of, saving_key, choice_at, weigh_join, best_behind}
use Rattle.vr_first_savings.specs.Bounds.{both, may_improve, AreBounds, AreRaised, IsBound}
use Rattle.vr_first_savings.proofs.JoinLemmas.{first-below, last-below, firsts-differ}
use Rattle.vr_first_savings.proofs.EndLemmas.{are_ends}
use Rattle.vr_first_savings.proofs.BestJoins.{row, IsBestJoin, best-row}

-- ---- a row that is passed over

behind-by : (x y bound : ℤ) (rest : Bool) → int_le y bound ≡ true → int_le x bound ≡ false
    → (int_lt (neg_ℤ y) (neg_ℤ x) || (int_le (neg_ℤ y) (neg_ℤ x) && rest)) ≡ false
behind-by x y bound true low off = Prim.grind (arith, ints)
behind-by x y bound false low off = Prim.grind (arith, ints)

test-low : (x y : ℤ) → x ≤ℤ y → int_le x y ≡ true
test-low x y h = Prim.grind (arith, ints)

module _ (model : Model) (routes : List (List ℕ)) (i : ℕ) where
  -- a join that saves less than the best so far
  kept-one : (best : JoinChoice) (bound : ℤ) (j : ℕ) → IsBound model routes (route routes i) bound → int_le best.saving bound ≡ false
      → j < length routes → weigh_join model routes (Some best) (choice_at model routes i j) ≡ Some best
  kept-one best bound j is off low = by (may_join model (join_of routes (choice_at model routes i j))) refl
    where
      by : (b : Bool) → may_join model (join_of routes (choice_at model routes i j)) ≡ b
          → cond b (better saving_key (Some best) (choice_at model routes i j)) (Some best) ≡ Some best
      by true may = ap (λ b. Some (cond b (choice_at model routes i j) best))
          (behind-by best.saving (choice_at model routes i j).saving bound
          (is_lex_less (pos (choice_at model routes i j).last ∷ pos (choice_at model routes i j).first ∷ []) (pos best.last ∷ pos best.first ∷ []))
          (test-low (choice_at model routes i j).saving bound (is j low may)) off)
      by false may = refl

  kept-all : (best : JoinChoice) (bound : ℤ) → IsBound model routes (route routes i) bound
      → int_le best.saving bound ≡ false → (js : List ℕ) → ((j : ℕ) → In js j → j < length routes)
      → fold (weigh_join model routes) (Some best) (map (choice_at model routes i) js) ≡ Some best
  kept-all best bound is off [] low = refl
  kept-all best bound is off (j ∷ js) low =
      ap (λ b. fold (weigh_join model routes) b (map (choice_at model routes i) js)) (kept-one best bound j is off (low j (inl refl)))
      ∙ kept-all best bound is off js (λ k there. low k (inr there))

  -- a row whose bound is less than what the best so far saves has none that is better
  pub row-passed : (best : Option JoinChoice) (bound : ℤ) → IsBound model routes (route routes i) bound
      → may_improve best bound ≡ false → best ≡ best_behind model routes i (length routes) best
  row-passed None bound is off = absurd (clash true refl off)
  row-passed (Some best) bound is off = sym (kept-all best bound is off (below (length routes)) (λ j there. of_below (length routes) j there))
  -- ---- a row that is gone over

-- the better of the best so far and that of a row, if there is one
abbrev pub or_better : Option JoinChoice → Option JoinChoice → Option JoinChoice
or_better best None = best
or_better best (Some next) = better saving_key best next

abbrev less : JoinChoice → JoinChoice → Bool
less x y = is_lex_less (saving_key x) (saving_key y)

-- which of three comes first
first-of : (c y z : JoinChoice) (yc zy : Bool) → less y c ≡ yc → less z y ≡ zy
    → cond (less z (cond yc y c)) z (cond yc y c) ≡ cond (less (cond zy z y) c) (cond zy z y) c
first-of c y z true true e f = ap (λ b. cond b z y) f ∙ sym (ap (λ b. cond b z c) (less_trans (saving_key z) (saving_key y) (saving_key c) f e))
first-of c y z true false e f = ap (λ b. cond b z y) f ∙ sym (ap (λ b. cond b y c) e)
first-of c y z false true e f = refl
first-of c y z false false e f = ap (λ b. cond b z c)
    (fails (less z c) (λ t. elim (less_split (saving_key z) (saving_key y) (saving_key c) t) [ inl a ↦ clash (less z y) a f | inr b ↦ clash (less y c) b e ]))
    ∙ sym (ap (λ b. cond b y c) e)

one-more : (best rest : Option JoinChoice) (y : JoinChoice) → or_better (better saving_key best y) rest ≡ or_better best (or_better (Some y) rest)
one-more best None y = refl
one-more None (Some z) y = refl
one-more (Some c) (Some z) y = ap Some (first-of c y z (less y c) (less z y) refl refl)

module _ (model : Model) (routes : List (List ℕ)) (i : ℕ) where
  -- choices that are weighed from the best so far on
  weighed-on : (best : Option JoinChoice) (cs : List JoinChoice)
      → fold (weigh_join model routes) best cs ≡ or_better best (fold (weigh_join model routes) None cs)
  weighed-on best [] = refl
  weighed-on best (c ∷ cs) = by (may_join model (join_of routes c)) (weighed-on (better saving_key best c) cs) (weighed-on (Some c) cs) (weighed-on best cs)
    where
      all : Option JoinChoice → Option JoinChoice
      all best = fold (weigh_join model routes) best cs

      by : (b : Bool) → all (better saving_key best c) ≡ or_better (better saving_key best c) (all None)
          → all (Some c) ≡ or_better (Some c) (all None) → all best ≡ or_better best (all None)
          → all (cond b (better saving_key best c) best) ≡ or_better best (all (cond b (Some c) None))
      by true here one rest = here ∙ one-more best (all None) c ∙ ap (or_better best) (sym one)
      by false here one rest = rest

  -- beside the best so far
  pub row-merged : (best found : Option JoinChoice) → found ≡ best_behind model routes i (length routes) None
      → or_better best found ≡ best_behind model routes i (length routes) best
  row-merged best found is = ap (or_better best) is ∙ sym (weighed-on best (map (choice_at model routes i) (below (length routes))))

not-less : (x y : ℤ) (rest : Bool) → (int_lt (neg_ℤ x) (neg_ℤ y) || (int_le (neg_ℤ x) (neg_ℤ y) && rest)) ≡ false → x ≤ℤ y
not-less x y true off = Prim.grind (arith, ints)
not-less x y false off = Prim.grind (arith, ints)

in-route : (routes : List (List ℕ)) (j : ℕ) → j < length routes → In routes (route routes j)
in-route [] j low = absurd (omega (arith, low))
in-route (r ∷ rs) zero low = inl refl
in-route (r ∷ rs) (suc j) low = inr (in-route rs j (omega (arith, low)))

-- what the best of a row says of the others
abbrev pub Tells : Model → List (List ℕ) → ℕ → Option JoinChoice → Type 0
Tells model routes i None = (j : ℕ) → j < length routes → IsTrue (may_join model (both (route routes i) (route routes j))) → ⊥
Tells model routes i (Some best) = IsBound model routes (route routes i) best.saving

module _ (model : Model) (routes : List (List ℕ)) (i : ℕ) (low : i < length routes) where
  abbrev passing : List Join
  passing = filter (may_join model) (row routes (route routes i))

  there : (j : ℕ) → j < length routes → IsTrue (may_join model (both (route routes i) (route routes j))) → In passing (both (route routes i) (route routes j))
  there j low_j may = to_filter (may_join model) (row routes (route routes i)) (both (route routes i) (route routes j))
      (to_map (λ back. record { front = route routes i; back = back }) routes (route routes j) (in-route routes j low_j)) may

  tells : (found : Option JoinChoice) → IsBestJoin model routes found (row routes (route routes i)) → Tells model routes i found
  tells None is = λ j low_j may. subst (λ xs. In xs (both (route routes i) (route routes j)))
      (subst (λ o. MatchOption o (passing ≡ []) (IsFirstLeast (join_key model) passing)) (sym is.least) (least_first (join_key model) passing))
      (there j low_j may)
  tells (Some best) is = λ j low_j may.
      let first : IsFirstLeast (join_key model) passing (join_of routes best) =
      subst (λ o. MatchOption o (passing ≡ []) (IsFirstLeast (join_key model) passing)) (sym is.least) (least_first (join_key model) passing) in
      let here : Join = both (route routes i) (route routes j) in
      let at = to_contains passing here (there j low_j may) in
      let above : is_lex_less (join_key model here) (join_key model (join_of routes best)) ≡ false =
      subst (λ y. is_lex_less (join_key model y) (join_key model (join_of routes best)) ≡ false) at.2 (first.least at.0 here at.1) in
      let less = not-less (saving model here) (saving model (join_of routes best))
      (is_lex_less (pos (last_node here.front) ∷ pos (first_node here.back) ∷ [])
      (pos (last_node (join_of routes best).front) ∷ pos (first_node (join_of routes best).back) ∷ [])) above in
      omega (arith, ints, less, is.good.saves)

  pub row-told : (found : Option JoinChoice) → found ≡ best_behind model routes i (length routes) None → Tells model routes i found
  row-told found is =
      subst (Tells model routes i) (sym is) (tells (best_behind model routes i (length routes) None) (best-row model routes i low None []
      (IsBest-none (join_of routes) (join_key model) saving_key (may_join model) (MayBeJoined model routes))))

-- ---- bounds of all routes

-- the bound of a route is told anew
pub bounds-set : (model : Model) (routes : List (List ℕ)) (bounds : List ℤ) (i : ℕ) (bound : ℤ)
    → AreApart model routes → i < length routes → length bounds ≡ model.nodes
    → IsBound model routes (route routes i) bound → AreBounds model routes bounds → AreBounds model routes (set bounds (first_node (route routes i)) bound)
bounds-set model routes bounds i bound are low many is before k low_k = elim (cases_lt k i) [
  | inl l ↦ other (λ same. omega (arith, l, same))
  | inr l ↦ elim (cases_lt i k) [
    | inl m ↦ other (λ same. omega (arith, m, same))
    | inr m ↦ (
        let same : i ≡ k = omega (arith, l, m) in
        let under = first-below model routes i are low in
        subst (λ n. IsBound model routes (route routes n) (number_at (set bounds (first_node (route routes i)) bound) (first_node (route routes n)))) same
        (subst (IsBound model routes (route routes i))
        (sym (get_or-set_same bounds (first_node (route routes i)) bound (pos 0) (omega (arith, under, many)))) is))
  ]
]
  where
    other : k ≢ i → IsBound model routes (route routes k) (number_at (set bounds (first_node (route routes i)) bound) (first_node (route routes k)))
    other h = subst (IsBound model routes (route routes k))
        (sym (get_or-set_other bounds (first_node (route routes i)) (first_node (route routes k)) bound (pos 0)
        (λ same. clash (first_node (route routes k) == first_node (route routes i))
        (eq-eqb (first_node (route routes k)) (first_node (route routes i)) same) (firsts-differ model routes k i are low_k low h))))
        (before k low_k)

-- no join saves more than all
pub at-most : (model : Model) (routes : List (List ℕ)) (i j : ℕ) → IsWellFormed model → AreApart model routes
    → i < length routes → j < length routes → saving model (both (route routes i) (route routes j)) ≤ℤ pos (2 ^ 41)
at-most model routes i j well are low_i low_j =
    let some : 0 < length model.vehicles = well.number_of_vehicles.at_least in
    let arc = arc_cost_in_range model well 0 (last_node (route routes i)) (first_node (route routes j))
    some (last-below model routes i are low_i) (first-below model routes j are low_j) in
    let front : arc_cost model 0 (last_node (route routes i)) (vehicle_at model 0).end ≤ℤ pos (2 ^ 40) =
    (are_ends model routes i well are low_i).to_end_in_range.at_most in
    let back : arc_cost model 0 (vehicle_at model 0).start (first_node (route routes j)) ≤ℤ pos (2 ^ 40) =
    (are_ends model routes j well are low_j).from_start_in_range.at_most in
    let most : ((arc_cost model 0 (last_node (route routes i)) (vehicle_at model 0).end +ℤ arc_cost model 0 (vehicle_at model 0).start
    (first_node (route routes j))) -ℤ arc_cost model 0 (last_node (route routes i)) (first_node (route routes j))) ≤ℤ pos (2 ^ 41)
    = omega (arith, ints, front, back, arc.at_least) in
    most

-- at first
pub bounds-unknown : (model : Model) (routes : List (List ℕ)) (bounds : List ℤ) (n : ℕ) → IsWellFormed model
    → AreApart model routes → n ≡ model.nodes → ((k : ℕ) → k < n → number_at bounds k ≡ pos (2 ^ 41)) → AreBounds model routes bounds
bounds-unknown model routes bounds n well are many is i low j low_j may =
    let under = first-below model routes i are low in
    let same = is (first_node (route routes i)) (omega (arith, under, many)) in
    let most = at-most model routes i j well are low low_j in
    omega (arith, ints, same, most)

-- a route that is kept stood there before
kept-at : (p : List ℕ → Bool) (rs : List (List ℕ)) (i : ℕ) → i < length (filter p rs) → (k : ℕ) × (k < length rs) × (route rs k ≡ route (filter p rs) i)
kept-at p [] i low = absurd (omega (arith, low))
kept-at p (r ∷ rs) i low = by (p r) i low (kept-at p rs)
  where
    by : (b : Bool) (i : ℕ) → i < length (cond b (r ∷ filter p rs) (filter p rs))
        → ((i : ℕ) → i < length (filter p rs) → (k : ℕ) × (k < length rs) × (route rs k ≡ route (filter p rs) i))
        → (k : ℕ) × (k < suc (length rs)) × (route (r ∷ rs) k ≡ route (cond b (r ∷ filter p rs) (filter p rs)) i)
    by true zero low later = (0, omega arith, refl)
    by true (suc i) low later = let f = later i (omega (arith, low)) in let l = f.1 in (suc f.0, omega (arith, l), f.2)
    by false i low later = let f = later i low in let l = f.1 in (suc f.0, omega (arith, l), f.2)

-- after a join, where they were raised for the joined route
pub bounds-joined : (model : Model) (before : List (List ℕ)) (join : Join) (after : List (List ℕ)) (old new : List ℤ)
    → IsWellFormed model → after ≡ after_join before join → AreApart model after
    → AreBounds model before old → AreRaised model after old new → AreBounds model after new
bounds-joined model before join after old new well e are bounds raised =
    subst (λ rs. AreBounds model rs new) (sym e) (now (subst (AreApart model) e are) (subst (λ rs. AreRaised model rs old new) e raised))
  where
    now : AreApart model (after_join before join) → AreRaised model (after_join before join) old new → AreBounds model (after_join before join) new
    now are raised zero low j low_j may =
        let most = at-most model (after_join before join) 0 j well are low low_j in
        let all = raised.all in
        omega (arith, ints, most, all)
    now are raised (suc i) low zero low_j may = raised.reach (suc i) low
    now are raised (suc i) low (suc j) low_j may =
        let f = kept-at (λ list. not (is_part_of join list)) before i (omega (arith, low)) in
        let b = kept-at (λ list. not (is_part_of join list)) before j (omega (arith, low_j)) in
        let was : saving model (both (route before f.0) (route before b.0)) ≤ℤ number_at old (first_node (route before f.0)) = bounds f.0 f.1 b.0
        b.1 (ap (λ x. may_join model (both x (route before b.0))) f.2
        ∙ (ap (λ y. may_join model (both (route (filter (λ list. not (is_part_of join list)) before) i) y)) b.2 ∙ may)) in
        let there : saving model
        (both (route (filter (λ list. not (is_part_of join list)) before) i) (route (filter (λ list. not (is_part_of join list)) before) j))
        ≤ℤ number_at old (first_node (route (filter (λ list. not (is_part_of join list)) before) i)) =
        subst (λ y. saving model (both (route (filter (λ list. not (is_part_of join list)) before) i) y)
        ≤ℤ number_at old (first_node (route (filter (λ list. not (is_part_of join list)) before) i))) b.2
        (subst (λ x. saving model (both x (route before b.0)) ≤ℤ number_at old (first_node x)) f.2 was) in
        let more = raised.grown (first_node (route (filter (λ list. not (is_part_of join list)) before) i)) in
        omega (arith, ints, there, more)

-- ---- bounds that are raised

-- a bound that is raised to a number
abbrev pub raised_to : List ℤ → ℕ → ℤ → List ℤ
raised_to bounds k least = set bounds k (int_max (number_at bounds k) least)

module _ (bounds : List ℤ) (k : ℕ) (least : ℤ) (low : k < length bounds) where
  raised-there : number_at (raised_to bounds k least) k ≡ int_max (number_at bounds k) least
  raised-there = get_or-set_same bounds k (int_max (number_at bounds k) least) (pos 0) low

  raised-other : (j : ℕ) → j ≢ k → number_at (raised_to bounds k least) j ≡ number_at bounds j
  raised-other j h = get_or-set_other bounds k j (int_max (number_at bounds k) least) (pos 0) h

  raised-grown : (j : ℕ) → number_at bounds j ≤ℤ number_at (raised_to bounds k least) j
  raised-grown j = elim (eqb_tells j k) [
    | inl at ↦ subst (λ n. number_at bounds n ≤ℤ number_at (raised_to bounds k least) n) (sym at.1) (omega (arith, ints, clamps, raised-there))
    | inr other ↦ (let same = raised-other j other.1 in omega (arith, ints, same))
  ]

  raised-reach : least ≤ℤ number_at (raised_to bounds k least) k
  raised-reach = omega (arith, ints, clamps, raised-there)

-- the bounds of the first routes in front are raised
pub record AreRaisedUpTo (model : Model) (routes : List (List ℕ)) (old new : List ℤ) (i : ℕ) : Type 0 where
  pub number : length new ≡ length old
  pub grown : (k : ℕ) → number_at old k ≤ℤ number_at new k
  pub reach : (j : ℕ) → j < i → saving model (both (route routes j) (route routes 0)) ≤ℤ number_at new (first_node (route routes j))

pub raised-none : (model : Model) (routes : List (List ℕ)) (old : List ℤ) → AreRaisedUpTo model routes old old 0
raised-none model routes old = record { number = refl; grown = λ k. omega (arith, ints); reach = λ j low. absurd (omega (arith, low)) }

module _ (model : Model) (routes : List (List ℕ)) (old new after : List ℤ) (i k : ℕ) (least : ℤ)
    (so_far : AreRaisedUpTo model routes old new i) (low : k < length new) (is : after ≡ raised_to new k least) where
  more : AreRaisedUpTo model routes old (raised_to new k least) i
  more = record {
    number = length-set new k (int_max (number_at new k) least) ∙ so_far.number;
    grown = λ j. let a = so_far.grown j in let b = raised-grown new k least low j in omega (arith, ints, a, b);
    reach = λ j under. let a = so_far.reach j under in let b = raised-grown new k least low (first_node (route routes j)) in omega (arith, ints, a, b);
  }

  -- that of one more
  pub raised-more : k ≡ first_node (route routes i)
      → saving model (both (route routes i) (route routes 0)) ≤ℤ least → AreRaisedUpTo model routes old after (i + 1)
  raised-more first high = subst (λ bounds. AreRaisedUpTo model routes old bounds (i + 1)) (sym is) (record {
    number = more.number;
    grown = more.grown;
    reach = λ j under. elim (eqb_tells j i) [
      | inl at ↦
          subst (λ n. saving model (both (route routes n) (route routes 0)) ≤ℤ number_at (raised_to new k least) (first_node (route routes n))) (sym at.1)
          (subst (λ n. saving model (both (route routes i) (route routes 0)) ≤ℤ number_at (raised_to new k least) n)
          first (let b = raised-reach new k least low in omega (arith, ints, high, b)))
      | inr other ↦ more.reach j (let apart = other.1 in Prim.grind (arith, apart, under))
    ];
  })

  -- and all that the first route saves
  pub raised-all : i ≡ length routes → k ≡ first_node (route routes 0) → pos (2 ^ 41) ≤ℤ least → AreRaised model routes old after
  raised-all end first high = subst (AreRaised model routes old) (sym is) (record {
    number = more.number;
    grown = more.grown;
    reach = λ j under. more.reach j (omega (arith, end, under));
    all = subst (λ n. pos (2 ^ 41) ≤ℤ number_at (raised_to new k least) n) first (let b = raised-reach new k least low in omega (arith, ints, high, b));
  })
