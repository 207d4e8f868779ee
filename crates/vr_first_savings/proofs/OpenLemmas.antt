-- The lists at which savings end are open lists of the model, if its vehicles are alike.
use Rattle.std.proofs.Common.{◌≡◌, ◌∙◌, ◌<◌, ◌≤◌, ◌++◌, ℕ, zero, suc, List, [], ◌∷◌, Bool, true, false, cond, not, Option, Some, None, refl, ap, sym, subst}
use Rattle.std.proofs.Common.{arith, inl, inr, length, map, take}
use Rattle.std.specs.Prelude.{◌||◌, ◌&&◌, ◌==◌, filter, count_by, nat_le, replicate, MatchOption, ℤ}
use Rattle.std.specs.List.{list_all, list_any}
use Rattle.std.proofs.lemmas.Bool.{eq-eqb}
use Rattle.std.proofs.lemmas.Bool.Decides.{nat_tests}
use Rattle.std.proofs.lemmas.List.Sums.{length-filter}
use Rattle.vr_model.specs.declared.records.Group.{Group}
use Rattle.vr_model.specs.declared.records.Model.{Model}
use Rattle.vr_model.specs.tables.Numbers.{below, each, from_to}
use Rattle.vr_model.specs.tables.Tables.{visits}
use Rattle.vr_model.specs.tables.ModelRules.{is_savings}
use Rattle.vr_model.specs.tables.WellFormed.{IsWellFormed}
use Rattle.vr_model.specs.routes.Routes.{are_lists, holds, is_active, route, vehicles}
use Rattle.vr_model.specs.routes.Rules.{active_in, fits_group, is_open, is_route_open}
use Rattle.vr_model.specs.first.Choosing.{least_by}
use Rattle.vr_model.specs.search.ChoosingLaws.{IsFirstLeast}
use Rattle.vr_model.specs.first.Items.{class, empty_lists, first_node}
use Rattle.vr_model.specs.first.SavingsJoins.{Join, after_join, is_part_of, is_wanted, items_by_class, join_key, joined_route, joins, may_begin, may_join}
use Rattle.vr_model.specs.first.SavingsJoins.{merged, ranked, saving, savings, single_routes}
use Rattle.vr_model.specs.deciding.Testing.{and_both, and_left, and_right}
use Rattle.vr_model.proofs.first.LeastChoice.{least_first}
use Rattle.vr_model.proofs.routes.Lists.{are_lists-count}
use Rattle.vr_model.proofs.tables.Members.{In, from_each, from_map, of_below, of_contains, of_filter}
use Rattle.vr_model.proofs.tables.Tests.{clash}
use Rattle.vr_rules.specs.Placing.{AreBuilt}
use Rattle.vr_first_savings.specs.declared.choice.JoinChoice.{JoinChoice}
use Rattle.vr_first_savings.specs.Joins.{AreApart, MayBeJoined, join_of}
use Rattle.vr_first_savings.proofs.AlikeLemmas.{open-alike, saved-alike}
use Rattle.vr_first_savings.proofs.ItemsApart.{AreApart-singles}
use Rattle.vr_first_savings.proofs.JoinedApart.{AreApart-joined}
use Rattle.vr_first_savings.proofs.RankLemmas.{AreApart-ranked, are_lists-first}

-- ---- active nodes of fewer lists

-- a node of a list among them is active
active_in_one : (xs : List (List ℕ)) (list : List ℕ) (x : ℕ) → In xs list → holds list x ≡ true → is_active xs x ≡ true
active_in_one [] list x there h = absurd there
active_in_one (y ∷ ys) list x (inl same) h = ap (λ b. b || is_active ys x) (sym (ap (λ l. holds l x) same) ∙ h)
active_in_one (y ∷ ys) list x (inr there) h = later (holds y x) (is_active ys x) (active_in_one ys list x there h)
  where
    later : (a b : Bool) → b ≡ true → (a || b) ≡ true
    later true b e = refl
    later false b e = e

-- an active node is one of a list among them
of_active : {C : Type 0} (xs : List (List ℕ)) (x : ℕ) → is_active xs x ≡ true → ((list : List ℕ) → In xs list → holds list x ≡ true → C) → C
of_active {C = C} [] x h k = absurd (clash false h refl)
of_active {C = C} (y ∷ ys) x h k = by (holds y x) refl h (λ e. of_active ys x e (λ list there. k list (inr there)))
  where
    by : (b : Bool) → holds y x ≡ b → (b || is_active ys x) ≡ true → (is_active ys x ≡ true → C) → C
    by true e h later = k y (inl refl) e
    by false e h later = later h

-- what is active in lists is active in others
abbrev Within : List (List ℕ) → List (List ℕ) → Type 0
Within xs ys = (x : ℕ) → is_active xs x ≡ true → is_active ys x ≡ true

-- so it is if each of them is among the others
within_members : (xs ys : List (List ℕ)) → ((list : List ℕ) → In xs list → In ys list) → Within xs ys
within_members xs ys h x active = of_active xs x active (λ list there held. active_in_one ys list x (h list there) held)

kept_fewer : (p q : ℕ → Bool) → ((x : ℕ) → p x ≡ true → q x ≡ true) → (xs : List ℕ) → length (filter p xs) ≤ length (filter q xs)
kept_fewer p q h [] = omega arith
kept_fewer p q h (x ∷ xs) = by (p x) (q x) (h x) (kept_fewer p q h xs)
  where
    by : (a b : Bool) → (a ≡ true → b ≡ true) → length (filter p xs) ≤ length (filter q xs)
        → length (cond a (x ∷ filter p xs) (filter p xs)) ≤ length (cond b (x ∷ filter q xs) (filter q xs))
    by true true i e = omega (arith, e)
    by true false i e = absurd (clash false (i refl) refl)
    by false true i e = omega (arith, e)
    by false false i e = e

count_fewer : (p q : ℕ → Bool) → ((x : ℕ) → p x ≡ true → q x ≡ true) → (xs : List ℕ) → count_by p xs ≤ count_by q xs
count_fewer p q h xs = omega (arith, length-filter p xs, length-filter q xs, kept_fewer p q h xs)

fewer_fit : (count more max : ℕ) → count ≤ more → nat_le more max ≡ true → nat_le count max ≡ true
fewer_fit count more max low e = grind (arith, nat_tests)

-- groups have room for fewer active nodes
groups_within : (xs ys : List (List ℕ)) → Within xs ys → (groups : List Group) → list_all (fits_group ys) groups ≡ true → list_all (fits_group xs) groups ≡ true
groups_within xs ys within [] e = refl
groups_within xs ys within (g ∷ gs) e = and_both (fits_group xs g) (list_all (fits_group xs) gs)
    (fewer_fit (active_in xs g) (active_in ys g) g.max (count_fewer (is_active xs) (is_active ys) within g.nodes)
    (and_left (fits_group ys g) (list_all (fits_group ys) gs) e))
    (groups_within xs ys within gs (and_right (fits_group ys g) (list_all (fits_group ys) gs) e))

-- ---- routes that vehicle 0 may drive

-- routes that stand apart, each of which vehicle 0 may drive; and groups have room for them
pub record AreDriven (model : Model) (routes : List (List ℕ)) : Type 0 where
  pub apart : AreApart model routes
  pub each : (list : List ℕ) → In routes list → is_route_open model 0 list ≡ true
  pub fits : list_all (fits_group routes) model.groups ≡ true

-- of routes so far and the items behind them the two last facts stay
record AreSoFar (model : Model) (routes : List (List ℕ)) : Type 0 where
  opened : (list : List ℕ) → In routes list → is_route_open model 0 list ≡ true
  fits : list_all (fits_group routes) model.groups ≡ true

in_behind : {C : Type 0} (xs : List (List ℕ)) (y list : List ℕ) → In (xs ++ y ∷ []) list → (In xs list → C) → (list ≡ y → C) → C
in_behind [] y list (inl same) k l = l same
in_behind [] y list (inr there) k l = absurd there
in_behind (x ∷ xs) y list (inl same) k l = k (inl same)
in_behind (x ∷ xs) y list (inr there) k l = in_behind xs y list there (λ h. k (inr h)) l

so_far_begun : (model : Model) (routes : List (List ℕ)) (item : List ℕ) → AreSoFar model routes
    → AreSoFar model (cond (may_begin model routes item) (routes ++ item ∷ []) routes)
so_far_begun model routes item so_far = by (may_begin model routes item) refl
  where
    by : (b : Bool) → may_begin model routes item ≡ b → AreSoFar model (cond b (routes ++ item ∷ []) routes)
    by true may = record {
      opened = λ list there. in_behind routes item list there (so_far.opened list)
          (λ same. ap (is_route_open model 0) same ∙ and_left (is_route_open model 0 item) _ may);
      fits = and_right (is_route_open model 0 item) _ may;
    }
    by false may = so_far

singles_so_far : (model : Model) (items routes : List (List ℕ)) → AreSoFar model routes → AreSoFar model (single_routes model routes items)
singles_so_far model [] routes so_far = so_far
singles_so_far model (item ∷ rest) routes so_far = singles_so_far model rest _ (so_far_begun model routes item so_far)

none_kept : (nodes : List ℕ) → length (filter (is_active []) nodes) ≡ 0
none_kept [] = refl
none_kept (x ∷ xs) = none_kept xs

none_active : (nodes : List ℕ) → count_by (is_active []) nodes ≡ 0
none_active nodes = sym (length-filter (is_active []) nodes) ∙ none_kept nodes

none_fits : (count max : ℕ) → count ≡ 0 → nat_le count max ≡ true
none_fits count max e = grind (arith, nat_tests)

so_far_none : (model : Model) → AreSoFar model []
so_far_none model = record { opened = λ list there. absurd there; fits = every model.groups }
  where
    every : (groups : List Group) → list_all (fits_group []) groups ≡ true
    every [] = refl
    every (g ∷ gs) = and_both (fits_group [] g) (list_all (fits_group []) gs) (none_fits (active_in [] g) g.max (none_active g.nodes)) (every gs)

singles-driven : (model : Model) → IsWellFormed model → AreDriven model (single_routes model [] (items_by_class model))
singles-driven model well =
    let so_far = singles_so_far model (items_by_class model) [] (so_far_none model) in
    record { apart = AreApart-singles model well; each = so_far.opened; fits = so_far.fits }

-- ---- joins

-- a route among others has a number
route_number : {C : Type 0} (routes : List (List ℕ)) (list : List ℕ) → In routes list → ((k : ℕ) → k < length routes → route routes k ≡ list → C) → C
route_number {C = C} [] list there k = absurd there
route_number {C = C} (x ∷ xs) list (inl same) k = k 0 (omega arith) (sym same)
route_number {C = C} (x ∷ xs) list (inr there) k = route_number xs list there (λ n low e. k (suc n) (omega (arith, low)) e)

-- a least entry stands in the list
least_in : {A : Type 0} (key : A → List ℤ) (xs : List A) (best : A) → least_by key xs ≡ Some best → In xs best
least_in key xs best e =
    let first : IsFirstLeast key xs best = subst (λ o. MatchOption o (xs ≡ []) (IsFirstLeast key xs)) e (least_first key xs) in
    of_contains xs best (first.place, first.in_list, first.stands_there best)

-- a join that may be made: two routes among those that there are
record IsJoin (model : Model) (routes : List (List ℕ)) (join : Join) : Type 0 where
  front : In routes join.front
  back : In routes join.back
  may : may_join model join ≡ true

join_in : (model : Model) (routes : List (List ℕ)) (join : Join) → In (joins model routes) join → IsJoin model routes join
join_in model routes join there =
    let kept = of_filter (may_join model) (each routes λ front. map (λ back. record { front = front; back = back }) routes) join there in
    from_each (λ front. map (λ back. record { front = front; back = back }) routes) routes join kept.0 λ front front_in at.
    from_map (λ back. record { front = front; back = back }) routes join at λ back back_in same.
    record { front = subst (λ j. In routes j.front) (sym same) front_in; back = subst (λ j. In routes j.back) (sym same) back_in; may = kept.1 }

-- routes that stand apart still do after a join
apart-joined : (model : Model) (routes : List (List ℕ)) (join : Join)
    → AreApart model routes → IsJoin model routes join → AreApart model (after_join routes join)
apart-joined model routes join apart is =
    route_number routes join.front is.front λ i i_low i_is.
    route_number routes join.back is.back λ j j_low j_is.
    let choice : JoinChoice = record { front = i; back = j; saving = saving model join; last = 0; first = 0 } in
    let same : join_of routes choice ≡ join = λ t. record { front = i_is t; back = j_is t } in
    let may : may_join model (join_of routes choice) ≡ true = ap (may_join model) same ∙ is.may in
    subst (λ join. AreApart model (after_join routes join)) same (AreApart-joined model routes choice apart (record {
      front = i_low;
      back = j_low;
      two = λ e. two i j e (and_left (not (first_node (route routes i) == first_node (route routes j))) _ may);
      may = may;
      saves = sym (ap (saving model) same);
    }))
  where
    two : (i j : ℕ) → i ≡ j → not (first_node (route routes i) == first_node (route routes j)) ≡ true → ⊥
    two i j e apart =
        let itself : not (first_node (route routes i) == first_node (route routes i)) ≡ true =
        ap (λ k. not (first_node (route routes i) == first_node (route routes k))) e ∙ apart in
        clash (not (first_node (route routes i) == first_node (route routes i))) itself (ap not (eq-eqb (first_node (route routes i)) _ refl))

holds-both : {C : Type 0} (xs ys : List ℕ) (x : ℕ) → holds (xs ++ ys) x ≡ true → (holds xs x ≡ true → C) → (holds ys x ≡ true → C) → C
holds-both {C = C} [] ys x h k l = l h
holds-both {C = C} (y ∷ zs) ys x h k l = by (x == y) refl h (λ e. holds-both zs ys x e (λ g. k (later (x == y) (holds zs x) g)) l)
  where
    later : (a b : Bool) → b ≡ true → (a || b) ≡ true
    later true b e = refl
    later false b e = e

    by : (b : Bool) → (x == y) ≡ b → (b || holds (zs ++ ys) x) ≡ true → (holds (zs ++ ys) x ≡ true → C) → C
    by true e h rest = k (ap (λ b. b || holds zs x) e)
    by false e h rest = rest h

-- a join makes no node active
joined-within : (routes : List (List ℕ)) (join : Join) → In routes join.front → In routes join.back → Within (after_join routes join) routes
joined-within routes join front back x active = of_active (after_join routes join) x active by
  where
    by : (list : List ℕ) → In (after_join routes join) list → holds list x ≡ true → is_active routes x ≡ true
    by list (inl same) held = holds-both join.front join.back x (sym (ap (λ l. holds l x) same) ∙ held)
        (active_in_one routes join.front x front) (active_in_one routes join.back x back)
    by list (inr there) held = active_in_one routes list x (of_filter (λ list. not (is_part_of join list)) routes list there).0 held

joined-driven : (model : Model) (routes : List (List ℕ)) (join : Join)
    → AreDriven model routes → IsJoin model routes join → AreDriven model (after_join routes join)
joined-driven model routes join driven is = record {
  apart = apart-joined model routes join driven.apart is;
  each = by;
  fits = groups_within (after_join routes join) routes (joined-within routes join is.front is.back) model.groups driven.fits;
}
  where
    by : (list : List ℕ) → In (after_join routes join) list → is_route_open model 0 list ≡ true
    by list (inl same) = ap (is_route_open model 0) same ∙ and_right (not (first_node join.front == first_node join.back)) _ is.may
    by list (inr there) = driven.each list (of_filter (λ list. not (is_part_of join list)) routes list there).0

merged-driven : (model : Model) (n : ℕ) (routes : List (List ℕ)) → AreDriven model routes → AreDriven model (merged model n routes)
merged-driven model zero routes driven = driven
merged-driven model (suc n) routes driven = by (least_by (join_key model) (joins model routes)) refl (merged-driven model n)
  where
    wanted : (join : Join) (b : Bool) → IsJoin model routes join → ((routes : List (List ℕ)) → AreDriven model routes → AreDriven model (merged model n routes))
        → AreDriven model (elim b [ true ↦ merged model n (after_join routes join) | false ↦ routes ])
    wanted join true is rest = rest (after_join routes join) (joined-driven model routes join driven is)
    wanted join false is rest = driven

    by : (best : Option Join) → least_by (join_key model) (joins model routes) ≡ best
        → ((routes : List (List ℕ)) → AreDriven model routes → AreDriven model (merged model n routes))
        → AreDriven model
        (elim best [ None ↦ routes | Some join ↦ elim (is_wanted model routes join) [ true ↦ merged model n (after_join routes join) | false ↦ routes ] ])
    by None e rest = driven
    by (Some join) e rest = wanted join (is_wanted model routes join) (join_in model routes join (least_in (join_key model) (joins model routes) join e)) rest

-- ---- the lists of the vehicles

ranked_in : (model : Model) (routes : List (List ℕ)) (list : List ℕ) → In (ranked model routes) list → In routes list
ranked_in model routes list there =
    from_each (λ c. each (visits model) λ node. filter (λ list. (class model list == c) && (first_node list == node)) routes)
    (from_to 0 3) list there λ c c_in of_class.
    from_each (λ node. filter (λ list. (class model list == c) && (first_node list == node)) routes) (visits model) list of_class λ node node_in at.
    (of_filter (λ list. (class model list == c) && (first_node list == node)) routes list at).0

ranked-driven : (model : Model) (routes : List (List ℕ)) → AreDriven model routes → AreDriven model (ranked model routes)
ranked-driven model routes driven = record {
  apart = AreApart-ranked model routes driven.apart;
  each = λ list there. driven.each list (ranked_in model routes list there);
  fits = groups_within (ranked model routes) routes (within_members (ranked model routes) routes (ranked_in model routes)) model.groups driven.fits;
}

-- a list among the first of routes and empty lists is a route, or empty
taken_in : {C : Type 0} (n m : ℕ) (routes : List (List ℕ)) (list : List ℕ)
    → In (take n (routes ++ replicate m [])) list → (In routes list → C) → (list ≡ [] → C) → C
taken_in zero m routes list there k l = absurd there
taken_in (suc n) zero [] list there k l = absurd there
taken_in (suc n) (suc m) [] list (inl same) k l = l same
taken_in (suc n) (suc m) [] list (inr there) k l = taken_in n m [] list there k l
taken_in (suc n) m (r ∷ rs) list (inl same) k l = k (inl same)
taken_in (suc n) m (r ∷ rs) list (inr there) k l = taken_in n m rs list there (λ h. k (inr h)) l

-- the list of a vehicle is one of the lists
route_in : (lists : List (List ℕ)) (v : ℕ) → v < length lists → In lists (route lists v)
route_in [] v low = absurd (omega (arith, low))
route_in (x ∷ xs) zero low = inl refl
route_in (x ∷ xs) (suc v) low = inr (route_in xs v (omega (arith, low)))

pub savings-built : (model : Model) → IsWellFormed model → is_savings model.search.first ≡ true → AreBuilt model (savings model)
unfolding is_open
savings-built model well saved =
    let singles : List (List ℕ) = single_routes model [] (items_by_class model) in
    let routes : List (List ℕ) = ranked model (merged model (length singles) singles) in
    let driven : AreDriven model routes = ranked-driven model (merged model (length singles) singles)
    (merged-driven model (length singles) singles (singles-driven model well)) in
    let lists : List (List ℕ) = savings model in
    let are : are_lists model lists ≡ true = are_lists-first model routes driven.apart in
    let alike = saved-alike model well saved in
    let some : 0 < length model.vehicles = omega (arith, well.number_of_vehicles.at_least) in
    let count = are_lists-count model lists are in
    record {
      are_lists = are;
      are_open = and_both (list_all (λ v. is_route_open model v (route lists v)) (vehicles lists)) (list_all (fits_group lists) model.groups)
          (each_passes (λ v. is_route_open model v (route lists v)) (vehicles lists) (λ v there.
          let low : v < length lists = of_below (length lists) v there in
          open-alike model alike v 0 (omega (arith, low, count)) some (route lists v)
          ∙ taken_in (length model.vehicles) (length model.vehicles) routes (route lists v)
          (route_in lists v low) (driven.each (route lists v)) (λ empty. ap (is_route_open model 0) empty)))
          (groups_within lists routes (λ x active. of_active lists x active (λ list there held.
          taken_in (length model.vehicles) (length model.vehicles) routes list there (λ in_routes. active_in_one routes list x in_routes held)
          (λ empty. absurd (clash false (sym (ap (λ l. holds l x) empty) ∙ held) refl)))) model.groups driven.fits);
    }
  where
    each_passes : (p : ℕ → Bool) (xs : List ℕ) → ((x : ℕ) → In xs x → p x ≡ true) → list_all p xs ≡ true
    each_passes p [] h = refl
    each_passes p (x ∷ xs) h = and_both (p x) (list_all p xs) (h x (inl refl)) (each_passes p xs (λ y there. h y (inr there)))
