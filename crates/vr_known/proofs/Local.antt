-- What a move does to the list of each vehicle and to the active visits is the same in lists that agree at the move.
use Rattle.std.proofs.Common.{◌⊎◌, ◌≡◌, ◌≢◌, ◌∙◌, ℕ, ◌<◌, ◌≤◌, Bool, true, false, not, List, [], length, map, refl, sym, ap, subst, inl, inr, arith}
use Rattle.std.specs.Prelude.{IsTrue, ◌&&◌, nat_lt, nat_le, insert, remove, slice_set}
use Rattle.std.proofs.lemmas.Bool.{false≢true}
use Rattle.std.proofs.lemmas.List.{length-map}
use Rattle.std.proofs.lemmas.List.Folds.{list_any_at}
use Rattle.vr_model.specs.deciding.Testing.{and_left, and_right, and_both}
use Rattle.vr_model.specs.tables.Tables.{is_visit, pair_at}
use Rattle.vr_model.specs.routes.Routes.{route, holds, is_active}
use Rattle.vr_model.specs.routes.Rules.{is_valid}
use Rattle.vr_model.specs.moves.Moves.{apply, with_route, with_pair, without_pair, comes_before, is_pair_served, changes_the_list}
use Rattle.vr_model.specs.moves.MoveTests.{is_move}
use Rattle.vr_model.specs.declared.records.Model.{Model}
use Rattle.vr_model.specs.declared.records.Pair.{Pair}
use Rattle.vr_model.specs.declared.neighbours.Move.{Move}
use Rattle.vr_model.specs.declared.neighbours.Move.TheVariants.{TwoOpt, OrOpt, Relocate, Exchange, Cross, RelocatePair, PairActive, PairInactive, MakeActive}
use Rattle.vr_model.specs.declared.neighbours.Move.TheVariants.{MakeInactive, SwapActive}
use Rattle.vr_model.proofs.tables.Tests.{clash}
use Rattle.vr_model.proofs.routes.Lists.{are-lists, route_set_same, route_set_other}
use Rattle.vr_model.proofs.moves.Times.{times, times_in, times_set}
use Rattle.vr_model.proofs.moves.Kept.{inactive_times}
use Rattle.vr_model.proofs.moves.KeptLists.{few}
use Rattle.vr_model.specs.moves.Kinds.{changes_activity, kind_of}
use Rattle.vr_known.specs.Blocks.{first_of, second_of, IsSource, Agree}
use Rattle.vr_known.specs.Locality.{Alike}
use Rattle.vr_known.proofs.Applied.{same_or_not, NamesSame, NamesVehicles, stays, alike, set_alike, named_move_local}
use Rattle.vr_known.proofs.Activity.{active_same, same_active}
use Rattle.vr_known.proofs.Pairs.{one_of_lists, comes_held, active_some, route_map, off_the_list, Serves, serves, serves_together, delivers_too, served}
use Rattle.vr_known.proofs.Pairs.{target_low, same_active_pair, keeps, active_without}

-- something is the same in both and comes to the same, or it stays in both
abbrev pub ComesToSame : {A : Type 0} → A → A → A → A → Type 0
ComesToSame before other after later = ((before ≡ other) × (after ≡ later)) ⊎ ((after ≡ before) × (later ≡ other))

pub record IsLocal (model : Model) (mv : Move) (lists other : List (List ℕ)) : Type 0 where
  pub many : length lists ≡ length other
  pub each : (u : ℕ) → ComesToSame (route lists u) (route other u) (route (apply model lists mv) u) (route (apply model other mv) u)
  pub active : ComesToSame (is_active lists) (is_active other) (is_active (apply model lists mv)) (is_active (apply model other mv))

-- ---- moves whose rows are vehicles

owned_same : (model : Model) (mv : Move) (lists other : List (List ℕ)) → NamesVehicles mv → Agree model mv lists other → NamesSame mv lists other
owned_same model (TwoOpt v a b) lists other kind agree = record { many = agree.many; first = agree.source v refl; second = agree.second }
owned_same model (OrOpt v a k t) lists other kind agree = record { many = agree.many; first = agree.source v refl; second = agree.second }
owned_same model (Relocate v a w t) lists other kind agree = record { many = agree.many; first = agree.source v refl; second = agree.second }
owned_same model (Exchange v a w b) lists other kind agree = record { many = agree.many; first = agree.source v refl; second = agree.second }
owned_same model (Cross v a w b) lists other kind agree = record { many = agree.many; first = agree.source v refl; second = agree.second }
owned_same model mv lists other kind agree = absurd (false≢true kind)

module _ (model : Model) (mv : Move) (lists other : List (List ℕ)) (h : IsTrue (is_move model lists mv))
    (kind : NamesVehicles mv) (agree : NamesSame mv lists other) where
  -- a vehicle is one of the move's, and so has the same list in both, or its list stays in both
  owned_each : (u : ℕ) → ComesToSame (route lists u) (route other u) (route (apply model lists mv) u) (route (apply model other mv) u)
  owned_each u = elim (same_or_not u (first_of mv)) [
    | inl here ↦ same (ap (route lists) here ∙ agree.first ∙ ap (route other) (sym here))
    | inr apart ↦ elim (same_or_not u (second_of mv)) [
      | inl here ↦ same (ap (route lists) here ∙ agree.second ∙ ap (route other) (sym here))
      | inr too ↦ inr (stays model lists mv u kind apart too, stays model other mv u kind apart too)
    ]
  ]
    where
      same : route lists u ≡ route other u → ComesToSame (route lists u) (route other u) (route (apply model lists mv) u) (route (apply model other mv) u)
      same e = inl (e, alike model lists other mv h kind agree u e)

  owned_local : IsLocal model mv lists other
  owned_local = record {
    many = agree.many;
    each = owned_each;
    active = inr (same_active model lists mv h kind, same_active model other mv (named_move_local model lists other mv kind agree ∙ h) kind);
  }

-- ---- one list that changes, and the active visits with it

module _ (lists other : List (List ℕ)) (w : ℕ) (list more : List ℕ) (many : length lists ≡ length other)
    (low : w < length lists) (there : route lists w ≡ route other w) (same : list ≡ more) where
  low_other : w < length other
  low_other = omega (arith, low, many)

  put_each : (u : ℕ) → ComesToSame (route lists u) (route other u) (route (with_route lists w list) u) (route (with_route other w more) u)
  put_each u = elim (same_or_not u w) [
    | inl here ↦ inl (
      ap (route lists) here ∙ there ∙ ap (route other) (sym here),
      ap (route (with_route lists w list)) here ∙ route_set_same lists w list low ∙ same
          ∙ sym (route_set_same other w more low_other) ∙ ap (route (with_route other w more)) (sym here),
    )
    | inr apart ↦ inr (route_set_other lists w u list apart, route_set_other other w u more apart)
  ]

  module _ (few_here : (x : ℕ) → times_in x lists ≤ 1) (few_there : (x : ℕ) → times_in x other ≤ 1) (active : is_active lists ≡ is_active other) where
    times_as : (x : ℕ) → times_in x lists ≡ times_in x other
    times_as x = by (is_active lists x) refl
      where
        by : (b : Bool) → is_active lists x ≡ b → times_in x lists ≡ times_in x other
        by true e =
            let one = active_some lists x e in
            let two = active_some other x (ap (λ f. f x) (sym active) ∙ e) in
            let most = few_here x in
            let most_there = few_there x in
            omega (arith, one, two, most, most_there)
        by false e = inactive_times lists x e ∙ sym (inactive_times other x (ap (λ f. f x) (sym active) ∙ e))

    put_active : is_active (with_route lists w list) ≡ is_active (with_route other w more)
    put_active = active_same (with_route lists w list) (with_route other w more) (λ x.
        let here = times_set x lists w list low in
        let there_ = times_set x other w more low_other in
        let old : times x (route lists w) ≡ times x (route other w) = ap (times x) there in
        let new : times x list ≡ times x more = ap (times x) same in
        let before = times_as x in
        omega (arith, here, there_, old, new, before))

-- ---- a pair that is put elsewhere

module _ (model : Model) (lists other : List (List ℕ)) (p w s t : ℕ)
    (h : IsTrue (is_move model lists (RelocatePair p w s t))) (agree : Agree model (RelocatePair p w s t) lists other) where
  pair_serves : Serves (pair_at model p) lists
  pair_serves = serves model lists p (served model lists p w s t h)

  same_seat : route lists pair_serves.vehicle ≡ route other pair_serves.vehicle
  same_seat = agree.source pair_serves.vehicle pair_serves.picks

  served_there : IsTrue (is_pair_served model other p)
  served_there =
      let pair = pair_at model p in
      let at = one_of_lists (λ list. comes_before list pair.pickup pair.delivery) lists (served model lists p w s t h) in
      let low = at.1 in
      let many = agree.many in
      let same = agree.source at.0 (comes_held (route lists at.0) pair.pickup pair.delivery at.2) in
      list_any_at (λ list. comes_before list pair.pickup pair.delivery) other at.0 [] (omega (arith, low, many))
      (ap (λ list. comes_before list pair.pickup pair.delivery) (sym same) ∙ at.2)

  pair_moves : is_move model other (RelocatePair p w s t) ≡ true
  pair_moves =
      let pair = pair_at model p in
      let n = sym agree.many in
      let l = sym agree.second in
      and_both (is_pair_served model other p) _ served_there
      ((λ i. (nat_lt p (length model.pairs) && (nat_lt w (n i) && (nat_le s t && nat_le t (length (without_pair pair (l i))))))
      && changes_the_list pair (l i) (without_pair pair (l i)) s t) ∙ and_right (is_pair_served model lists p) _ h)

  module _ (few_here : (x : ℕ) → times_in x lists ≤ 1) (few_there : (x : ℕ) → times_in x other ≤ 1) where
    abbrev pair : Pair
    pair = pair_at model p

    abbrev after : List (List ℕ)
    after = apply model lists (RelocatePair p w s t)

    abbrev later : List (List ℕ)
    later = apply model other (RelocatePair p w s t)

    same_after : (u : ℕ) → route lists u ≡ route other u → route after u ≡ route later u
    same_after u e =
        let many = agree.many in
        let low = target_low model lists p w s t h in
        let one = length-map lists (without_pair pair) in
        let two = length-map other (without_pair pair) in
        let rest : (v : ℕ) → route lists v ≡ route other v → route (map (without_pair pair) lists) v ≡ route (map (without_pair pair) other) v =
        λ v f. route_map (without_pair pair) refl lists v ∙ ap (without_pair pair) f ∙ sym (route_map (without_pair pair) refl other v) in
        set_alike (map (without_pair pair) lists) (map (without_pair pair) other) w u _ _ (omega (arith, many, one, two)) (omega (arith, low, one))
        (ap (with_pair pair s t) (rest w agree.second)) (rest u e)

    off_both : (u : ℕ) → u ≢ w → holds (route lists u) pair.pickup ≡ false → (route after u ≡ route lists u) × (route later u ≡ route other u)
    off_both u apart none =
        let v = pair_serves.vehicle in
        let other_one : u ≢ v = λ e. clash (holds (route lists u) pair.pickup) (ap (λ x. holds (route lists x) pair.pickup) e ∙ pair_serves.picks) none in
        let picks : IsTrue (holds (route other v) pair.pickup) = ap (λ l. holds l pair.pickup) (sym same_seat) ∙ pair_serves.picks in
        let delivers : IsTrue (holds (route other v) pair.delivery) = ap (λ l. holds l pair.delivery) (sym same_seat) ∙ pair_serves.delivers in (
          route_set_other (map (without_pair pair) lists) w u _ apart ∙ off_the_list pair lists v u few_here pair_serves.picks pair_serves.delivers other_one,
          route_set_other (map (without_pair pair) other) w u _ apart ∙ off_the_list pair other v u few_there picks delivers other_one,
        )

    pair_each : (u : ℕ) → ComesToSame (route lists u) (route other u) (route after u) (route later u)
    pair_each u = elim (same_or_not u w) [
      | inl here ↦ same (ap (route lists) here ∙ agree.second ∙ ap (route other) (sym here))
      | inr apart ↦ by apart (holds (route lists u) pair.pickup) refl
    ]
      where
        same : route lists u ≡ route other u → ComesToSame (route lists u) (route other u) (route after u) (route later u)
        same e = inl (e, same_after u e)

        by : u ≢ w → (b : Bool) → holds (route lists u) pair.pickup ≡ b → ComesToSame (route lists u) (route other u) (route after u) (route later u)
        by apart true e = same (agree.source u e)
        by apart false e = inr (off_both u apart e)

    pair_local : IsLocal model (RelocatePair p w s t) lists other
    pair_local = record {
      many = agree.many;
      each = pair_each;
      active = inr (same_active_pair model lists p w s t h, same_active_pair model other p w s t pair_moves);
    }

-- ---- a pair that is taken out

module _ (model : Model) (lists other : List (List ℕ)) (p : ℕ)
    (h : IsTrue (is_move model lists (PairInactive p))) (agree : Agree model (PairInactive p) lists other) where
  abbrev out : Pair
  out = pair_at model p

  out_serves : Serves out lists
  out_serves = serves_together model lists p (and_right (nat_lt p (length model.pairs)) _ h)

  out_seat : route lists out_serves.vehicle ≡ route other out_serves.vehicle
  out_seat = agree.source out_serves.vehicle out_serves.picks

  out_moves : is_move model other (PairInactive p) ≡ true
  out_moves =
      let low = out_serves.low in
      let many = agree.many in
      and_both (nat_lt p (length model.pairs)) _ (and_left (nat_lt p (length model.pairs)) _ h)
      (list_any_at (λ list. holds list out.pickup && holds list out.delivery) other out_serves.vehicle [] (omega (arith, low, many))
      (ap (λ list. holds list out.pickup && holds list out.delivery) (sym out_seat)
      ∙ and_both (holds (route lists out_serves.vehicle) out.pickup) _ out_serves.picks out_serves.delivers))

  module _ (few_here : (x : ℕ) → times_in x lists ≤ 1) (few_there : (x : ℕ) → times_in x other ≤ 1) where
    out_each : (u : ℕ) → ComesToSame (route lists u) (route other u) (route (map (without_pair out) lists) u) (route (map (without_pair out) other) u)
    out_each u = elim (same_or_not u out_serves.vehicle) [
      | inl here ↦ (
          let same : route lists u ≡ route other u = ap (route lists) here ∙ out_seat ∙ ap (route other) (sym here) in
          inl (same, route_map (without_pair out) refl lists u ∙ ap (without_pair out) same ∙ sym (route_map (without_pair out) refl other u)))
      | inr apart ↦ (
          let picks : IsTrue (holds (route other out_serves.vehicle) out.pickup) = ap (λ l. holds l out.pickup) (sym out_seat) ∙ out_serves.picks in
          let delivers : IsTrue (holds (route other out_serves.vehicle) out.delivery) = ap (λ l. holds l out.delivery) (sym out_seat) ∙ out_serves.delivers in
          inr (
            off_the_list out lists out_serves.vehicle u few_here out_serves.picks out_serves.delivers apart,
            off_the_list out other out_serves.vehicle u few_there picks delivers apart,
          ))
    ]

    out_local : IsLocal model (PairInactive p) lists other
    out_local =
        let same = agree.active refl in
        record {
          many = agree.many;
          each = out_each;
          active = inl (same, λ i x. (active_without out lists x ∙ ap (λ f. keeps out x && f x) same ∙ sym (active_without out other x)) i);
        }

-- ---- all kinds

-- a move of the one is a move of the other
pub moves_local : (model : Model) (lists other : List (List ℕ)) (mv : Move) → IsTrue (is_move model lists mv)
    → Agree model mv lists other → is_move model other mv ≡ is_move model lists mv
moves_local model lists other (RelocatePair p w s t) h agree = pair_moves model lists other p w s t h agree ∙ sym h
moves_local model lists other (PairActive p w s t) h agree = let n = sym agree.many in let l = sym agree.second in let f = sym (agree.active refl) in
    λ i. (not (f i (pair_at model p).pickup) && not (f i (pair_at model p).delivery))
    && (nat_lt p (length model.pairs) && (nat_lt w (n i) && (nat_le s t && nat_le t (length (l i)))))
moves_local model lists other (PairInactive p) h agree = out_moves model lists other p h agree ∙ sym h
moves_local model lists other (MakeActive u w t) h agree = let n = sym agree.many in let l = sym agree.second in let f = sym (agree.active refl) in
    λ i. (is_visit model u && not (f i u)) && (nat_lt w (n i) && nat_le t (length (l i)))
moves_local model lists other (MakeInactive v a) h agree = let n = sym agree.many in let l = sym agree.second in
    λ i. nat_lt v (n i) && nat_lt a (length (l i))
moves_local model lists other (SwapActive v a u) h agree = let n = sym agree.many in let l = sym agree.second in let f = sym (agree.active refl) in
    λ i. nat_lt v (n i) && (nat_lt a (length (l i)) && (is_visit model u && not (f i u)))
moves_local model lists other (TwoOpt v a b) h agree =
    named_move_local model lists other (TwoOpt v a b) refl (owned_same model (TwoOpt v a b) lists other refl agree)
moves_local model lists other (OrOpt v a k t) h agree =
    named_move_local model lists other (OrOpt v a k t) refl (owned_same model (OrOpt v a k t) lists other refl agree)
moves_local model lists other (Relocate v a w t) h agree =
    named_move_local model lists other (Relocate v a w t) refl (owned_same model (Relocate v a w t) lists other refl agree)
moves_local model lists other (Exchange v a w b) h agree =
    named_move_local model lists other (Exchange v a w b) refl (owned_same model (Exchange v a w b) lists other refl agree)
moves_local model lists other (Cross v a w b) h agree =
    named_move_local model lists other (Cross v a w b) refl (owned_same model (Cross v a w b) lists other refl agree)

module _ (model : Model) (lists other : List (List ℕ)) (valid : IsTrue (is_valid model lists)) (other_valid : IsTrue (is_valid model other)) where
  few_in : (x : ℕ) → times_in x lists ≤ 1
  few_in = few model lists (are-lists model lists valid)

  few_in_other : (x : ℕ) → times_in x other ≤ 1
  few_in_other = few model other (are-lists model other other_valid)

  one_list : (mv : Move) (w : ℕ) (list more : List ℕ) → apply model lists mv ≡ with_route lists w list
      → apply model other mv ≡ with_route other w more → second_of mv ≡ w → IsTrue (changes_activity (kind_of mv))
      → w < length lists → list ≡ more → Agree model mv lists other → IsLocal model mv lists other
  one_list mv w list more made made_too named changes low same agree =
      let there : route lists w ≡ route other w = ap (route lists) (sym named) ∙ agree.second ∙ ap (route other) named in
      let active = agree.active changes in
      record {
        many = agree.many;
        each = λ u. subst (λ l. ComesToSame (route lists u) (route other u) (route l u) (route (apply model other mv) u)) (sym made)
            (subst (λ l. ComesToSame (route lists u) (route other u) (route (with_route lists w list) u) (route l u))
            (sym made_too) (put_each lists other w list more agree.many low there same u));
        active = inl (
          active,
          ap is_active made ∙ put_active lists other w list more agree.many low there same few_in few_in_other active ∙ ap is_active (sym made_too),
        );
      }

  local_of : (mv : Move) → IsTrue (is_move model lists mv) → Agree model mv lists other → IsLocal model mv lists other
  local_of (RelocatePair p w s t) h agree = pair_local model lists other p w s t h agree few_in few_in_other
  local_of (PairActive p w s t) h agree =
      one_list (PairActive p w s t) w _ _ refl refl refl refl (let low : w < length lists = Prim.grind arith in low)
      (ap (with_pair (pair_at model p) s t) agree.second) agree
  local_of (PairInactive p) h agree = out_local model lists other p h agree few_in few_in_other
  local_of (MakeActive u w t) h agree =
      one_list (MakeActive u w t) w _ _ refl refl refl refl (let low : w < length lists = Prim.grind arith in low) (ap (λ l. insert l t u) agree.second) agree
  local_of (MakeInactive v a) h agree =
      one_list (MakeInactive v a) v _ _ refl refl refl refl (let low : v < length lists = Prim.grind arith in low) (ap (λ l. remove l a) agree.second) agree
  local_of (SwapActive v a u) h agree =
      one_list (SwapActive v a u) v _ _ refl refl refl refl
      (let low : v < length lists = Prim.grind arith in low) (ap (λ l. slice_set l a u) agree.second) agree
  local_of (TwoOpt v a b) h agree = owned_local model (TwoOpt v a b) lists other h refl (owned_same model (TwoOpt v a b) lists other refl agree)
  local_of (OrOpt v a k t) h agree = owned_local model (OrOpt v a k t) lists other h refl (owned_same model (OrOpt v a k t) lists other refl agree)
  local_of (Relocate v a w t) h agree = owned_local model (Relocate v a w t) lists other h refl (owned_same model (Relocate v a w t) lists other refl agree)
  local_of (Exchange v a w b) h agree = owned_local model (Exchange v a w b) lists other h refl (owned_same model (Exchange v a w b) lists other refl agree)
  local_of (Cross v a w b) h agree = owned_local model (Cross v a w b) lists other h refl (owned_same model (Cross v a w b) lists other refl agree)

pub is_local : (model : Model) (lists other : List (List ℕ)) (mv : Move) → Alike model mv lists other → IsLocal model mv lists other
is_local model lists other mv both = local_of model lists other both.valid both.other_valid mv both.is_one both.agree

-- ---- what a move leaves

-- a move that changes no activity leaves the active visits
pub activity_stays : (model : Model) (lists : List (List ℕ)) (mv : Move) → IsTrue (is_move model lists mv)
    → changes_activity (kind_of mv) ≡ false → is_active (apply model lists mv) ≡ is_active lists
activity_stays model lists (RelocatePair p w s t) h low = same_active_pair model lists p w s t h
activity_stays model lists (TwoOpt v a b) h low = same_active model lists (TwoOpt v a b) h refl
activity_stays model lists (OrOpt v a k t) h low = same_active model lists (OrOpt v a k t) h refl
activity_stays model lists (Relocate v a w t) h low = same_active model lists (Relocate v a w t) h refl
activity_stays model lists (Exchange v a w b) h low = same_active model lists (Exchange v a w b) h refl
activity_stays model lists (Cross v a w b) h low = same_active model lists (Cross v a w b) h refl
activity_stays model lists mv h still = absurd (false≢true (sym still))

-- the list of a vehicle that is none of the move's stays
module _ (model : Model) (lists : List (List ℕ)) (few_here : (x : ℕ) → times_in x lists ≤ 1) where
  pub pair_out_stays : (p : ℕ) → IsTrue (is_move model lists (PairInactive p)) → (v : ℕ)
      → IsSource model lists (PairInactive p) v → (u : ℕ) → u ≢ v → route (apply model lists (PairInactive p)) u ≡ route lists u
  pair_out_stays p h v source u apart =
      let at = serves_together model lists p (and_right (nat_lt p (length model.pairs)) _ h) in
      off_the_list (pair_at model p) lists v u few_here source (delivers_too model lists p few_here at v source) apart

  pub others_stay : (mv : Move) → IsTrue (is_move model lists mv) → (v : ℕ) → IsSource model lists mv v
      → (u : ℕ) → u ≢ v → u ≢ second_of mv → route (apply model lists mv) u ≡ route lists u
  others_stay (RelocatePair p w s t) h v source u apart too =
      let at = serves model lists p (served model lists p w s t h) in
      route_set_other (map (without_pair (pair_at model p)) lists) w u _ too
      ∙ off_the_list (pair_at model p) lists v u few_here source (delivers_too model lists p few_here at v source) apart
  others_stay (PairInactive p) h v source u apart too = pair_out_stays p h v source u apart
  others_stay (PairActive p w s t) h v source u apart too = route_set_other lists w u _ too
  others_stay (MakeActive x w t) h v source u apart too = route_set_other lists w u _ too
  others_stay (MakeInactive x a) h v source u apart too = route_set_other lists x u _ too
  others_stay (SwapActive x a y) h v source u apart too = route_set_other lists x u _ too
  others_stay (TwoOpt x a b) h v source u apart too = stays model lists (TwoOpt x a b) u refl too too
  others_stay (OrOpt x a k t) h v source u apart too = stays model lists (OrOpt x a k t) u refl too too
  others_stay (Relocate x a w t) h v source u apart too = stays model lists (Relocate x a w t) u refl (λ e. apart (e ∙ sym source)) too
  others_stay (Exchange x a w b) h v source u apart too = stays model lists (Exchange x a w b) u refl (λ e. apart (e ∙ sym source)) too
  others_stay (Cross x a w b) h v source u apart too = stays model lists (Cross x a w b) u refl (λ e. apart (e ∙ sym source)) too

  -- a vehicle of the move's
  pub has_source : (mv : Move) → IsTrue (is_move model lists mv) → (v : ℕ) × IsSource model lists mv v
  has_source (TwoOpt v a b) h = (v, refl)
  has_source (OrOpt v a k t) h = (v, refl)
  has_source (Relocate v a w t) h = (v, refl)
  has_source (Exchange v a w b) h = (v, refl)
  has_source (Cross v a w b) h = (v, refl)
  has_source (RelocatePair p w s t) h = let at = serves model lists p (served model lists p w s t h) in (at.vehicle, at.picks)
  has_source (PairActive p w s t) h = (w, refl)
  has_source (PairInactive p) h = let at = serves_together model lists p (and_right (nat_lt p (length model.pairs)) _ h) in (at.vehicle, at.picks)
  has_source (MakeActive u w t) h = (w, refl)
  has_source (MakeInactive v a) h = (v, refl)
  has_source (SwapActive v a u) h = (v, refl)
