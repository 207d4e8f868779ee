-- A move leaves the lists of the vehicles that it does not touch, and those that it touches have lists.
use Rattle.std.proofs.Common.{◌≡◌, ◌≢◌, ◌∙◌, ℕ, zero, ◌<◌, ◌≤◌, List, length, Option, Some, None, refl, sym, subst, lt_of_lt_of_le, arith}
use Rattle.std.specs.Prelude.{◌&&◌, IsTrue, nat_lt}
use Rattle.vr_model.specs.deciding.Testing.{and_left, and_right, and_both}
use Rattle.vr_model.specs.moves.Moves.{apply, is_pair_together, with_route}
use Rattle.vr_model.specs.moves.MoveTests.{is_move}
use Rattle.vr_model.specs.routes.Routes.{holds, is_active, route}
use Rattle.vr_model.specs.tables.Tables.{pair_at}
use Rattle.vr_model.specs.declared.neighbours.Move.{Move}
use Rattle.vr_model.specs.declared.neighbours.Move.TheVariants.{TwoOpt, OrOpt, Relocate, Exchange, Cross, RelocatePair, PairActive, PairInactive, MakeActive}
use Rattle.vr_model.specs.declared.neighbours.Move.TheVariants.{MakeInactive, SwapActive}
use Rattle.vr_model.specs.declared.records.Model.{Model}
use Rattle.vr_model.proofs.moves.Times.{times_in}
use Rattle.vr_model.proofs.routes.Lists.{held_at, route_set_other}
use Rattle.vr_model.proofs.tables.Tests.{clash}
use Rattle.vr_routes.proofs.FactLemmas.{is_served, of_cross, of_exchange, of_make_active, of_make_inactive, of_or_opt, of_pair_active, of_relocate}
use Rattle.vr_routes.proofs.FactLemmas.{of_relocate_pair, of_swap_active, of_two_opt}
use Rattle.vr_known.specs.Blocks.{first_of}
use Rattle.vr_known.specs.Touching.{AreFound, named_by}
use Rattle.vr_known.specs.declared.touched.Touched.{Touched}
use Rattle.vr_known.proofs.Local.{others_stay, pair_out_stays}
use Rattle.vr_known.proofs.Pairs.{active_held, served, serves}

-- lists are the same but for two vehicles
abbrev pub SameBut : ℕ → ℕ → List (List ℕ) → List (List ℕ) → Type 0
SameBut v w lists later = (u : ℕ) → u ≢ v → u ≢ w → route later u ≡ route lists u

one_set : (lists : List (List ℕ)) (v : ℕ) (xs : List ℕ) → SameBut v v lists (with_route lists v xs)
one_set lists v xs u apart _ = route_set_other lists v u xs apart

two_set : (lists : List (List ℕ)) (v w : ℕ) (xs ys : List ℕ) → SameBut v w lists (with_route (with_route lists v xs) w ys)
two_set lists v w xs ys u apart apart_too = route_set_other (with_route lists v xs) w u ys apart_too ∙ route_set_other lists v u xs apart

-- lists are the same but for the vehicles that are named, where they are
abbrev AreBut : List (List ℕ) → List (List ℕ) → Option Touched → Type 0
AreBut lists later None = ℕ
AreBut lists later (Some both) = SameBut both.first both.second lists later

-- two vehicles have lists, where there are two
abbrev HaveLists : List (List ℕ) → Option Touched → Type 0
HaveLists lists None = ℕ
HaveLists lists (Some both) = (both.first < length lists) × (both.second < length lists)

not_named : {both : Touched} → None ≡ Some both → ⊥
not_named e = Prim.cc

module _ (model : Model) (lists : List (List ℕ)) where
  changed_only : (mv : Move) → AreBut lists (apply model lists mv) (named_by mv)
  changed_only (TwoOpt v a b) = one_set lists v _
  changed_only (OrOpt v a k t) = one_set lists v _
  changed_only (Relocate v a w t) = two_set lists v w _ _
  changed_only (Exchange v a w b) = two_set lists v w _ _
  changed_only (Cross v a w b) = two_set lists v w _ _
  changed_only (RelocatePair p w s t) = zero
  changed_only (PairActive p w s t) = one_set lists w _
  changed_only (PairInactive p) = zero
  changed_only (MakeActive u w t) = one_set lists w _
  changed_only (MakeInactive v a) = one_set lists v _
  changed_only (SwapActive v a u) = one_set lists v _

  -- a move leaves the lists of vehicles that it does not name
  pub unnamed_kept : (mv : Move) (both : Touched) → named_by mv ≡ Some both → SameBut both.first both.second lists (apply model lists mv)
  unnamed_kept mv both e = subst (AreBut lists (apply model lists mv)) e (changed_only mv)

  -- a move leaves the lists of vehicles that it does not change
  pub unchanged_kept : ((x : ℕ) → times_in x lists ≤ 1) → (mv : Move) → IsTrue (is_move model lists mv) → (both : Touched) → AreFound model lists mv (Some both)
      → SameBut both.first both.second lists (apply model lists mv)
  unchanged_kept few (RelocatePair p w s t) h both told = λ u apart too.
      let picks = held_at (route lists both.first) (pair_at model p).pickup told.1 told.2.place told.2.found in
      others_stay model lists few (RelocatePair p w s t) h both.first picks u apart (λ e. too (e ∙ sym told.0))
  unchanged_kept few mv h both told = unnamed_kept mv both (sym told)

  have_lists : (mv : Move) → IsTrue (is_move model lists mv) → HaveLists lists (named_by mv)
  have_lists (TwoOpt v a b) h = let f = of_two_opt model lists v a b h in (f.vehicle, f.vehicle)
  have_lists (OrOpt v a k t) h = let f = of_or_opt model lists v a k t h in (f.vehicle, f.vehicle)
  have_lists (Relocate v a w t) h = let f = of_relocate model lists v a w t h in (f.vehicle, f.other)
  have_lists (Exchange v a w b) h = let f = of_exchange model lists v a w b h in (f.vehicle, f.other)
  have_lists (Cross v a w b) h = let f = of_cross model lists v a w b h in (f.vehicle, f.other)
  have_lists (RelocatePair p w s t) h = zero
  have_lists (PairActive p w s t) h = let f = of_pair_active model lists p w s t h in (f.vehicle, f.vehicle)
  have_lists (PairInactive p) h = zero
  have_lists (MakeActive u w t) h = let f = of_make_active model lists u w t h in (f.vehicle, f.vehicle)
  have_lists (MakeInactive v a) h = let f = of_make_inactive model lists v a h in (f.vehicle, f.vehicle)
  have_lists (SwapActive v a u) h = let f = of_swap_active model lists v a u h in (f.vehicle, f.vehicle)

  -- the vehicles whose lists a move changes have lists
  pub changed_have_lists : (mv : Move) → IsTrue (is_move model lists mv) → (both : Touched) → AreFound model lists mv (Some both)
      → (both.first < length lists) × (both.second < length lists)
  changed_have_lists (RelocatePair p w s t) h both told =
      (told.2.vehicle, subst (λ u. u < length lists) (sym told.0) (of_relocate_pair model lists p w s t h).vehicle)
  changed_have_lists mv h both told = subst (HaveLists lists) (sym told) (have_lists mv h)

  pub changed_are_few : length lists ≤ 100 → (mv : Move) → IsTrue (is_move model lists mv) → (both : Touched) → AreFound model lists mv (Some both)
      → (both.first < 100) × (both.second < 100)
  changed_are_few few mv h both told =
      let low = changed_have_lists mv h both told in
      (lt_of_lt_of_le low.0 few, lt_of_lt_of_le low.1 few)

  -- ---- a move of which none is found takes a pair out

  takes_out : (mv : Move) → IsTrue (is_move model lists mv) → AreFound model lists mv None → (p : ℕ) × (mv ≡ PairInactive p)
  takes_out (PairInactive p) h none = (p, refl)
  takes_out (RelocatePair p w s t) h none =
      let pickup = (pair_at model p).pickup in
      let at = serves model lists p (served model lists p w s t h) in
      absurd (clash (nat_lt p (length model.pairs) && is_active lists pickup)
      (and_both (nat_lt p (length model.pairs)) (is_active lists pickup)
      (and_left (nat_lt p (length model.pairs)) _ (is_served model lists p w s t h)) (active_held lists pickup at.vehicle at.low at.picks)) none)
  takes_out (TwoOpt v a b) h none = absurd (not_named none)
  takes_out (OrOpt v a k t) h none = absurd (not_named none)
  takes_out (Relocate v a w t) h none = absurd (not_named none)
  takes_out (Exchange v a w b) h none = absurd (not_named none)
  takes_out (Cross v a w b) h none = absurd (not_named none)
  takes_out (PairActive p w s t) h none = absurd (not_named none)
  takes_out (MakeActive u w t) h none = absurd (not_named none)
  takes_out (MakeInactive v a) h none = absurd (not_named none)
  takes_out (SwapActive v a u) h none = absurd (not_named none)

  pub pair_there : (mv : Move) → IsTrue (is_move model lists mv) → AreFound model lists mv None
      → (first_of mv < length model.pairs) × IsTrue (is_pair_together model lists (first_of mv))
  pair_there mv h none =
      let out = takes_out mv h none in
      subst (λ m. (first_of m < length model.pairs) × IsTrue (is_pair_together model lists (first_of m)))
      (sym out.1) (facts out.0 (subst (λ m. IsTrue (is_move model lists m)) out.1 h))
    where
      facts : (p : ℕ) → IsTrue (is_move model lists (PairInactive p)) → (p < length model.pairs) × IsTrue (is_pair_together model lists p)
      facts p h = let low : p < length model.pairs = Prim.grind arith in (low, and_right (nat_lt p (length model.pairs)) _ h)

  -- it leaves the lists of vehicles that do not serve the pair
  pub taken_out_stays : ((x : ℕ) → times_in x lists ≤ 1) → (mv : Move) → IsTrue (is_move model lists mv) → AreFound model lists mv None
      → (v : ℕ) → IsTrue (holds (route lists v) (pair_at model (first_of mv)).pickup) → (u : ℕ) → u ≢ v → route (apply model lists mv) u ≡ route lists u
  taken_out_stays few mv h none v serves u apart =
      let out = takes_out mv h none in
      subst (λ m. IsTrue (is_move model lists m) → IsTrue (holds (route lists v) (pair_at model (first_of m)).pickup)
      → route (apply model lists m) u ≡ route lists u) (sym out.1)
      (λ moved held. pair_out_stays model lists few out.0 moved v held u apart) h serves
