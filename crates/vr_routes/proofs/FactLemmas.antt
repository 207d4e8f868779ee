-- What the numbers of a move tell.
use Rattle.std.proofs.Common.{◌≡◌, ◌≢◌, ℕ, ◌+◌, ◌<◌, ◌≤◌, true, false, ◌&&◌, List, length, arith}
use Rattle.std.specs.Prelude.{IsTrue, ◌==◌, nat_lt}
use Rattle.vr_model.specs.deciding.Testing.{and_both, and_left, and_right}
use Rattle.vr_model.specs.routes.Routes.{route}
use Rattle.vr_model.specs.tables.Tables.{pair_at}
use Rattle.vr_model.specs.moves.Moves.{is_pair_inactive, is_pair_served, without_pair}
use Rattle.vr_model.specs.moves.MoveTests.{is_vehicle, is_place, is_gap, is_inactive, may_put_pair, is_move}
use Rattle.vr_routes.specs.Places.{AreCuts, AreNodeAndGap, AreTwoNodes, AreTwoPlaces}
use Rattle.vr_model.specs.declared.records.Model.{Model}
use Rattle.vr_model.specs.declared.neighbours.Move.TheVariants.{TwoOpt, OrOpt, Relocate, Exchange, Cross, MakeActive, MakeInactive, SwapActive, PairActive}
use Rattle.vr_model.specs.declared.neighbours.Move.TheVariants.{RelocatePair}

module _ (model : Model) (lists : List (List ℕ)) where
  differ : (v w : ℕ) → (v == w) ≡ false → v ≢ w
  differ v w e same = Prim.grind arith

  pub of_two_opt : (v a b : ℕ) → is_move model lists (TwoOpt v a b) ≡ true → AreTwoPlaces lists v a b
  of_two_opt v a b h = record { vehicle = Prim.grind arith; order = Prim.grind arith; place = Prim.grind arith }

  pub record OrOptFacts (v a k t : ℕ) : Type 0 where
    pub vehicle : v < length lists
    pub few : k ≤ 3
    pub chain : a + k ≤ length (route lists v)
    pub gap : t + k ≤ length (route lists v)

  pub of_or_opt : (v a k t : ℕ) → is_move model lists (OrOpt v a k t) ≡ true → OrOptFacts v a k t
  of_or_opt v a k t h = record { vehicle = Prim.grind arith; few = Prim.grind arith; chain = Prim.grind arith; gap = Prim.grind arith }

  pub of_relocate : (v a w t : ℕ) → is_move model lists (Relocate v a w t) ≡ true → AreNodeAndGap lists v a w t
  of_relocate v a w t h =
      record { vehicle = Prim.grind arith; other = Prim.grind arith; apart = differ v w (Prim.grind arith); place = Prim.grind arith; gap = Prim.grind arith }

  pub of_exchange : (v a w b : ℕ) → is_move model lists (Exchange v a w b) ≡ true → AreTwoNodes lists v a w b
  of_exchange v a w b h =
      record { vehicle = Prim.grind arith; other = Prim.grind arith; place = Prim.grind arith; other_place = Prim.grind arith; behind = λ e. Prim.grind arith }

  pub of_cross : (v a w b : ℕ) → is_move model lists (Cross v a w b) ≡ true → AreCuts lists v a w b
  of_cross v a w b h = record {
    vehicle = Prim.grind arith;
    other = Prim.grind arith;
    apart = λ e. Prim.grind arith;
    gap = Prim.grind arith;
    other_gap = Prim.grind arith;
    some = λ e f. Prim.grind arith;
  }

  pub record PlaceFacts (v a : ℕ) : Type 0 where
    pub vehicle : v < length lists
    pub place : a < length (route lists v)

  of_place : (v a : ℕ) → IsTrue (is_vehicle lists v) → IsTrue (is_place lists v a) → PlaceFacts v a
  of_place v a h g = record { vehicle = Prim.grind arith; place = Prim.grind arith }

  pub of_make_inactive : (v a : ℕ) → is_move model lists (MakeInactive v a) ≡ true → PlaceFacts v a
  of_make_inactive v a h = of_place v a (and_left (is_vehicle lists v) _ h) (and_right (is_vehicle lists v) _ h)

  pub of_swap_active : (v a u : ℕ) → is_move model lists (SwapActive v a u) ≡ true → PlaceFacts v a
  of_swap_active v a u h = of_place v a (and_left (is_vehicle lists v) _ h) (and_left (is_place lists v a) _ (and_right (is_vehicle lists v) _ h))

  pub record GapFacts (w t : ℕ) : Type 0 where
    pub vehicle : w < length lists
    pub gap : t ≤ length (route lists w)

  of_gap : (w t : ℕ) → IsTrue (is_vehicle lists w) → IsTrue (is_gap lists w t) → GapFacts w t
  of_gap w t h g = record { vehicle = Prim.grind arith; gap = Prim.grind arith }

  pub of_make_active : (u w t : ℕ) → is_move model lists (MakeActive u w t) ≡ true → GapFacts w t
  of_make_active u w t h =
      let rest = and_right (is_inactive model lists u) _ h in
      of_gap w t (and_left (is_vehicle lists w) _ rest) (and_right (is_vehicle lists w) _ rest)

  pub record PairFacts (p w n s t : ℕ) : Type 0 where
    pub pair : p < length model.pairs
    pub vehicle : w < length lists
    pub order : s ≤ t
    pub gap : t ≤ n

  of_numbers : (p w n s t : ℕ) → IsTrue (may_put_pair model lists p w n s t) → PairFacts p w n s t
  of_numbers p w n s t h = record { pair = Prim.grind arith; vehicle = Prim.grind arith; order = Prim.grind arith; gap = Prim.grind arith }

  pub of_pair_active : (p w s t : ℕ) → is_move model lists (PairActive p w s t) ≡ true → PairFacts p w (length (route lists w)) s t
  of_pair_active p w s t h = of_numbers p w (length (route lists w)) s t (and_right (is_pair_inactive model lists p) _ h)

  pub of_relocate_pair : (p w s t : ℕ) → is_move model lists (RelocatePair p w s t) ≡ true
      → PairFacts p w (length (without_pair (pair_at model p) (route lists w))) s t
  of_relocate_pair p w s t h =
      let n = length (without_pair (pair_at model p) (route lists w)) in
      of_numbers p w n s t (and_left (may_put_pair model lists p w n s t) _ (and_right (is_pair_served model lists p) _ h))

  -- a pair that is moved is there and served
  pub is_served : (p w s t : ℕ) → is_move model lists (RelocatePair p w s t) ≡ true → (nat_lt p (length model.pairs) && is_pair_served model lists p) ≡ true
  is_served p w s t h =
      let low = (of_relocate_pair p w s t h).pair in
      let served = and_left (is_pair_served model lists p) _ h in
      and_both (nat_lt p (length model.pairs)) (is_pair_served model lists p) (Prim.grind arith) served
