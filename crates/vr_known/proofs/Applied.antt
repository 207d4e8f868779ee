-- The lists after a move of one of five kinds: those of its vehicles come from these vehicles' lists, and all others stay.
use Rattle.std.proofs.Common.{◌≡◌, ◌≢◌, ◌∙◌, ◌⊎◌, ℕ, suc, ◌<◌, List, ◌++◌, length, take, drop, sym, ap, ap₂, inl, inr, arith, length-set}
use Rattle.std.specs.Prelude.{IsTrue, ◌==◌, ◌&&◌, ◌||◌, ◌-◌, nat_lt, nat_le, slice_set, insert, remove}
use Rattle.std.proofs.lemmas.Bool.{false≢true}
use Rattle.std.proofs.lemmas.Bool.Decides.{eqb_tells}
use Rattle.vr_model.specs.routes.Routes.{route}
use Rattle.vr_model.specs.moves.Moves.{apply, with_route, reversed_between, chain_moved, node_at, has_chain, is_other, has_some_front}
use Rattle.vr_model.specs.moves.MoveTests.{is_move}
use Rattle.vr_model.specs.declared.records.Model.{Model}
use Rattle.vr_model.specs.declared.neighbours.Move.{Move}
use Rattle.vr_model.specs.declared.neighbours.Move.TheVariants.{TwoOpt, OrOpt, Relocate, Exchange, Cross}
use Rattle.vr_model.proofs.routes.Lists.{route_set_same, route_set_other}
use Rattle.vr_routes.proofs.FactLemmas.{of_cross, of_exchange, of_or_opt, of_relocate, of_two_opt}
use Rattle.vr_model.specs.moves.Kinds.{is_by_vehicle, kind_of, owner}
use Rattle.vr_known.specs.Blocks.{first_of, second_of}

pub same_or_not : (u v : ℕ) → (u ≡ v) ⊎ (u ≢ v)
same_or_not u v = elim (eqb_tells u v) [ inl same ↦ inl same.1 | inr other ↦ inr other.1 ]

-- two lists have the same lists for the two vehicles that a move of one of five kinds names
pub record NamesSame (mv : Move) (lists other : List (List ℕ)) : Type 0 where
  pub many : length lists ≡ length other
  pub first : route lists (first_of mv) ≡ route other (first_of mv)
  pub second : route lists (second_of mv) ≡ route other (second_of mv)

-- two lists in which vehicle v gets the same list
pub set_alike : (lists other : List (List ℕ)) (v u : ℕ) (list more : List ℕ) → length lists ≡ length other → v < length lists → list ≡ more
    → route lists u ≡ route other u → route (with_route lists v list) u ≡ route (with_route other v more) u
set_alike lists other v u list more many low same there = elim (same_or_not u v) [
  | inl here ↦ ap (route (with_route lists v list)) here ∙ route_set_same lists v list low ∙ same
      ∙ sym (route_set_same other v more (omega (arith, low, many))) ∙ ap (route (with_route other v more)) (sym here)
  | inr apart ↦ route_set_other lists v u list apart ∙ there ∙ sym (route_set_other other v u more apart)
]

-- the rows of the moves are vehicles
abbrev pub NamesVehicles : Move → Type 0
NamesVehicles mv = IsTrue (is_by_vehicle (owner (kind_of mv)))

module _ (model : Model) (lists : List (List ℕ)) where
  -- the lists of other vehicles stay
  pub stays : (mv : Move) (u : ℕ) → NamesVehicles mv → u ≢ first_of mv → u ≢ second_of mv → route (apply model lists mv) u ≡ route lists u
  stays (TwoOpt v a b) u kind e f = route_set_other lists v u _ e
  stays (OrOpt v a k t) u kind e f = route_set_other lists v u _ e
  stays (Relocate v a w t) u kind e f = route_set_other (with_route lists v _) w u _ f ∙ route_set_other lists v u _ e
  stays (Exchange v a w b) u kind e f = route_set_other (with_route lists v _) w u _ f ∙ route_set_other lists v u _ e
  stays (Cross v a w b) u kind e f = route_set_other (with_route lists v _) w u _ f ∙ route_set_other lists v u _ e
  stays other u kind e f = absurd (false≢true kind)

  -- the vehicles that such a move names have lists
  both_low : (mv : Move) → IsTrue (is_move model lists mv) → NamesVehicles mv → (first_of mv < length lists) × (second_of mv < length lists)
  both_low (TwoOpt v a b) h kind = let f = of_two_opt model lists v a b h in (f.vehicle, f.vehicle)
  both_low (OrOpt v a k t) h kind = let f = of_or_opt model lists v a k t h in (f.vehicle, f.vehicle)
  both_low (Relocate v a w t) h kind = let f = of_relocate model lists v a w t h in (f.vehicle, f.other)
  both_low (Exchange v a w b) h kind = let f = of_exchange model lists v a w b h in (f.vehicle, f.other)
  both_low (Cross v a w b) h kind = let f = of_cross model lists v a w b h in (f.vehicle, f.other)
  both_low other h kind = absurd (false≢true kind)

  pub first_low : (mv : Move) → IsTrue (is_move model lists mv) → NamesVehicles mv → first_of mv < length lists
  first_low mv h kind = (both_low mv h kind).0

  pub second_low : (mv : Move) → IsTrue (is_move model lists mv) → NamesVehicles mv → second_of mv < length lists
  second_low mv h kind = (both_low mv h kind).1

  module _ (other : List (List ℕ)) where
    -- where two lists agree at a vehicle, so do the lists after the move
    pub alike : (mv : Move) → IsTrue (is_move model lists mv) → NamesVehicles mv → NamesSame mv lists other → (u : ℕ) → route lists u ≡ route other u
        → route (apply model lists mv) u ≡ route (apply model other mv) u
    alike (TwoOpt v a b) h kind agree u there =
        set_alike lists other v u _ _ agree.many (first_low (TwoOpt v a b) h kind) (ap (λ l. reversed_between l a (suc b)) agree.first) there
    alike (OrOpt v a k t) h kind agree u there =
        set_alike lists other v u _ _ agree.many (first_low (OrOpt v a k t) h kind) (ap (λ l. chain_moved l a k t) agree.first) there
    alike (Relocate v a w t) h kind agree u there =
        let mv = Relocate v a w t in
        let list : List ℕ = remove (route lists v) a in
        let more : List ℕ = remove (route other v) a in
        let one : list ≡ more = ap (λ l. remove l a) agree.first in
        let many : length (with_route lists v list) ≡ length (with_route other v more) = length-set lists v list ∙ agree.many ∙ sym (length-set other v more) in
        set_alike (with_route lists v list) (with_route other v more) w u _ _ many
        (let l = length-set lists v list in let s = second_low mv h kind in omega (arith, l, s))
        (ap₂ (λ l m. insert m t (node_at l a)) agree.first agree.second)
        (set_alike lists other v u list more agree.many (first_low mv h kind) one there)
    alike (Exchange v a w b) h kind agree u there =
        let mv = Exchange v a w b in
        let list : List ℕ = slice_set (route lists v) a (node_at (route lists w) b) in
        let more : List ℕ = slice_set (route other v) a (node_at (route other w) b) in
        let one : list ≡ more = ap₂ (λ l m. slice_set l a (node_at m b)) agree.first agree.second in
        let many : length (with_route lists v list) ≡ length (with_route other v more) = length-set lists v list ∙ agree.many ∙ sym (length-set other v more) in
        let at : (x : ℕ) → route lists x ≡ route other x → route (with_route lists v list) x ≡ route (with_route other v more) x = λ x e. set_alike lists
        other v x list more agree.many (first_low mv h kind) one e in
        set_alike (with_route lists v list) (with_route other v more) w u _ _ many
        (let l = length-set lists v list in let s = second_low mv h kind in omega (arith, l, s))
        (ap₂ (λ l m. slice_set m b (node_at l a)) agree.first (at w agree.second))
        (at u there)
    alike (Cross v a w b) h kind agree u there =
        let mv = Cross v a w b in
        let list : List ℕ = take b (route lists w) ++ drop a (route lists v) in
        let more : List ℕ = take b (route other w) ++ drop a (route other v) in
        let one : list ≡ more = ap₂ (λ l m. take b m ++ drop a l) agree.first agree.second in
        let many : length (with_route lists v list) ≡ length (with_route other v more) = length-set lists v list ∙ agree.many ∙ sym (length-set other v more) in
        set_alike (with_route lists v list) (with_route other v more) w u _ _ many
        (let l = length-set lists v list in let s = second_low mv h kind in omega (arith, l, s))
        (ap₂ (λ l m. take a l ++ drop b m) agree.first agree.second)
        (set_alike lists other v u list more agree.many (first_low mv h kind) one there)
    alike mv h kind agree u there = absurd (false≢true kind)

  -- a move of the one is a move of the other
  pub named_move_local : (other : List (List ℕ)) (mv : Move) → NamesVehicles mv → NamesSame mv lists other → is_move model other mv ≡ is_move model lists mv
  named_move_local other (TwoOpt v a b) kind agree = let n = sym agree.many in let l = sym agree.first in
      λ i. nat_lt v (n i) && (nat_lt a b && nat_lt b (length (l i)))
  named_move_local other (OrOpt v a k t) kind agree = let n = sym agree.many in let l = sym agree.first in
      λ i. nat_lt v (n i) && ((nat_le 1 k && nat_le k 3) && (has_chain (l i) a k && (nat_le t (length (l i) - k) && is_other a t)))
  named_move_local other (Relocate v a w t) kind agree = let n = sym agree.many in let l = sym agree.first in let m = sym agree.second in
      λ i. nat_lt v (n i) && (nat_lt w (n i) && (is_other v w && (nat_lt a (length (l i)) && nat_le t (length (m i)))))
  named_move_local other (Exchange v a w b) kind agree = let n = sym agree.many in let l = sym agree.first in let m = sym agree.second in
      λ i. nat_lt v (n i) && (nat_lt w (n i) && (nat_lt a (length (l i)) && (nat_lt b (length (m i)) && (nat_lt v w || ((v == w) && nat_lt a b)))))
  named_move_local other (Cross v a w b) kind agree = let n = sym agree.many in let l = sym agree.first in let m = sym agree.second in
      λ i. nat_lt w (n i) && (nat_lt v w && (nat_le a (length (l i)) && (nat_le b (length (m i)) && has_some_front a b)))
  named_move_local other mv kind agree = absurd (false≢true kind)
