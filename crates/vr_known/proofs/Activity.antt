-- A move whose rows are vehicles leaves each visit as often in the lists as it was, so the same visits are active.
use Rattle.std.proofs.Common.{◌⊎◌, ◌≡◌, ◌≢◌, ◌∙◌, ℕ, suc, ◌+◌, ◌<◌, ◌≤◌, true, false, List, ◌++◌, length, reverse, take, drop, sym, ap, inl, inr, arith}
use Rattle.std.proofs.Common.{length-set}
use Rattle.std.specs.Prelude.{IsTrue, ◌==◌, slice_index, slice_range, slice_set}
use Rattle.std.specs.List.{concat}
use Rattle.std.proofs.lemmas.List.{get_or-set_other}
use Rattle.std.proofs.Math.Dec.{eqb}
use Rattle.std.proofs.lemmas.Bool.{false≢true}
use Rattle.std.proofs.lemmas.Bool.Decides.{eqb_tells}
use Rattle.std.proofs.lemmas.List.Folds.{drop_split}
use Rattle.vr_model.specs.routes.Routes.{route, holds, is_active}
use Rattle.vr_model.specs.moves.Moves.{apply, reversed_between, chain_moved}
use Rattle.vr_model.specs.moves.MoveTests.{is_move}
use Rattle.vr_model.specs.declared.records.Model.{Model}
use Rattle.vr_model.specs.declared.neighbours.Move.{Move}
use Rattle.vr_model.specs.declared.neighbours.Move.TheVariants.{TwoOpt, OrOpt, Relocate, Exchange, Cross}
use Rattle.vr_model.proofs.tables.Tests.{same_tests}
use Rattle.vr_model.proofs.routes.Lists.{route_set_same, route_set_other, is_active-concat}
use Rattle.vr_model.proofs.moves.Times.{times, times_in, hit, times_append, times_split, times_reverse, times_set, joined_times, held_times, times_held}
use Rattle.vr_model.proofs.moves.Kept.{removed_times, inserted_times, replaced_times}
use Rattle.vr_known.proofs.Applied.{NamesVehicles}

reversed_times : (x : ℕ) (xs : List ℕ) (a e : ℕ) → a ≤ e → times x (reversed_between xs a e) ≡ times x xs
reversed_times x xs a e low =
    let whole = times_split x a xs in
    let rest : times x (drop a xs) ≡ times x (slice_range xs a e) + times x (drop e xs) = ap (times x) (drop_split xs a e low)
    ∙ times_append x (slice_range xs a e) (drop e xs) in
    let mid = times_reverse x (slice_range xs a e) in
    let one = times_append x (take a xs) (reverse (slice_range xs a e) ++ drop e xs) in
    let two = times_append x (reverse (slice_range xs a e)) (drop e xs) in
    omega (arith, whole, rest, mid, one, two)

moved_times : (x : ℕ) (xs : List ℕ) (a k t : ℕ) → times x (chain_moved xs a k t) ≡ times x xs
moved_times x xs a k t =
    let rest : List ℕ = take a xs ++ drop (a + k) xs in
    let chain : List ℕ = slice_range xs a (a + k) in
    let whole = times_split x a xs in
    let tail : times x (drop a xs) ≡ times x chain + times x (drop (a + k) xs) = ap (times x) (drop_split xs a (a + k) (omega arith))
    ∙ times_append x chain (drop (a + k) xs) in
    let parts = times_append x (take a xs) (drop (a + k) xs) in
    let cut = times_split x t rest in
    let one = times_append x (take t rest) (chain ++ drop t rest) in
    let two = times_append x chain (drop t rest) in
    omega (arith, whole, tail, parts, cut, one, two)

module _ (model : Model) (lists : List (List ℕ)) where
  same_in_one : (x v : ℕ) (list : List ℕ) → v < length lists → times x list ≡ times x (route lists v) → times_in x (slice_set lists v list) ≡ times_in x lists
  same_in_one x v list low same = let whole = times_set x lists v list low in omega (arith, whole, same)

  same_in_two : (x v w n : ℕ) (list other : List ℕ) → v < length lists → w < length lists → v ≢ w
      → times x list + n ≡ times x (route lists v) → times x other ≡ times x (route lists w) + n
      → times_in x (slice_set (slice_set lists v list) w other) ≡ times_in x lists
  same_in_two x v w n list other low low_w apart less more =
      let one = times_set x lists v list low in
      let there : w < length (slice_set lists v list) = omega (arith, low_w, length-set lists v list) in
      let two = times_set x (slice_set lists v list) w other there in
      let same : times x (route (slice_set lists v list) w) ≡ times x (route lists w) = ap (times x) (route_set_other lists v w list (λ e. apart (sym e))) in
      omega (arith, one, two, same, less, more)

  -- a number stands as often after the move as before it
  pub as_often : (mv : Move) → IsTrue (is_move model lists mv) → NamesVehicles mv → (x : ℕ) → times_in x (apply model lists mv) ≡ times_in x lists
  as_often (TwoOpt v a b) h kind x =
      let low : v < length lists = Prim.grind arith in
      let order : a ≤ suc b = Prim.grind arith in
      same_in_one x v _ low (reversed_times x (route lists v) a (suc b) order)
  as_often (OrOpt v a k t) h kind x =
      let low : v < length lists = Prim.grind arith in
      same_in_one x v _ low (moved_times x (route lists v) a k t)
  as_often (Relocate v a w t) h kind x =
      let low : v < length lists = Prim.grind arith in
      let low_w : w < length lists = Prim.grind arith in
      let place : a < length (route lists v) = Prim.grind arith in
      let other : (v == w) ≡ false = Prim.grind arith in
      same_in_two x v w (hit x (slice_index (route lists v) a)) _ _ low low_w (apart other)
      (removed_times x (route lists v) a place) (inserted_times x (route lists w) t (slice_index (route lists v) a))
    where
      apart : (v == w) ≡ false → v ≢ w
      apart e same = Prim.grind arith
  as_often (Exchange v a w b) h kind x =
      let low : v < length lists = Prim.grind arith in
      let low_w : w < length lists = Prim.grind arith in
      let place : a < length (route lists v) = Prim.grind arith in
      let other : b < length (route lists w) = Prim.grind arith in
      let behind : (v == w) ≡ true → a < b = λ e. Prim.grind arith in
      let y : ℕ = slice_index (route lists w) b in
      let z : ℕ = slice_index (route lists v) a in
      let list : List ℕ = slice_set (route lists v) a y in
      let first : List (List ℕ) = slice_set lists v list in
      let one = times_set x lists v list low in
      let put = replaced_times x (route lists v) a y place in
      let low_first : w < length first = omega (arith, low_w, length-set lists v list) in
      let same = kept v a w b y low behind (eqb_tells v w) in
      let there : b < length (route first w) = let e = same.1 in omega (arith, other, e) in
      let two = times_set x first w (slice_set (route first w) b z) low_first in
      let put_two = replaced_times x (route first w) b z there in
      let found : hit x (slice_index (route first w) b) ≡ hit x y = ap (hit x) same.0 in
      omega (arith, one, put, two, put_two, found)
    where
      kept : (v a w b y : ℕ) → v < length lists → ((v == w) ≡ true → a < b) → ((eqb v w ≡ true) × (v ≡ w)) ⊎ ((eqb v w ≡ false) × (v ≢ w))
          → (slice_index (route (slice_set lists v (slice_set (route lists v) a y)) w) b ≡ slice_index (route lists w) b)
          × (length (route (slice_set lists v (slice_set (route lists v) a y)) w) ≡ length (route lists w))
      kept v a w b y low behind (inl same) =
          let order = behind same.0 in
          let list : List ℕ = slice_set (route lists v) a y in
          let row : route (slice_set lists v list) w ≡ list = ap (route (slice_set lists v list)) (sym same.1) ∙ route_set_same lists v list low in (
            ap (λ l. slice_index l b) row ∙ get_or-set_other (route lists v) a b y 0 (λ e. omega (arith, e, order))
                ∙ ap (λ u. slice_index (route lists u) b) same.1,
            ap length row ∙ length-set (route lists v) a y ∙ ap (λ u. length (route lists u)) same.1,
          )
      kept v a w b y low behind (inr other) =
          let row = route_set_other lists v w (slice_set (route lists v) a y) (λ e. other.1 (sym e)) in
          (ap (λ l. slice_index l b) row, ap length row)
  as_often (Cross v a w b) h kind x =
      let low_w : w < length lists = Prim.grind arith in
      let order : v < w = Prim.grind arith in
      let low : v < length lists = omega (arith, low_w, order) in
      let list : List ℕ = take b (route lists w) ++ drop a (route lists v) in
      let more : List ℕ = take a (route lists v) ++ drop b (route lists w) in
      let one = times_set x lists v list low in
      let there : w < length (slice_set lists v list) = omega (arith, low_w, length-set lists v list) in
      let two = times_set x (slice_set lists v list) w more there in
      let same : times x (route (slice_set lists v list) w) ≡ times x (route lists w) = ap (times x)
      (route_set_other lists v w list (λ e. omega (arith, e, order))) in
      let cut_v = times_split x a (route lists v) in
      let cut_w = times_split x b (route lists w) in
      let join_v = times_append x (take b (route lists w)) (drop a (route lists v)) in
      let join_w = times_append x (take a (route lists v)) (drop b (route lists w)) in
      omega (arith, one, two, same, cut_v, cut_w, join_v, join_w)
  as_often other h kind x = absurd (false≢true kind)

-- a number that stands as often or more is active where it was
active_where : (lists more : List (List ℕ)) (x : ℕ) → times_in x lists ≡ times_in x more → IsTrue (is_active lists x) → IsTrue (is_active more x)
active_where lists more x same h =
    let held : IsTrue (holds (concat lists) x) = sym (is_active-concat lists x) ∙ h in
    let some = held_times x (concat lists) held in
    let a = joined_times x lists in
    let b = joined_times x more in
    is_active-concat more x ∙ times_held x (concat more) (omega (arith, some, a, b, same))

-- the same visits are active in lists in which each number stands as often
pub active_same : (lists more : List (List ℕ)) → ((x : ℕ) → times_in x lists ≡ times_in x more) → is_active lists ≡ is_active more
active_same lists more same =
    λ i x. same_tests (is_active lists x) (is_active more x) (active_where lists more x (same x)) (active_where more lists x (sym (same x))) i

-- the same visits are active after the move as before it
pub same_active : (model : Model) (lists : List (List ℕ)) (mv : Move) → IsTrue (is_move model lists mv)
    → NamesVehicles mv → is_active (apply model lists mv) ≡ is_active lists
same_active model lists mv h kind = active_same (apply model lists mv) lists (as_often model lists mv h kind)
