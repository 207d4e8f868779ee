-- The lists after a move are lists of the model.
use Rattle.std.proofs.Common.{◌≡◌, ◌∙◌, ℕ, ◌≤◌, List, length, map, inl, inr, arith, length-set}
use Rattle.std.specs.Prelude.{IsTrue, ◌==◌}
use Rattle.std.specs.List.{list_all, concat}
use Rattle.std.proofs.lemmas.List.{length-map}
use Rattle.vr_model.specs.deciding.Testing.{and_left, and_right, and_both, eq_of_test, test_of_eq}
use Rattle.vr_model.specs.tables.Tables.{is_visit, pair_at}
use Rattle.vr_model.specs.tables.WellFormed.{IsWellFormed}
use Rattle.vr_model.specs.routes.Routes.{holds, are_lists}
use Rattle.vr_model.specs.moves.Moves.{apply, without_pair, with_route}
use Rattle.vr_model.specs.moves.MoveTests.{is_move}
use Rattle.vr_model.specs.moves.MoveLaws.{MovesKeepLists}
use Rattle.vr_model.specs.declared.records.Model.{Model}
use Rattle.vr_model.specs.declared.neighbours.Move.{Move}
use Rattle.vr_model.specs.declared.neighbours.Move.TheVariants.{TwoOpt, OrOpt, Relocate, Exchange, Cross, MakeActive, MakeInactive, SwapActive, PairActive}
use Rattle.vr_model.specs.declared.neighbours.Move.TheVariants.{PairInactive, RelocatePair}
use Rattle.vr_model.proofs.moves.Times.{times, times_in, joined_times, held_times, times_held, distinct_of_times, times_of_distinct, all_held, all_of_held}
use Rattle.vr_model.proofs.moves.Kept.{kept}

-- a move changes no number of lists
pub as_many : (model : Model) (lists : List (List ℕ)) (mv : Move) → length (apply model lists mv) ≡ length lists
as_many model lists (TwoOpt v a b) = length-set lists v _
as_many model lists (OrOpt v a k t) = length-set lists v _
as_many model lists (Relocate v a w t) = length-set (with_route lists v _) w _ ∙ length-set lists v _
as_many model lists (Exchange v a w b) = length-set (with_route lists v _) w _ ∙ length-set lists v _
as_many model lists (Cross v a w b) = length-set (with_route lists v _) w _ ∙ length-set lists v _
as_many model lists (RelocatePair p w s t) = length-set (map (without_pair (pair_at model p)) lists) w _ ∙ length-map lists (without_pair (pair_at model p))
as_many model lists (PairActive p w s t) = length-set lists w _
as_many model lists (PairInactive p) = length-map lists (without_pair (pair_at model p))
as_many model lists (MakeActive u w t) = length-set lists w _
as_many model lists (MakeInactive v a) = length-set lists v _
as_many model lists (SwapActive v a u) = length-set lists v _

module _ (model : Model) (lists : List (List ℕ)) (are : IsTrue (are_lists model lists)) where
  -- each visit stands once at most
  pub few : (x : ℕ) → times_in x lists ≤ 1
  few x =
      let one = times_of_distinct (concat lists)
      (and_right (list_all (is_visit model) (concat lists)) _ (and_right (length lists == length model.vehicles) _ are)) x in
      let same = joined_times x lists in
      omega (arith, one, same)

  -- what stands there is a visit
  standing : (x : ℕ) → 1 ≤ times_in x lists → IsTrue (is_visit model x)
  standing x some = all_held (is_visit model) (concat lists)
      (and_left (list_all (is_visit model) (concat lists)) _ (and_right (length lists == length model.vehicles) _ are)) x
      (times_held x (concat lists) (let same = joined_times x lists in omega (arith, some, same)))

  module _ (well : IsWellFormed model) (mv : Move) (h : IsTrue (is_move model lists mv)) where
    few_after : (x : ℕ) → times x (concat (apply model lists mv)) ≤ 1
    few_after x = let same = joined_times x (apply model lists mv) in
        elim (kept model lists well mv h x) [
          | inl less ↦ (let f = few x in omega (arith, same, less, f))
          | inr new ↦ (let f = new.0 in omega (arith, same, f))
        ]

    visit_after : (x : ℕ) → IsTrue (holds (concat (apply model lists mv)) x) → IsTrue (is_visit model x)
    visit_after x held = let same = joined_times x (apply model lists mv) in let some = held_times x (concat (apply model lists mv)) held in
        elim (kept model lists well mv h x) [
          | inl less ↦ standing x (omega (arith, same, less, some))
          | inr new ↦ new.1
        ]

    pub lists_after : IsTrue (are_lists model (apply model lists mv))
    lists_after = and_both (length (apply model lists mv) == length model.vehicles) _
        (test_of_eq (length (apply model lists mv)) (length model.vehicles)
        (as_many model lists mv ∙ eq_of_test (length lists) (length model.vehicles) (and_left (length lists == length model.vehicles) _ are)))
        (and_both (list_all (is_visit model) (concat (apply model lists mv))) _
        (all_of_held (is_visit model) (concat (apply model lists mv)) visit_after) (distinct_of_times (concat (apply model lists mv)) few_after))

pub moves_keep_lists : MovesKeepLists
moves_keep_lists model well lists mv are h = lists_after model lists are well mv h
