-- Lists of which nodes are taken out are lists of the model.
use Rattle.std.proofs.Common.{◌≡◌, ◌∙◌, ℕ, ◌+◌, ◌<◌, ◌≤◌, Bool, true, false, cond, not, List, [], ◌∷◌, ◌++◌, length, map, take, ap, arith}
use Rattle.std.specs.Prelude.{IsTrue, ◌==◌, filter}
use Rattle.std.specs.List.{list_all, concat}
use Rattle.std.proofs.lemmas.Grind.{take_at_read}
use Rattle.std.proofs.lemmas.List.{get_or-map, length-map}
use Rattle.vr_model.specs.deciding.Testing.{and_left, and_right, and_both, eq_of_test, test_of_eq}
use Rattle.vr_model.specs.tables.Tables.{is_visit}
use Rattle.vr_model.specs.routes.Routes.{route, holds, are_lists}
use Rattle.vr_model.specs.first.Items.{pair_of}
use Rattle.vr_model.specs.declared.records.Model.{Model}
use Rattle.vr_model.proofs.moves.Times.{hit, times, times_in, joined_times, held_times, times_held, distinct_of_times, all_held, all_of_held}
use Rattle.vr_model.proofs.moves.KeptLists.{few}
use Rattle.vr_lns.specs.Cuts.{cut_chain, goes_with, left_by}
use Rattle.vr_lns.specs.declared.leaving.CutOf.{CutOf}

module _ (stays : ℕ → Bool) where
  filter_times : (x : ℕ) (xs : List ℕ) → times x (filter stays xs) ≤ times x xs
  filter_times x [] = omega arith
  filter_times x (y ∷ ys) = by (stays y) (filter_times x ys)
    where
      by : (t : Bool) → times x (filter stays ys) ≤ times x ys → times x (cond t (y ∷ filter stays ys) (filter stays ys)) ≤ hit x y + times x ys
      by true low = omega (arith, low)
      by false low = omega (arith, low)

  fewer : (x : ℕ) (lists : List (List ℕ)) → times_in x (map (filter stays) lists) ≤ times_in x lists
  fewer x [] = omega arith
  fewer x (l ∷ ls) = let here = filter_times x l in let later = fewer x ls in omega (arith, here, later)

  module _ (model : Model) (lists : List (List ℕ)) (are : IsTrue (are_lists model lists)) where
    few_left : (x : ℕ) → times x (concat (map (filter stays) lists)) ≤ 1
    few_left x =
        let same = joined_times x (map (filter stays) lists) in
        let less = fewer x lists in
        let one = few model lists are x in
        omega (arith, same, less, one)

    visit_left : (x : ℕ) → IsTrue (holds (concat (map (filter stays) lists)) x) → IsTrue (is_visit model x)
    visit_left x held =
        let same = joined_times x (map (filter stays) lists) in
        let less = fewer x lists in
        let some = held_times x (concat (map (filter stays) lists)) held in
        let before = joined_times x lists in
        all_held (is_visit model) (concat lists)
        (and_left (list_all (is_visit model) (concat lists)) _ (and_right (length lists == length model.vehicles) _ are)) x
        (times_held x (concat lists) (omega (arith, same, less, some, before)))

    -- what is left of lists of the model are lists of the model
    pub lists_left : IsTrue (are_lists model (map (filter stays) lists))
    lists_left = and_both (length (map (filter stays) lists) == length model.vehicles) _
        (test_of_eq (length (map (filter stays) lists)) (length model.vehicles)
        (length-map lists (filter stays) ∙ eq_of_test (length lists) (length model.vehicles) (and_left (length lists == length model.vehicles) _ are)))
        (and_both (list_all (is_visit model) (concat (map (filter stays) lists))) _
        (all_of_held (is_visit model) (concat (map (filter stays) lists)) visit_left) (distinct_of_times (concat (map (filter stays) lists)) few_left))

-- what a cut leaves are lists of the model
pub left_are_lists : (cut : CutOf)
    → are_lists cut.lookups.now.closed.model.now (left_by cut.lookups.now.closed.model.now cut.most cut.routes.now.lists cut.at) ≡ true
left_are_lists cut =
    let chain = cut_chain cut.most cut.routes.now.lists cut.at in
    lists_left (λ node. not (goes_with chain node (pair_of cut.lookups.now.closed.model.now node)))
    cut.lookups.now.closed.model.now cut.routes.now.lists cut.lists

-- ---- list by list

-- what is left of the next list
pub left_more : (f : List ℕ → List ℕ) (lists : List (List ℕ)) (v : ℕ) → v < length lists
    → take (v + 1) (map f lists) ≡ take v (map f lists) ++ f (route lists v) ∷ []
left_more f lists v low =
    let many = length-map lists f in
    (take_at_read (map f lists) v [] (omega (arith, low, many))).1 ∙ ap (λ l. take v (map f lists) ++ l ∷ []) (get_or-map f lists v [] [] low)
