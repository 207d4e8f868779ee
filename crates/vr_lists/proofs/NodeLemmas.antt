-- Numbers of nodes, as they are written from the last to the first.
use Rattle.std.proofs.Common.{◌≡◌, ◌∙◌, ◌<◌, ◌≤◌, ◌+◌, ℕ, zero, suc, List, [], ◌∷◌, Bool, true, false, cond, not, refl, ap, sym, subst, inl, inr, arith, length}
use Rattle.std.proofs.Common.{drop, get_or, replicate}
use Rattle.std.specs.Prelude.{◌==◌, ◌||◌, nat_lt, slice_get, slice_index_or, slice_set, Some, None, All}
use Rattle.std.specs.List.{list_any, position_or_len}
use Rattle.std.proofs.lemmas.Bool.Decides.{nat_tests}
use Rattle.std.proofs.lemmas.Bool.{cases_lt}
use Rattle.std.proofs.lemmas.Grind.{get_or_default_zero}
use Rattle.std.proofs.lemmas.List.{at_drop_more, get_or_past, get_or-replicate, get_or-set_same, get_or-set_other, length-replicate, length-set}
use Rattle.std.proofs.lemmas.List.Folds.{find_at}
use Rattle.std.proofs.lemmas.List.Sums.{position_or_len_is, prefix_len-le-length}
use Rattle.vr_model.specs.declared.records.Model.{Model}
use Rattle.vr_model.specs.declared.records.Allowed.{Allowed}
use Rattle.vr_model.specs.tables.WellFormed.{IsWellFormed}
use Rattle.vr_model.specs.routes.Routes.{holds}
use Rattle.vr_model.specs.routes.Rules.{allows_vehicle, row_allows_vehicle}
use Rattle.vr_model.specs.deciding.Testing.{eq_of_test, test_of_eq}
use Rattle.vr_model.proofs.tables.Tests.{apart, fails, clash}
use Rattle.vr_model.proofs.routes.Lists.{visit_below, place_of_held}
use Rattle.vr_lists.specs.Nodes.{group_number, pair_number, row_number, node_number, AreNodeTables, AreWritten}

-- the first place from k on, by the entry there and the first place behind
pub number_step : {A : Type 0} (p : A → Bool) (xs : List A) (k : ℕ) (d : A) → k < length xs
    → k + position_or_len p (drop k xs) ≡ cond (p (get_or xs k d)) k (k + 1 + position_or_len p (drop (k + 1) xs))
number_step p xs k d low = at_drop_more (λ ys. k + position_or_len p ys) xs k d low ∙ by (p (get_or xs k d)) (position_or_len p (drop (k + 1) xs))
  where
    by : (b : Bool) (n : ℕ) → k + cond (not b) (1 + n) 0 ≡ cond b k (k + 1 + n)
    by true n = omega arith
    by false n = omega arith

-- a test that something passes is whether the first place is within
pub any_number : {A : Type 0} (p : A → Bool) (xs : List A) → list_any p xs ≡ nat_lt (position_or_len p xs) (length xs)
any_number p [] = grind (arith, nat_tests)
any_number p (x ∷ xs) = by (p x) (any_number p xs)
  where
    by : (b : Bool) → list_any p xs ≡ nat_lt (position_or_len p xs) (length xs)
        → (b || list_any p xs) ≡ nat_lt (cond (not b) (1 + position_or_len p xs) 0) (suc (length xs))
    by true rest = grind (arith, nat_tests)
    by false rest = grind (arith, nat_tests)

pub number_within : {A : Type 0} (p : A → Bool) (xs : List A) → position_or_len p xs ≤ length xs
number_within p xs = prefix_len-le-length (λ x. not (p x)) xs

-- nothing passes
pub none_passes : {A : Type 0} (p : A → Bool) (xs : List A) → ((k : ℕ) (d : A) → k < length xs → p (get_or xs k d) ≡ false) → position_or_len p xs ≡ length xs
none_passes p [] fail = refl
none_passes p (x ∷ xs) fail =
    position_or_len_is p (x ∷ xs) (length (x ∷ xs)) x (omega arith) (λ k low. fail k x low) (λ low. absurd (omega (arith, low)))

-- numbers below n do not hold others
pub not_held : (xs : List ℕ) (n y : ℕ) → All (λ x. x < n) xs → n ≤ y → holds xs y ≡ false
not_held xs n y below past =
    fails (holds xs y) (λ h. let at = place_of_held xs y h in let low = below at.0 0 at.1 in let is = at.2 in omega (arith, low, is, past))

-- a number that is no node is in no group
pub no_node-group : (model : Model) → IsWellFormed model → (node : ℕ) → model.nodes ≤ node → group_number model node ≡ length model.groups
no_node-group model well_formed node past =
    none_passes (λ group. holds group.nodes node) model.groups (λ k d low.
    not_held (get_or model.groups k d).nodes model.nodes node
    (λ i x within. visit_below model (get_or (get_or model.groups k d).nodes i x) ((well_formed.each_group k d low).each_node_is_visit i x within)) past)

-- and in no pair
pub no_node-pair : (model : Model) → IsWellFormed model → (node : ℕ) → model.nodes ≤ node → pair_number model node ≡ length model.pairs
no_node-pair model well_formed node past =
    none_passes (λ pair. (pair.pickup == node) || (pair.delivery == node)) model.pairs (λ k d low.
    let pair = get_or model.pairs k d in
    let pickup = visit_below model pair.pickup (well_formed.each_pair k d low).pickup_is_visit in
    let delivery = visit_below model pair.delivery (well_formed.each_pair k d low).delivery_is_visit in
    (λ t. apart pair.pickup node (λ same. omega (arith, pickup, same, past)) t || apart pair.delivery node (λ same. omega (arith, delivery, same, past)) t))

-- and has no row
pub no_node-row : (model : Model) → IsWellFormed model → (node : ℕ) → model.nodes ≤ node → row_number model node ≡ length model.allowed
no_node-row model well_formed node past =
    none_passes (λ row. row.node == node) model.allowed (λ k d low.
    let visit = visit_below model (get_or model.allowed k d).node (well_formed.each_allowed k d low).node_is_visit in
    apart (get_or model.allowed k d).node node (λ same. omega (arith, visit, same, past)))

-- which vehicles a node allows, by the number of its row
pub allows-none : (model : Model) (v node : ℕ) → length model.allowed ≤ row_number model node → true ≡ allows_vehicle model v node
allows-none model v node past =
    sym (ap (λ row. row_allows_vehicle row v) (find_at (λ row. row.node == node) model.allowed ∙ past_end model.allowed (row_number model node) past))
  where
    past_end : (rows : List Allowed) (k : ℕ) → length rows ≤ k → slice_get rows k ≡ None
    past_end [] k h = refl
    past_end (row ∷ rows) zero h = absurd (omega (arith, h))
    past_end (row ∷ rows) (suc k) h = past_end rows k (omega (arith, h))

pub allows-row : (model : Model) (v node : ℕ) (other : Allowed) → row_number model node < length model.allowed
    → holds (get_or model.allowed (row_number model node) other).vehicles v ≡ allows_vehicle model v node
allows-row model v node other low =
    sym (ap (λ row. row_allows_vehicle row v) (find_at (λ row. row.node == node) model.allowed ∙ within model.allowed (row_number model node) low))
  where
    within : (rows : List Allowed) (k : ℕ) → k < length rows → slice_get rows k ≡ Some (get_or rows k other)
    within [] k h = absurd (omega (arith, h))
    within (row ∷ rows) zero h = refl
    within (row ∷ rows) (suc k) h = within rows k (omega (arith, h))

-- one entry more, from the last to the first
pub numbers_step : {A : Type 0} (p : A → Bool) (xs : List A) (k n : ℕ) (x : A) (old new : ℕ) → k + 1 ≡ n → k < length xs → get_or xs k x ≡ x
    → old ≡ n + position_or_len p (drop n xs) → new ≡ cond (p x) k old → new ≡ k + position_or_len p (drop k xs)
numbers_step p xs k n x old new more low is before written =
    written
    ∙ sym (number_step p xs k x low
    ∙ ap (λ y. cond (p y) k (k + 1 + position_or_len p (drop (k + 1) xs))) is
    ∙ ap (λ i. cond (p x) k (i + position_or_len p (drop i xs))) more
    ∙ ap (λ i. cond (p x) k i) (sym before))

-- one number written over
pub set_number : (numbers : List ℕ) (i y node : ℕ) → i < length numbers
    → node_number (slice_set numbers i y) node ≡ cond (i == node) y (node_number numbers node)
set_number numbers i y node low = by (i == node) refl
  where
    by : (b : Bool) → (i == node) ≡ b → node_number (slice_set numbers i y) node ≡ cond b y (node_number numbers node)
    by true e = let same : i ≡ node = eq_of_test i node e in subst (λ k. node_number (slice_set numbers i y) k ≡ y) same (get_or-set_same numbers i y 0 low)
    by false e = get_or-set_other numbers i node y 0 (λ same. clash (i == node) (test_of_eq i node (sym same)) e)

-- two numbers written over, one behind the other
pub set_two : (numbers : List ℕ) (i j y node : ℕ) → i < length numbers → j < length numbers
    → node_number (slice_set (slice_set numbers i y) j y) node ≡ cond ((i == node) || (j == node)) y (node_number numbers node)
set_two numbers i j y node low low_too =
    let long = length-set numbers i y in
    set_number (slice_set numbers i y) j y node (omega (arith, low_too, long)) ∙ ap (λ n. cond (j == node) y n) (set_number numbers i y node low)
    ∙ either (i == node) (j == node) (node_number numbers node)
  where
    either : (a b : Bool) (n : ℕ) → cond b y (cond a y n) ≡ cond (a || b) y n
    either true true n = refl
    either true false n = refl
    either false true n = refl
    either false false n = refl

-- marks of some vehicles among marks that were not set
pub marks_written : (n : ℕ) (vehicles : List ℕ) (before after : List Bool)
    → All (λ v. v < n) vehicles → before ≡ replicate n false → length after ≡ length before
    → AreWritten before vehicles true after → (v : ℕ) → slice_index_or after v false ≡ holds vehicles v
marks_written n vehicles before after within none count written v = elim (cases_lt v n) [
  | inl low ↦ (
      let at : slice_index_or before v false ≡ false = ap (λ marks. slice_index_or marks v false) none ∙ get_or-replicate n v false false low in
      written v false (omega (arith, low, long)) ∙ ap (λ b. cond (holds vehicles v) true b) at ∙ marked (holds vehicles v))
  | inr past ↦ get_or_past after v false (omega (arith, past, long, count)) ∙ sym (not_held vehicles n v within past)
]
  where
    long : length before ≡ n
    long = ap length none ∙ length-replicate n false

    marked : (b : Bool) → cond b true false ≡ b
    marked true = refl
    marked false = refl

module _ (model : Model) (groups pairs rows : List ℕ) (marks : List (List Bool)) (are : AreNodeTables model groups pairs rows marks) where
  -- the number of a group, as it is kept
  pub group_kept : (node many : ℕ) → many ≡ length model.groups → slice_index_or groups node many ≡ group_number model node
  group_kept node many all = elim (cases_lt node model.nodes) [
    | inl low ↦ get_or_default_zero groups node many (omega (arith, low, are.groups_are.long)) ∙ are.groups_are.each node low
    | inr past ↦ get_or_past groups node many (omega (arith, past, are.groups_are.long)) ∙ all ∙ sym (no_node-group model are.well_formed node past)
  ]

  -- the number of a pair
  pub pair_kept : (node many : ℕ) → many ≡ length model.pairs → slice_index_or pairs node many ≡ pair_number model node
  pair_kept node many all = elim (cases_lt node model.nodes) [
    | inl low ↦ get_or_default_zero pairs node many (omega (arith, low, are.pairs_are.long)) ∙ are.pairs_are.each node low
    | inr past ↦ get_or_past pairs node many (omega (arith, past, are.pairs_are.long)) ∙ all ∙ sym (no_node-pair model are.well_formed node past)
  ]

  -- the number of a row
  pub row_kept : (node many : ℕ) → many ≡ length model.allowed → slice_index_or rows node many ≡ row_number model node
  row_kept node many all = elim (cases_lt node model.nodes) [
    | inl low ↦ get_or_default_zero rows node many (omega (arith, low, are.rows_are.long)) ∙ are.rows_are.each node low
    | inr past ↦ get_or_past rows node many (omega (arith, past, are.rows_are.long)) ∙ all ∙ sym (no_node-row model are.well_formed node past)
  ]

  -- whether a vehicle may visit a node with a row
  pub row_allows : (v node row : ℕ) (kept : List Bool) → row ≡ row_number model node → row < length marks → slice_index_or marks row [] ≡ kept
      → slice_index_or kept v false ≡ allows_vehicle model v node
  row_allows v node row kept is low at =
      let other : Allowed = record { node = 0; vehicles = [] } in
      let within : row_number model node < length model.allowed = omega (arith, low, is, are.marks_are.one_of_each) in
      ap (λ m. slice_index_or m v false) (sym at)
      ∙ are.marks_are.each row other (omega (arith, low, are.marks_are.one_of_each)) v
      ∙ ap (λ k. holds (get_or model.allowed k other).vehicles v) is
      ∙ allows-row model v node other within

  -- and one without
  pub free_node : (v node row : ℕ) → row ≡ row_number model node → length marks ≤ row → true ≡ allows_vehicle model v node
  free_node v node row is past = allows-none model v node (omega (arith, past, is, are.marks_are.one_of_each))
