-- Whether the rule of groups holds after a change.
use Rattle.std.proofs.Common.{◌≡◌, ◌∙◌, ℕ, suc, ◌+◌, ◌<◌, ◌≤◌, Bool, true, false, cond, not, List, [], ◌∷◌, length, sum_by, refl, sym, ap, subst, inl, inr}
use Rattle.std.proofs.Common.{arith}
use Rattle.std.specs.Prelude.{◌==◌, ◌&&◌, ◌||◌, IsTrue, nat_lt, nat_le, filter, count_by, is_some, Option, Some, None, ℤ, slice_index_or}
use Rattle.std.specs.List.{list_all}
use Rattle.std.proofs.lemmas.Bool.{cases_lt}
use Rattle.std.proofs.lemmas.List.Sums.{sum_by-cons, count_by-le-length, prefix_len-le-length}
use Rattle.vr_model.specs.deciding.Testing.{and_left, and_right, and_both, or_cases, or_left, or_right, eq_of_test, test_of_eq}
use Rattle.vr_model.specs.tables.Tables.{visits}
use Rattle.std.proofs.lemmas.List.{get_or_past}
use Rattle.vr_model.specs.routes.Routes.{is_active, holds, route}
use Rattle.vr_model.specs.routes.Rules.{active_in, fits_group, is_grouped, has_enough, has_required}
use Rattle.vr_model.specs.declared.records.Model.{Model}
use Rattle.vr_model.specs.declared.records.Group.{Group}
use Rattle.vr_model.proofs.tables.Tests.{clash, same_tests, list_all-true, nat_of_test, all-from_list_all}
use Rattle.vr_routes.specs.Tours.{Tours}
use Rattle.vr_routes.specs.Pieces.{nodes_of}
use Rattle.vr_routes.specs.declared.pieces.Piece.{Piece}
use Rattle.vr_routes.specs.declared.pieces.Piece.TheVariants.{Chain}
use Rattle.std.proofs.lemmas.List.{reverse-append}
use Rattle.std.proofs.lemmas.List.Folds.{list_all-append}
use Rattle.std.specs.Prelude.{reverse, slice_range}
use Rattle.vr_balance.specs.Balances.{Turnover, IsBalance}
use Rattle.vr_lists.specs.Nodes.{group_at, no_group, node_number}
use Rattle.vr_pathfilters.specs.Groups.{keeps_groups, one_in_group, many_of, allows_number, allows_node, allows_pieces, KnowsGroups}
use Rattle.vr_pathfilters.specs.TourLists.{AreTours}
use Rattle.vr_pathfilters.proofs.GroupNumbers.{required, group-count, required-count}

-- ---- the rule, group by group

-- all numbers of a list pass a test where as many pass as there are
all-count : (p : ℕ → Bool) (xs : List ℕ) → list_all p xs ≡ (count_by p xs == length xs)
all-count p [] = refl
all-count p (x ∷ xs) = by (p x) (all-count p xs) (count_by-le-length p xs) ∙ ap (λ n. n == suc (length xs)) (sym (sum_by-cons (λ x. cond (p x) 1 0) x xs))
  where
    by : (b : Bool) → list_all p xs ≡ (count_by p xs == length xs) → count_by p xs ≤ length xs
        → (b && list_all p xs) ≡ ((cond b 1 0 + count_by p xs) == suc (length xs))
    by true rest few = rest ∙ same_tests (count_by p xs == length xs) ((1 + count_by p xs) == suc (length xs))
        (λ t. test_of_eq (1 + count_by p xs) (suc (length xs)) (let e = eq_of_test (count_by p xs) (length xs) t in omega (arith, e)))
        (λ t. test_of_eq (count_by p xs) (length xs) (let e = eq_of_test (1 + count_by p xs) (suc (length xs)) t in omega (arith, e)))
    by false rest few = same_tests false ((0 + count_by p xs) == suc (length xs))
        (λ t. absurd (clash false t refl))
        (λ t. absurd (let e = eq_of_test (0 + count_by p xs) (suc (length xs)) t in omega (arith, e, few)))

-- a test of the entries that fail another
all-others : (q p : ℕ → Bool) (xs : List ℕ) → list_all (λ x. q x || p x) xs ≡ list_all p (filter (λ x. not (q x)) xs)
all-others q p [] = refl
all-others q p (x ∷ xs) = by (q x) (all-others q p xs)
  where
    by : (b : Bool) → list_all (λ x. q x || p x) xs ≡ list_all p (filter (λ x. not (q x)) xs)
        → ((b || p x) && list_all (λ x. q x || p x) xs) ≡ list_all p (cond (not b) (x ∷ filter (λ x. not (q x)) xs) (filter (λ x. not (q x)) xs))
    by true rest = rest
    by false rest = ap (λ b. p x && b) rest

required-is : (model : Model) (lists : List (List ℕ)) → has_required model lists ≡ (count_by (is_active lists) (required model) == length (required model))
required-is model lists = all-others (is_grouped model) (is_active lists) (visits model) ∙ all-count (is_active lists) (required model)

-- what the rule asks
pub record IsKept (model : Model) (lists : List (List ℕ)) : Type 0 where
  pub fits : (g : ℕ) → g < length model.groups → active_in lists (group_at model g) ≤ (group_at model g).max
  pub enough : (g : ℕ) → g < length model.groups → IsTrue (has_enough (group_at model g).penalty (group_at model g).max (active_in lists (group_at model g)))
  pub required_all : count_by (is_active lists) (required model) ≡ length (required model)

of-rule : (model : Model) (lists : List (List ℕ)) → IsTrue (keeps_groups model lists) → IsKept model lists
of-rule model lists h =
    let fit = and_left (list_all (fits_group lists) model.groups) _ h in
    let rest = and_right (list_all (fits_group lists) model.groups) _ h in
    let enough_all = and_right (has_required model lists) _ rest in
    record {
      fits = λ g low. nat_of_test (active_in lists (group_at model g)) (group_at model g).max
          (all-from_list_all (fits_group lists) model.groups fit g no_group low);
      enough = λ g low. all-from_list_all (λ group. has_enough group.penalty group.max (active_in lists group)) model.groups enough_all g no_group low;
      required_all = eq_of_test _ _ (sym (required-is model lists) ∙ and_left (has_required model lists) _ rest);
    }

all-groups : (test : Group → Bool) (groups : List Group)
    → ((g : ℕ) → g < length groups → IsTrue (test (slice_index_or groups g no_group))) → IsTrue (list_all test groups)
all-groups test [] each = refl
all-groups test (q ∷ qs) each = and_both (test q) (list_all test qs) (each 0 (omega arith)) (all-groups test qs (λ k low. each (suc k) (omega (arith, low))))

test_of_le : (m n : ℕ) → m ≤ n → IsTrue (nat_le m n)
test_of_le m n h = Prim.grind arith

to-rule : (model : Model) (lists : List (List ℕ)) → IsKept model lists → IsTrue (keeps_groups model lists)
to-rule model lists kept =
    and_both (list_all (fits_group lists) model.groups) _
    (all-groups (fits_group lists) model.groups (λ g low. test_of_le _ _ (kept.fits g low)))
    (and_both (has_required model lists) _
    (required-is model lists ∙ test_of_eq _ _ kept.required_all)
    (all-groups (λ group. has_enough group.penalty group.max (active_in lists group)) model.groups kept.enough))

-- ---- one group

-- what a group allows
abbrev allowed : Option ℤ → ℕ → ℕ → ℕ → ℕ → Bool
allowed penalty max a come gone = (come == gone) || (is_some penalty && (nat_le come gone || nat_le (a + come) (max + gone)))

forward : (penalty : Option ℤ) (max a later come gone : ℕ) → later + gone ≡ a + come → IsTrue (has_enough penalty max a)
    → later ≤ max → IsTrue (has_enough penalty max later) → IsTrue (allowed penalty max a come gone)
forward None max a later come gone is enough fits enough_later =
    let e = eq_of_test a max enough in
    let f = eq_of_test later max enough_later in
    or_left (come == gone) _ (test_of_eq come gone (omega (arith, is, e, f)))
forward (Some penalty) max a later come gone is enough fits enough_later =
    or_right (come == gone) _ (or_right (nat_le come gone) _ (test_of_le (a + come) (max + gone) (omega (arith, is, fits))))

backward : (penalty : Option ℤ) (max a later come gone : ℕ) → later + gone ≡ a + come → a ≤ max → IsTrue (has_enough penalty max a)
    → IsTrue (allowed penalty max a come gone) → (later ≤ max) × IsTrue (has_enough penalty max later)
backward None max a later come gone is fits enough h = elim (or_cases (come == gone) _ h) [
  | inl same ↦ (let e = eq_of_test come gone same in
      let f : a ≡ later = omega (arith, is, e) in
      (omega (arith, fits, f), subst (λ n. IsTrue (n == max)) f enough))
  | inr none ↦ absurd (clash false none refl)
]
backward (Some penalty) max a later come gone is fits enough h = elim (or_cases (come == gone) _ h) [
  | inl same ↦ (let e = eq_of_test come gone same in (omega (arith, is, e, fits), refl))
  | inr other ↦ elim (or_cases (nat_le come gone) _ other) [
    | inl few ↦ (let l = nat_of_test come gone few in (omega (arith, is, l, fits), refl))
    | inr room ↦ (let l = nat_of_test (a + come) (max + gone) room in (omega (arith, is, l), refl))
  ]
]

lt_test : (m n : ℕ) → m < n → nat_lt m n ≡ true
lt_test m n h = Prim.grind arith

lt_fails : (m n : ℕ) → n ≤ m → nat_lt m n ≡ false
lt_fails m n h = Prim.grind arith

-- ---- nodes of a group among pieces

one-passes : (numbers : List ℕ) (P : ℕ → Bool) (xs : List ℕ) (g : ℕ)
    → IsTrue (list_all (λ x. P (node_number numbers x)) xs) → 1 ≤ sum_by (one_in_group numbers g) xs → IsTrue (P g)
one-passes numbers P [] g all some = absurd (omega (arith, some))
one-passes numbers P (x ∷ xs) g all some = by (node_number numbers x == g) refl (one-passes numbers P xs g (and_right (P (node_number numbers x)) _ all))
  where
    by : (b : Bool) → (node_number numbers x == g) ≡ b → (1 ≤ sum_by (one_in_group numbers g) xs → IsTrue (P g)) → IsTrue (P g)
    by true e later = subst (λ n. IsTrue (P n)) (eq_of_test (node_number numbers x) g e) (and_left (P (node_number numbers x)) _ all)
    by false e later = later (let c = sum_by-cons (one_in_group numbers g) x xs in
        let none : one_in_group numbers g x ≡ 0 = ap (λ b. cond b 1 0) e in omega (arith, c, none, some))

piece-passes : (numbers : List ℕ) (P : ℕ → Bool) (lists : List (List ℕ)) (pieces : List Piece) (g : ℕ)
    → IsTrue (list_all (λ piece. list_all (λ x. P (node_number numbers x)) (nodes_of lists piece)) pieces)
    → 1 ≤ many_of numbers lists pieces g → IsTrue (P g)
piece-passes numbers P lists [] g all some = absurd (omega (arith, some))
piece-passes numbers P lists (p ∷ ps) g all some = elim (cases_lt 0 (sum_by (one_in_group numbers g) (nodes_of lists p))) [
  | inl here ↦ one-passes numbers P (nodes_of lists p) g (and_left (list_all (λ x. P (node_number numbers x)) (nodes_of lists p)) _ all) (omega (arith, here))
  | inr none ↦ piece-passes numbers P lists ps g (and_right (list_all (λ x. P (node_number numbers x)) (nodes_of lists p)) _ all)
      (let c = sum_by-cons (λ piece. sum_by (one_in_group numbers g) (nodes_of lists piece)) p ps in omega (arith, c, none, some))
]

-- ---- the whole rule

module _ (model : Model) (numbers : List ℕ) (tours : Tours) (stands : KnowsGroups model numbers tours) (later : Tours)
    (tours_are : AreTours model later) (turnover : Turnover) (balance : IsBalance tours.lists later.lists turnover) where
  abbrev come : ℕ → ℕ
  come g = many_of numbers tours.lists turnover.come g

  abbrev gone : ℕ → ℕ
  gone g = many_of numbers tours.lists turnover.gone g

  abbrev rule_at : ℕ → Bool
  rule_at g = allows_number model tours.lists g (come g) (gone g)

  before : IsKept model tours.lists
  before = of-rule model tours.lists stands.rule

  in-group : (g : ℕ) → g < length model.groups → active_in later.lists (group_at model g) + gone g ≡ active_in tours.lists (group_at model g) + come g
  in-group g low =
      let a = group-count model stands.well_formed numbers stands.numbers_are tours stands.tours_are g low in
      let b = group-count model stands.well_formed numbers stands.numbers_are later tours_are g low in
      let e = balance.balanced (one_in_group numbers g) in
      omega (arith, a, b, e)

  in-none : count_by (is_active later.lists) (required model) + gone (length model.groups)
      ≡ count_by (is_active tours.lists) (required model) + come (length model.groups)
  in-none =
      let a = required-count model stands.well_formed numbers stands.numbers_are tours stands.tours_are in
      let b = required-count model stands.well_formed numbers stands.numbers_are later tours_are in
      let e = balance.balanced (one_in_group numbers (length model.groups)) in
      omega (arith, a, b, e)

  -- where the rule holds afterwards, each group allows the change
  each-allows : IsKept model later.lists → (g : ℕ) → g ≤ length model.groups → IsTrue (rule_at g)
  each-allows kept g most = elim (cases_lt g (length model.groups)) [
    | inl low ↦ (
        let group : Group = group_at model g in
        let h = forward group.penalty group.max (active_in tours.lists group) (active_in later.lists group)
        (come g) (gone g) (in-group g low) (before.enough g low) (kept.fits g low) (kept.enough g low) in
        subst (λ b. IsTrue ((come g == gone g)
        || (b && (is_some group.penalty && (nat_le (come g) (gone g) || nat_le (active_in tours.lists group + come g) (group.max + gone g))))))
        (sym (lt_test g (length model.groups) low)) h)
    | inr high ↦ (
        let at : length model.groups ≡ g = omega (arith, high, most) in
        let same : come (length model.groups) ≡ gone (length model.groups) =
        (let e = in-none in let a = before.required_all in let b = kept.required_all in omega (arith, e, a, b)) in
        or_left (come g == gone g) _ (subst (λ n. IsTrue (come n == gone n)) at (test_of_eq _ _ same)))
  ]

  -- where each group of which nodes come or go allows the change, the rule holds afterwards
  all-kept : ((g : ℕ) → 1 ≤ come g + gone g → IsTrue (rule_at g)) → IsKept model later.lists
  all-kept allows = record {
    fits = λ g low. (at g low).0;
    enough = λ g low. (at g low).1;
    required_all = elim (cases_lt 0 (come (length model.groups) + gone (length model.groups))) [
      | inl some ↦ (
          let h : IsTrue (rule_at (length model.groups)) = allows (length model.groups) (omega (arith, some)) in
          let same : come (length model.groups) ≡ gone (length model.groups) = elim (or_cases (come (length model.groups) == gone (length model.groups)) _ h) [
            | inl e ↦ eq_of_test _ _ e
            | inr other ↦ absurd (clash (nat_lt (length model.groups) (length model.groups))
                (and_left (nat_lt (length model.groups) (length model.groups)) _ other) (lt_fails (length model.groups) (length model.groups) (omega arith)))
          ] in
          let e = in-none in
          let a = before.required_all in
          omega (arith, e, a, same))
      | inr none ↦ (let e = in-none in let a = before.required_all in omega (arith, e, a, none))
    ];
  }
    where
      at : (g : ℕ) → g < length model.groups → (active_in later.lists (group_at model g) ≤ (group_at model g).max)
          × IsTrue (has_enough (group_at model g).penalty (group_at model g).max (active_in later.lists (group_at model g)))
      at g low =
          let group : Group = group_at model g in
          let is = in-group g low in
          backward group.penalty group.max (active_in tours.lists group) (active_in later.lists group)
          (come g) (gone g) is (before.fits g low) (before.enough g low)
          (elim (cases_lt 0 (come g + gone g)) [
            | inl some ↦ subst (λ b. IsTrue ((come g == gone g)
                || (b && (is_some group.penalty && (nat_le (come g) (gone g) || nat_le (active_in tours.lists group + come g) (group.max + gone g))))))
                (lt_test g (length model.groups) low) (allows g (omega (arith, some)))
            | inr none ↦ or_left (come g == gone g) _ (test_of_eq (come g) (gone g) (omega (arith, none)))
          ])

  number-few : (x : ℕ) → node_number numbers x ≤ length model.groups
  number-few x = elim (cases_lt x model.nodes) [
    | inl low ↦
        subst (λ n. n ≤ length model.groups) (sym (stands.numbers_are.each x low)) (prefix_len-le-length (λ group. not (holds group.nodes x)) model.groups)
    | inr high ↦ (let e : node_number numbers x ≡ 0 = get_or_past numbers x 0 (let n = stands.numbers_are.long in omega (arith, n, high)) in omega (arith, e))
  ]

  -- the groups of all nodes that come or go allow it exactly where the rule holds afterwards
  pub whole : (allows_pieces model numbers tours.lists turnover turnover.come && allows_pieces model numbers tours.lists turnover turnover.gone)
      ≡ keeps_groups model later.lists
  whole = same_tests (allows_pieces model numbers tours.lists turnover turnover.come && allows_pieces model numbers tours.lists turnover turnover.gone)
      (keeps_groups model later.lists) to from
    where
      to : IsTrue (allows_pieces model numbers tours.lists turnover turnover.come && allows_pieces model numbers tours.lists turnover turnover.gone)
          → IsTrue (keeps_groups model later.lists)
      to h = to-rule model later.lists (all-kept (λ g some. elim (cases_lt 0 (come g)) [
        | inl here ↦ piece-passes numbers rule_at tours.lists turnover.come g
            (and_left (allows_pieces model numbers tours.lists turnover turnover.come) _ h) (omega (arith, here))
        | inr none ↦ piece-passes numbers rule_at tours.lists turnover.gone g
            (and_right (allows_pieces model numbers tours.lists turnover turnover.come) _ h) (omega (arith, some, none))
      ]))

      pieces_pass : IsKept model later.lists → (pieces : List Piece) → IsTrue (allows_pieces model numbers tours.lists turnover pieces)
      pieces_pass kept = list_all-true (λ piece. list_all (allows_node model numbers tours.lists turnover) (nodes_of tours.lists piece))
          (λ piece. list_all-true (allows_node model numbers tours.lists turnover)
          (λ x. each-allows kept (node_number numbers x) (number-few x)) (nodes_of tours.lists piece))

      from : IsTrue (keeps_groups model later.lists)
          → IsTrue (allows_pieces model numbers tours.lists turnover turnover.come && allows_pieces model numbers tours.lists turnover turnover.gone)
      from h =
          let kept = of-rule model later.lists h in
          and_both (allows_pieces model numbers tours.lists turnover turnover.come) _ (pieces_pass kept turnover.come) (pieces_pass kept turnover.gone)

-- ---- where the code asks

-- the group of a node, asked by its number and by what comes and goes of it
pub node-asked : (model : Model) (numbers : List ℕ) (lists : List (List ℕ)) (turnover : Turnover)
    (x : ℕ) {g come gone : ℕ} {coming going : List Piece} {answer : Bool} → g ≡ node_number numbers x
    → come ≡ many_of numbers lists coming g → coming ≡ turnover.come → gone ≡ many_of numbers lists going g → going ≡ turnover.gone
    → answer ≡ allows_number model lists g come gone → answer ≡ allows_node model numbers lists turnover x
node-asked model numbers lists turnover x {g} {come} {gone} g_is come_is coming_is gone_is going_is is =
    is ∙ (ap (λ n. allows_number model lists g n gone) (come_is ∙ ap (λ ps. many_of numbers lists ps g) coming_is)
    ∙ (ap (allows_number model lists g (many_of numbers lists turnover.come g)) (gone_is ∙ ap (λ ps. many_of numbers lists ps g) going_is)
    ∙ ap (λ h. allows_number model lists h (many_of numbers lists turnover.come h) (many_of numbers lists turnover.gone h)) g_is))

all-turned : (p : ℕ → Bool) (xs : List ℕ) → list_all p (reverse xs) ≡ list_all p xs
all-turned p [] = refl
all-turned p (x ∷ xs) = ap (list_all p) (reverse-append (x ∷ []) xs)
    ∙ (list_all-append p (reverse xs) (x ∷ []) ∙ (ap (λ b. b && (p x && true)) (all-turned p xs) ∙ turned (list_all p xs) (p x)))
  where
    turned : (a b : Bool) → (a && (b && true)) ≡ (b && a)
    turned true true = refl
    turned true false = refl
    turned false true = refl
    turned false false = refl

-- a chain, whichever way it goes
pub all-chain : (p : ℕ → Bool) (lists : List (List ℕ)) (v from to : ℕ) (reversed : Bool)
    → list_all p (nodes_of lists (Chain v from to reversed)) ≡ list_all p (slice_range (route lists v) from to)
all-chain p lists v from to false = refl
all-chain p lists v from to true = all-turned p (slice_range (route lists v) from to)
