-- Open lists are valid where nothing is missing in them.
use Rattle.std.proofs.Common.{◌≡◌, ◌∙◌, ◌<◌, ℕ, List, [], ◌∷◌, Bool, true, false, cond, not, refl, ap, ap₂, sym, subst, arith, get_or}
use Rattle.std.specs.Prelude.{◌&&◌, ◌||◌, filter, nat_le, Option, None, MatchOption}
use Rattle.std.specs.List.{list_all}
use Rattle.vr_model.specs.declared.records.Model.{Model}
use Rattle.vr_model.specs.tables.Numbers.{below}
use Rattle.vr_model.specs.tables.Tables.{is_visit, visits}
use Rattle.vr_model.specs.routes.Routes.{are_lists, is_active}
use Rattle.vr_model.specs.routes.Rules.{is_open, is_valid, is_grouped, has_enough, has_required, active_in, fits_group}
use Rattle.vr_model.specs.deciding.Testing.{range_list_all}
use Rattle.vr_model.proofs.tables.Tests.{clash}
use Rattle.vr_model.specs.tables.WellFormed.{IsWellFormed}
use Rattle.vr_routes.specs.Tours.{Tours, are_routes_open}
use Rattle.vr_rules.specs.Placing.{fits_by, is_complete, is_filled_by, is_marked, AreBuilt, AreMarks}
use Rattle.vr_rules.proofs.OpenLemmas.{one_fails}
use Rattle.vr_model.proofs.routes.Lists.{visit_below}
use Rattle.vr_rules.proofs.PlacingLemmas.{list_all-within, count_by-within}
use Rattle.std.proofs.lemmas.List.Elements.{All-weaker, filter_passes}

-- the node is no visit, or in a group, or marked
abbrev pub may_stay : Model → List Bool → ℕ → Bool
may_stay model marks node = not (is_visit model node) || (is_grouped model node || is_marked marks node)

list_all-filter : (p q : ℕ → Bool) (xs : List ℕ) → list_all p (filter q xs) ≡ list_all (λ x. not (q x) || p x) xs
list_all-filter p q [] = refl
list_all-filter p q (x ∷ xs) = by (q x) (p x) x (filter q xs) ∙ ap (λ b. (not (q x) || p x) && b) (list_all-filter p q xs)
  where
    by : (b c : Bool) (x : ℕ) (ys : List ℕ) → list_all p (cond b (x ∷ ys) ys) ≡ ((not b || p x) && list_all p ys)
    by true c x ys = refl
    by false c x ys = refl

pub required_fails : (model : Model) (marks : List Bool) (node : ℕ) → node < model.nodes → may_stay model marks node ≡ false
    → list_all (λ node. is_grouped model node || is_marked marks node) (visits model) ≡ false
required_fails model marks node low h =
    list_all-filter (λ node. is_grouped model node || is_marked marks node) (is_visit model) (below model.nodes)
    ∙ one_fails (may_stay model marks) model.nodes node low h

pub required_passes : (model : Model) (marks : List Bool) → ((node : ℕ) → node < model.nodes → may_stay model marks node ≡ true)
    → list_all (λ node. is_grouped model node || is_marked marks node) (visits model) ≡ true
required_passes model marks h =
    list_all-filter (λ node. is_grouped model node || is_marked marks node) (is_visit model) (below model.nodes)
    ∙ range_list_all (may_stay model marks) 0 model.nodes (λ node start end. h node (omega (arith, end)))

pub and-false : (a : Bool) → (a && false) ≡ false
and-false true = refl
and-false false = refl

and-true : (a : Bool) → (a && true) ≡ a
and-true true = refl
and-true false = refl

-- what is missing in lists, by marks
complete-marks : (model : Model) → IsWellFormed model → (lists : List (List ℕ)) (marks : List Bool) → AreMarks model.nodes lists marks
    → is_complete model marks ≡ (has_required model lists && list_all (λ group. has_enough group.penalty group.max (active_in lists group)) model.groups)
complete-marks model well_formed lists marks are =
    let required : list_all (λ node. is_grouped model node || is_marked marks node) (visits model) ≡ has_required model lists =
    list_all-within (λ node. is_grouped model node || is_marked marks node) (λ node. is_grouped model node || is_active lists node) (visits model)
    (All-weaker (λ node. is_visit model node ≡ true) (λ node. (is_grouped model node || is_marked marks node) ≡ (is_grouped model node || is_active lists node))
    (λ node visit. ap (λ b. is_grouped model node || b) (are.each node false (visit_below model node visit)))
    (visits model) (filter_passes (is_visit model) (below model.nodes))) in
    let enough : list_all (is_filled_by marks) model.groups ≡ list_all (λ group. has_enough group.penalty group.max (active_in lists group)) model.groups =
    list_all-within (is_filled_by marks) (λ group. has_enough group.penalty group.max (active_in lists group)) model.groups (λ g d low.
    let group = get_or model.groups g d in
    ap (has_enough group.penalty group.max) (count_by-within (is_marked marks) (is_active lists) group.nodes (λ k node node_low.
    are.each (get_or group.nodes k node) false
    (visit_below model (get_or group.nodes k node) ((well_formed.each_group g d low).each_node_is_visit k node node_low))))) in
    ap₂ (λ a b. a && b) required enough

-- lists are valid where they are open and nothing is missing
valid-by-parts : (model : Model) → IsWellFormed model → (lists : List (List ℕ)) (marks : List Bool)
    → AreMarks model.nodes lists marks → are_lists model lists ≡ true
    → (is_open model lists && is_complete model marks) ≡ is_valid model lists
unfolding is_valid
valid-by-parts model well_formed lists marks are lists_are =
    ap (λ b. is_open model lists && b) (complete-marks model well_formed lists marks are)
    ∙ sym (ap (λ a. a
    && (is_open model lists && (has_required model lists && list_all (λ group. has_enough group.penalty group.max (active_in lists group)) model.groups)))
    lists_are)

pub is_valid-complete : (model : Model) → IsWellFormed model
    → (lists : List (List ℕ)) (marks : List Bool) → AreBuilt model lists → AreMarks model.nodes lists marks
    → is_complete model marks ≡ is_valid model lists
is_valid-complete model well_formed lists marks built are =
    sym (ap (λ a. a && is_complete model marks) built.are_open) ∙ valid-by-parts model well_formed lists marks are built.are_lists

-- where nothing is missing
pub valid_where_open : (model : Model) → IsWellFormed model → (lists : List (List ℕ)) (marks : List Bool)
    → are_lists model lists ≡ true → AreMarks model.nodes lists marks
    → is_complete model marks ≡ true → is_open model lists ≡ is_valid model lists
valid_where_open model well_formed lists marks lists_are are complete =
    sym (and-true (is_open model lists)) ∙ ap (λ b. is_open model lists && b) (sym complete) ∙ valid-by-parts model well_formed lists marks are lists_are

-- the answer of code on marks that it reads, of lists that are what a definition gives
pub valid_by : (model : Model) → IsWellFormed model → (written ends : List (List ℕ)) (marks read : List Bool) (answer : Bool)
    → AreBuilt model written → AreMarks model.nodes written marks
    → written ≡ ends → read ≡ marks → answer ≡ is_complete model read → answer ≡ is_valid model ends
valid_by model well_formed written ends marks read answer built are filled same is =
    is ∙ ap (is_complete model) same ∙ is_valid-complete model well_formed written marks built are ∙ ap (is_valid model) filled

-- ---- open lists, by marks

pub fits-marks : (model : Model) → IsWellFormed model → (lists : List (List ℕ)) (marks : List Bool)
    → AreMarks model.nodes lists marks → list_all (fits_by marks) model.groups ≡ list_all (fits_group lists) model.groups
fits-marks model well_formed lists marks are =
    list_all-within (fits_by marks) (fits_group lists) model.groups (λ g d low.
    let group = get_or model.groups g d in
    ap (λ n. nat_le n group.max) (count_by-within (is_marked marks) (is_active lists) group.nodes (λ k node node_low.
    are.each (get_or group.nodes k node) false
    (visit_below model (get_or group.nodes k node) ((well_formed.each_group g d low).each_node_is_visit k node node_low)))))

-- the groups fit, and each vehicle may drive its list
pub is_open-by : (model : Model) → IsWellFormed model → (lists : List (List ℕ)) (marks : List Bool) (fit all : Bool) → AreMarks model.nodes lists marks
    → fit ≡ list_all (fits_by marks) model.groups → all ≡ are_routes_open model lists → (all && fit) ≡ is_open model lists
unfolding is_open
is_open-by model well_formed lists marks fit all are e f = ap₂ (λ a b. a && b) f (e ∙ fits-marks model well_formed lists marks are)

-- where a group has too many nodes
pub groups_close : (model : Model) → IsWellFormed model → (lists : List (List ℕ)) (marks : List Bool)
    → AreMarks model.nodes lists marks → list_all (fits_by marks) model.groups ≡ false → is_open model lists ≡ false
groups_close model well_formed lists marks are h =
    sym (is_open-by model well_formed lists marks (list_all (fits_by marks) model.groups) (are_routes_open model lists) are refl refl)
    ∙ ap (λ b. are_routes_open model lists && b) h ∙ and-false (are_routes_open model lists)

-- where no group has
pub open_where_routes : (model : Model) → IsWellFormed model → (lists : List (List ℕ)) (marks : List Bool)
    → AreMarks model.nodes lists marks → list_all (fits_by marks) model.groups ≡ true → are_routes_open model lists ≡ is_open model lists
open_where_routes model well_formed lists marks are h =
    sym (and-true (are_routes_open model lists)) ∙ ap (λ b. are_routes_open model lists && b) (sym h)
    ∙ is_open-by model well_formed lists marks (list_all (fits_by marks) model.groups) (are_routes_open model lists) are refl refl

-- lists in which something is missing are not valid
pub incomplete-not-valid : (model : Model) → IsWellFormed model → (lists : List (List ℕ)) (marks : List Bool)
    → AreMarks model.nodes lists marks → is_complete model marks ≡ false → is_valid model lists ≡ false
unfolding is_valid
incomplete-not-valid model well_formed lists marks are missing =
    let rest : (has_required model lists && list_all (λ group. has_enough group.penalty group.max (active_in lists group)) model.groups) ≡ false =
    sym (complete-marks model well_formed lists marks are) ∙ missing in
    ap (λ b. are_lists model lists && (is_open model lists && b)) rest
    ∙ ap (λ b. are_lists model lists && b) (and-false (is_open model lists)) ∙ and-false (are_lists model lists)

-- ---- routes with given lists

-- lists of the model are taken
pub are-taken : (model : Model) (lists : List (List ℕ)) (answer : Option Tours) → are_lists model lists ≡ true
    → MatchOption answer (are_lists model lists ≡ false) (λ routes. are_lists model lists ≡ true) → answer ≡ None → ⊥
are-taken model lists answer are h none =
    clash (are_lists model lists) are (subst (λ o. MatchOption o (are_lists model lists ≡ false) (λ routes. are_lists model lists ≡ true)) none h)

-- the test of the marks of routes with these lists
pub complete-is-valid : (model : Model) → IsWellFormed model → (lists taken : List (List ℕ)) (marks read : List Bool) (answer : Bool)
    → AreBuilt model lists → taken ≡ lists → AreMarks model.nodes taken marks
    → read ≡ marks → answer ≡ is_complete model read → answer ≡ is_valid model lists
complete-is-valid model well_formed lists taken marks read answer built same are seen is =
    valid_by model well_formed lists lists marks read answer built (subst (λ ls. AreMarks model.nodes ls marks) same are) refl seen is
