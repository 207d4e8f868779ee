-- The rule of groups, and what is kept of them.
use Rattle.std.specs.Prelude.{◌≡◌, ℕ, ◌+◌, ◌≤◌, Bool, true, cond, ◌&&◌, ◌||◌, ◌==◌, nat_lt, nat_le, IsTrue, List}
use Rattle.std.specs.Prelude.{length, is_some}
use Rattle.std.specs.List.{list_all}
use Rattle.vr_model.specs.routes.Rules.{active_in, fits_group, has_required, has_enough}
use Rattle.vr_model.specs.tables.WellFormed.{IsWellFormed}
use Rattle.vr_model.specs.declared.records.Model.{Model}
use Rattle.vr_lists.specs.Nodes.{group_at, node_number, AreNumbers}
use Rattle.vr_routes.specs.Tours.{Tours}
use Rattle.vr_routes.specs.Pieces.{ListAfter, nodes_of, changed}
use Rattle.vr_routes.specs.declared.pieces.Piece.{Piece}
use Rattle.vr_balance.specs.Balances.{Turnover, over_pieces}
use Rattle.vr_pathfilters.specs.TourLists.{AreTours}

-- groups are kept: no group has more active nodes than it may have, and each visit in no group is active. Each group
-- without a penalty has exactly as many active nodes as it may have.
abbrev pub keeps_groups : Model → List (List ℕ) → Bool
keeps_groups model lists = list_all (fits_group lists) model.groups
    && (has_required model lists
    && list_all (λ group. has_enough group.penalty group.max (active_in lists group)) model.groups)

-- 1 for a node of group g, else 0
abbrev pub one_in_group : List ℕ → ℕ → ℕ → ℕ
one_in_group numbers g node = cond (node_number numbers node == g) 1 0

-- how many nodes of pieces are of group g
abbrev pub many_of : List ℕ → List (List ℕ) → List Piece → ℕ → ℕ
many_of numbers lists pieces g = over_pieces (one_in_group numbers g) lists pieces

-- a number of nodes, at most as many as 18 pieces of 1000 nodes have
abbrev pub IsInPieces : ℕ → Type 0
IsInPieces many = many ≤ 18000

-- these numbers of nodes of group g may come and go. They may if as many come as go. If the group has a penalty, they
-- also may if no more come than go, or if there is room for them.
abbrev pub allows_number : Model → List (List ℕ) → ℕ → ℕ → ℕ → Bool
allows_number model lists g come gone = (come == gone)
    || (nat_lt g (length model.groups)
    && (is_some (group_at model g).penalty
    && (nat_le come gone || nat_le (active_in lists (group_at model g) + come) ((group_at model g).max + gone))))

-- the group of a node allows what comes and goes
abbrev pub allows_node : Model → List ℕ → List (List ℕ) → Turnover → ℕ → Bool
allows_node model numbers lists turnover node = allows_number model lists (node_number numbers node)
    (many_of numbers lists turnover.come (node_number numbers node))
    (many_of numbers lists turnover.gone (node_number numbers node))

-- the groups of the nodes of some pieces do
abbrev pub allows_pieces : Model → List ℕ → List (List ℕ) → Turnover → List Piece → Bool
allows_pieces model numbers lists turnover pieces =
    list_all (λ piece. list_all (allows_node model numbers lists turnover) (nodes_of lists piece)) pieces

-- a filter with these numbers is in sync with the tours, of which the rule holds
pub record KnowsGroups (model : Model) (numbers : List ℕ) (tours : Tours) : Type 0 where
  pub well_formed : IsWellFormed model
  pub numbers_are : AreNumbers model numbers
  pub tours_are : AreTours model tours
  pub rule : IsTrue (keeps_groups model tours.lists)

-- a change was made ready after which the rule holds
pub record IsGroupsReady (model : Model) (is_prepared : Bool) (lists : List (List ℕ)) (parts : List ListAfter)
    : Type 0 where
  pub prepared : is_prepared ≡ true
  pub rule : IsTrue (keeps_groups model (changed lists parts))
