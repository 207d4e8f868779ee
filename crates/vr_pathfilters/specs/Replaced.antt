-- Which pairs come in turn when a stretch of a list is replaced by other nodes.
use Rattle.std.specs.Prelude.{◌≡◌, ℕ, Bool, true, List, length, IsTrue, Option, Some, None}
use Rattle.std.specs.List.{list_all}
use Rattle.vr_model.specs.first.Items.{pair_of}
use Rattle.vr_model.specs.tables.WellFormed.{IsWellFormed}
use Rattle.vr_model.specs.routes.Routes.{is_distinct}
use Rattle.vr_model.specs.routes.Rules.{serves_pair}
use Rattle.vr_model.specs.declared.records.Model.{Model}
use Rattle.vr_model.specs.declared.records.Pair.{Pair}
use Rattle.vr_model.specs.declared.records.Policy.{Policy}
use Rattle.vr_reach.specs.Spliced.{AreSeams, spliced}
use Rattle.vr_pathfilters.specs.Turns.{is_in_turn, takes_turns}

-- a list, and other nodes in the place of a stretch of it
pub record Replaced : Type 0 where
  pub model : Model
  pub old : List ℕ
  pub front : ℕ
  pub behind : ℕ
  pub middle : List ℕ

-- the list with these nodes
abbrev pub replaced_list : Replaced → List ℕ
replaced_list r = spliced r.old r.front r.behind r.middle

-- a pair comes in turn, if there is one
abbrev pub is_in_turn_if_any : Model → Policy → List ℕ → Option Pair → Bool
is_in_turn_if_any model policy list None = true
is_in_turn_if_any model policy list (Some pair) = is_in_turn model policy list pair

-- the pair that a node is in comes in turn
abbrev pub comes_in_turn : Model → Policy → List ℕ → ℕ → Bool
comes_in_turn model policy list node = is_in_turn_if_any model policy list (pair_of model node)

-- the pairs of the new nodes come in turn
abbrev pub takes_turns_between : Model → Policy → List ℕ → ℕ → ℕ → List ℕ → Bool
takes_turns_between model policy old front behind middle =
    list_all (comes_in_turn model policy (spliced old front behind middle)) middle

-- a list of distinct nodes that serves each pair
pub record Serves (model : Model) (list : List ℕ) : Type 0 where
  pub distinct : IsTrue (is_distinct list)
  pub each_pair : IsTrue (list_all (serves_pair list) model.pairs)

-- a stretch of a list, whose pairs come in turn, is replaced by other nodes; it serves each pair before and after. Then
-- all pairs come in turn exactly if those of the new nodes do. So pairs that begin before the new nodes and end after
-- them come in turn too.
abbrev pub TurnsAreBetween : Type 0
TurnsAreBetween = (model : Model) (policy : Policy) (old middle : List ℕ) (front behind : ℕ) → IsWellFormed model
    → AreSeams (length old) front behind → Serves model old → Serves model (spliced old front behind middle)
    → IsTrue (takes_turns model policy old)
    → takes_turns_between model policy old front behind middle
    ≡ takes_turns model policy (spliced old front behind middle)
