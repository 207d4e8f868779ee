-- What it means that lists have no fault, and with which lists a search begins, as statements.
use Rattle.std.specs.Prelude.{◌≡◌, ℕ, List, is_none, Option, Some, IsTrue}
use Rattle.vr_model.specs.routes.Routes.{are_lists}
use Rattle.vr_model.specs.routes.Rules.{is_valid}
use Rattle.vr_model.specs.declared.records.Model.{Model}
use Rattle.vr_given.specs.Begin.{begin_lists, ruin_begin}
use Rattle.vr_given.specs.ListFaults.{fault_of_lists}

-- lists of a model have no fault exactly if they are valid
abbrev pub FaultlessIsValid : Type 0
FaultlessIsValid =
    (model : Model) (lists : List (List ℕ)) → IsTrue (are_lists model lists)
    → is_none (fault_of_lists model lists) ≡ is_valid model lists

-- the lists with which the model's own search begins are valid
abbrev pub BeginIsValid : Type 0
BeginIsValid =
    (model : Model) (given : Option (List (List ℕ))) (lists : List (List ℕ)) → begin_lists model given ≡ Some lists
    → IsTrue (is_valid model lists)

-- both searches begin with given valid lists as they are
pub record IsBegunAsGiven (model : Model) (given : List (List ℕ)) : Type 0 where
  pub own : begin_lists model (Some given) ≡ Some given
  pub ruin : ruin_begin model (Some given) ≡ Some given

abbrev pub ValidIsBegun : Type 0
ValidIsBegun =
    (model : Model) (given : List (List ℕ)) → IsTrue (is_valid model given) → IsBegunAsGiven model given
