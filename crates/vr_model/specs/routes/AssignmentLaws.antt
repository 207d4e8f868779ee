-- What an assignment of lists keeps, as statements.
use Rattle.std.specs.Prelude.{◌≡◌, ℕ, ◌<◌, cond, IsTrue, List, [], length, false, slice_index_or}
use Rattle.vr_model.specs.routes.Routes.{route, is_empty}
use Rattle.vr_model.specs.schedules.Lines.{line}
use Rattle.vr_model.specs.schedules.Schedules.{IsSchedule}
use Rattle.vr_model.specs.routes.Rules.{is_open}
use Rattle.vr_model.specs.routes.Costs.{Assignment, plan_at, assigned}
use Rattle.vr_model.specs.declared.records.Model.{Model}

-- an assignment has plans for each vehicle: one in each dimension if its list is not empty, else none
pub record HasPlans (model : Model) (assignment : Assignment) : Type 0 where
  pub of_each_vehicle : length assignment.plans ≡ length assignment.lists
  pub in_each_dimension : (v : ℕ) → v < length assignment.lists
      → length (slice_index_or assignment.plans v [])
      ≡ cond (is_empty (route assignment.lists v)) 0 (length model.dimensions)

-- each plan of an assignment is a schedule of its line
abbrev pub MeetsItsLines : Model → Assignment → Type 0
MeetsItsLines model assignment =
    (d v : ℕ) → d < length model.dimensions → v < length assignment.lists → is_empty (route assignment.lists v) ≡ false
    → IsSchedule (line model d v (route assignment.lists v)) (plan_at assignment d v)

-- the plans that are chosen for lists are as many as an assignment has
abbrev pub ChosenPlansAreThere : Type 0
ChosenPlansAreThere = (model : Model) (lists : List (List ℕ)) → HasPlans model (assigned model lists)

-- open lists at their chosen schedules meet their lines
abbrev pub OpenMeetsItsLines : Type 0
OpenMeetsItsLines =
    (model : Model) (lists : List (List ℕ)) → IsTrue (is_open model lists) → MeetsItsLines model (assigned model lists)
