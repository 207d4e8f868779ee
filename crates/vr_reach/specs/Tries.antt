-- How far walks without a break go, which are asked first of a list of a vehicle with breaks.
use Rattle.std.specs.Prelude.{ℕ, suc, ◌+◌, ◌-◌, ◌*◌, cond, ◌||◌, List, length}
use Rattle.vr_model.specs.routes.Routes.{is_empty, is_same}
use Rattle.vr_model.specs.schedules.Lines.{Line, line}
use Rattle.vr_model.specs.schedules.Weights.{shared_back, shared_front}
use Rattle.vr_model.specs.declared.records.Model.{Model}

-- the arcs from stop a to stop e, once for each number of breaks that may be taken before them
abbrev pub tries_between : Line → ℕ → ℕ → ℕ
tries_between line a e = suc (length line.breaks) * (e - a)

-- how far they go for one list after a change: nowhere if it is empty or as before. Else they go over the arcs from the
-- last stop of the shared front to the first of the shared back
abbrev pub list_tries : Model → ℕ → ℕ → List ℕ → List ℕ → ℕ
list_tries model d v old new = cond (is_empty new || is_same old new) 0
    (tries_between (line model d v new) (shared_front old new) (length new + 1 - shared_back old new))
