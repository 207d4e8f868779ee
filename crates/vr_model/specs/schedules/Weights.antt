-- The weight of changed lists: how many images of runs a walk takes in them, and how many runs meet at its end. In each
-- changed list the walk begins when it leaves the old list, and ends when it meets it again.
use Rattle.std.specs.Prelude.{ℕ, zero, suc, ◌+◌, ◌-◌, ◌*◌, Bool, cond, not, ◌&&◌, ◌||◌, ◌==◌, List, length, reverse, ℤ}
use Rattle.std.specs.Prelude.{pos, ◌-ℤ◌, sum_by, nat_abs}
use Rattle.std.specs.List.{common_prefix_len}
use Rattle.vr_model.specs.tables.Numbers.{below, from_to, horizon}
use Rattle.vr_model.specs.routes.Routes.{route, vehicles, is_empty, is_same}
use Rattle.vr_model.specs.schedules.Lines.{Line, line}
use Rattle.vr_model.specs.schedules.Choices.{is_reached, reaches_end}
use Rattle.vr_model.specs.declared.records.Model.{Model}

-- x begins a run of a set: it is in the set and the number before it is not
abbrev pub begins_run : (ℤ → Bool) → ℤ → Bool
begins_run has x = has x && not (has (x -ℤ pos 1))

-- how many of n numbers from lo on begin a run
unfoldable pub runs_from : (ℤ → Bool) → ℕ → ℕ → ℕ
runs_from has lo zero = 0
runs_from has lo (suc n) = cond (begins_run has (pos lo)) 1 0 + runs_from has (lo + 1) n

-- how many runs a set of numbers in 0..=horizon has
unfoldable pub runs : (ℤ → Bool) → ℕ
runs has = runs_from has 0 (suc (nat_abs horizon))

-- how many nodes two lists share at the front
abbrev pub shared_front : List ℕ → List ℕ → ℕ
shared_front xs ys = common_prefix_len (λ x y. x == y) xs ys

-- how many nodes two lists share at the back
abbrev pub shared_back : List ℕ → List ℕ → ℕ
shared_back xs ys = shared_front (reverse xs) (reverse ys)

-- a sum over the numbers 0..=n of breaks taken
abbrev pub over_breaks : Line → (ℕ → ℕ) → ℕ
over_breaks line f = sum_by f (below (suc (length line.breaks)))

-- The weight of a walk over the arcs from stop a to stop e. For each arc and each number of breaks taken before it, the
-- runs that are reached there count, once for each number of further breaks. The runs of both sides at stop e count
-- once.
abbrev pub walk_weight : Line → ℕ → ℕ → ℕ
walk_weight line a e =
    sum_by (λ k. over_breaks line λ b. runs (is_reached line k b) * (length line.breaks - b + 1)) (from_to a e)
    + over_breaks line (λ b. runs (is_reached line e b) + runs (reaches_end line e b))

-- The weight of one list after a change: nothing if it is empty or as before. Else it is that of a walk. The walk goes
-- from the last stop that both lists share at the front to the first that both share at the back.
abbrev pub list_weight : Model → ℕ → ℕ → List ℕ → List ℕ → ℕ
list_weight model d v old new = cond (is_empty new || is_same old new) 0
    (walk_weight (line model d v new) (shared_front old new) (length new + 1 - shared_back old new))

-- the weight of the lists after a change in dimension d
abbrev pub weight : Model → ℕ → List (List ℕ) → List (List ℕ) → ℕ
weight model d lists after = sum_by (λ v. list_weight model d v (route lists v) (route after v)) (vehicles after)
