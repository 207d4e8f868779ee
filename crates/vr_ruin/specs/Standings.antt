-- Where a search in code is.
use Rattle.std.specs.Prelude.{ℕ, suc, Bool, cond, ◌&&◌, ◌||◌, ◌==◌, nat_lt, int_lt, List, ℤ}
use Rattle.vr_model.specs.routes.Costs.{cost}
use Rattle.vr_model.specs.declared.records.Model.{Model}
use Rattle.vr_ruin.specs.declared.judging.Standing.{Standing}
use Rattle.vr_ruin.specs.declared.judging.Worth.{Worth}
use Rattle.vr_ruin.specs.Lacking.{lack}
use Rattle.vr_ruin.specs.Steps.{RefineState}

-- routes lack less than others, or as much and cost less than a bound
abbrev pub is_less : Worth → Worth → ℤ → Bool
is_less new old bound = nat_lt new.lack old.lack || ((new.lack == old.lack) && int_lt new.cost bound)

-- what lists are worth
abbrev pub worth_of : Model → List (List ℕ) → Worth
worth_of model lists = record { lack = lack model lists; cost = cost model lists }

-- the state of a search, as code keeps it
abbrev pub standing_of : Model → RefineState → Standing
standing_of model state = record {
  used = state.search.used;
  found = state.search.found;
  here = worth_of model state.search.lists;
  best = worth_of model state.search.best;
  first = worth_of model state.first;
}

-- after routes were accepted
abbrev pub standing_with : Standing → Worth → Standing
standing_with at new = record {
  used = suc at.used;
  found = suc at.found;
  here = new;
  best = cond (is_less new at.best at.best.cost) new at.best;
  first = cond (at.first.lack == 0) at.first new;
}
