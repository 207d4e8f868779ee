-- Joins of routes as code compares them.
use Rattle.std.specs.Prelude.{◌≡◌, ◌≢◌, ℕ, ◌<◌, cond, List, [], ◌∷◌, map, fold, length, ℤ, pos, ◌+ℤ◌, ◌-ℤ◌, neg_ℤ}
use Rattle.std.specs.Prelude.{IsTrue, Option, None, All}
use Rattle.std.specs.List.{list_all, concat}
use Rattle.vr_model.specs.tables.Numbers.{below}
use Rattle.vr_model.specs.tables.Tables.{is_visit, arc_cost, vehicle_at}
use Rattle.vr_model.specs.routes.Routes.{route, is_distinct}
use Rattle.vr_model.specs.first.Choosing.{better}
use Rattle.vr_model.specs.first.Items.{first_node, last_node}
use Rattle.vr_model.specs.first.SavingsJoins.{Join, may_join, saving}
use Rattle.vr_model.specs.declared.records.Model.{Model}
use Rattle.vr_first_savings.specs.declared.choice.JoinChoice.{JoinChoice}

-- routes with visits, each visit in them once
pub record AreApart (model : Model) (routes : List (List ℕ)) : Type 0 where
  pub some : All (λ route. 0 < length route) routes
  pub visits : IsTrue (list_all (is_visit model) (concat routes))
  pub distinct : IsTrue (is_distinct (concat routes))

-- the join that a choice means
abbrev pub join_of : List (List ℕ) → JoinChoice → Join
join_of routes choice = record { front = route routes choice.front; back = route routes choice.back }

-- what a choice is compared by: the greatest saving first, then the last node of the front route, then the first of the
-- back route
abbrev pub saving_key : JoinChoice → List ℤ
saving_key choice = neg_ℤ choice.saving ∷ pos choice.last ∷ pos choice.first ∷ []

-- what it saves to drive from one node to another, and not over the end and the start
abbrev pub saved : Model → ℕ → ℕ → ℤ
saved model last first = (arc_cost model 0 last (vehicle_at model 0).end
    +ℤ arc_cost model 0 (vehicle_at model 0).start first) -ℤ arc_cost model 0 last first

-- the choice of two routes
abbrev pub choice_at : Model → List (List ℕ) → ℕ → ℕ → JoinChoice
choice_at model routes i j = record {
  front = i;
  back = j;
  saving = saved model (last_node (route routes i)) (first_node (route routes j));
  last = last_node (route routes i);
  first = first_node (route routes j);
}

-- the better of the best so far and a choice, which counts only if the two routes may be joined
abbrev pub weigh_join : Model → List (List ℕ) → Option JoinChoice → JoinChoice → Option JoinChoice
weigh_join model routes best next = cond (may_join model (join_of routes next)) (better saving_key best next) best

-- the best beside the joins of route i with the first routes
abbrev pub best_behind : Model → List (List ℕ) → ℕ → ℕ → Option JoinChoice → Option JoinChoice
best_behind model routes i count best = fold (weigh_join model routes) best
    (map (choice_at model routes i) (below count))

-- the best of the joins of the first routes with all
abbrev pub best_of_joins : Model → List (List ℕ) → ℕ → Option JoinChoice
best_of_joins model routes count = fold (λ best i. best_behind model routes i (length routes) best) None (below count)

-- a join that may be made: two routes that there are, not one with itself
pub record MayBeJoined (model : Model) (routes : List (List ℕ)) (choice : JoinChoice) : Type 0 where
  pub front : choice.front < length routes
  pub back : choice.back < length routes
  pub two : choice.front ≢ choice.back
  pub may : IsTrue (may_join model (join_of routes choice))
  pub saves : choice.saving ≡ saving model (join_of routes choice)
