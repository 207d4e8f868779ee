-- Guided local search. At a local optimum the arcs of the greatest utility (Voudouris, Tsang) get penalties; an arc's
-- utility is called its worth here. The descent goes on by the cost with the penalised arcs added.
use Rattle.std.specs.Prelude.{ℕ, zero, suc, ◌-◌, Bool, true, false, cond, not, ◌&&◌, ◌||◌, ◌==◌, List, ℤ, pos, ◌+ℤ◌}
use Rattle.std.specs.Prelude.{◌*ℤ◌, int_lt, int_le}
use Rattle.std.specs.List.{list_all, list_any}
use Rattle.vr_model.specs.tables.Numbers.{total_by}
use Rattle.vr_model.specs.routes.Routes.{UsedArc, used_arcs, cost_of_arc}
use Rattle.vr_model.specs.moves.Moves.{apply, moves}
use Rattle.vr_model.specs.routes.Rules.{is_valid}
use Rattle.vr_model.specs.routes.Costs.{cost}
use Rattle.vr_model.specs.search.Scans.{Scan, scan}
use Rattle.vr_model.specs.search.Scans.Scan.{Accepted, Complete, Cut}
use Rattle.vr_model.specs.search.Outcomes.{SearchState, Outcome, tried, accepted, ended, event_at, with_event}
use Rattle.vr_model.specs.search.Outcomes.{from_first}
use Rattle.vr_model.specs.declared.records.Model.{Model}
use Rattle.vr_model.specs.declared.records.End.TheVariants.{Optimum, Tries, Solutions}
use Rattle.vr_model.specs.declared.search.Limit.{Limit}
use Rattle.vr_model.specs.declared.search.Lambda.{Lambda}
use Rattle.vr_model.specs.declared.search.Kind.TheVariants as kind
use Rattle.vr_model.specs.declared.neighbours.Move.{Move}

-- how often each ordered pair of nodes was penalised
abbrev pub Penalties : Type 0
Penalties = ℕ → ℕ → ℕ

-- no pair of nodes is penalised at first
abbrev pub no_penalties : Penalties
no_penalties origin target = 0

-- the penalty of an arc
abbrev pub penalty_of : Penalties → UsedArc → ℕ
penalty_of penalties arc = penalties arc.origin arc.target

-- the costs of the used arcs, each times its penalty, added up
abbrev pub penalised : Model → Penalties → List (List ℕ) → ℤ
penalised model penalties lists =
    total_by (λ arc. pos (penalty_of penalties arc) *ℤ cost_of_arc model arc) (used_arcs model lists)

-- the augmented cost of lists: q times the cost and p times the penalised arc costs
unfoldable pub augmented : Model → Lambda → Penalties → List (List ℕ) → ℤ
augmented model lambda penalties lists = (lambda.q *ℤ cost model lists) +ℤ (lambda.p *ℤ penalised model penalties lists)

-- a move is acceptable if the lists after it are valid and have a lesser augmented cost
abbrev pub improves_augmented : Model → Lambda → Penalties → List (List ℕ) → Move → Bool
improves_augmented model lambda penalties lists mv = let after = apply model lists mv in
    is_valid model after && int_lt (augmented model lambda penalties after) (augmented model lambda penalties lists)

-- An arc is worth no more than another, compared by cross products. Its worth is its cost over one more than its
-- penalty: 4 for cost 12 and penalty 2.
abbrev pub is_worth_no_more : Model → Penalties → UsedArc → UsedArc → Bool
is_worth_no_more model penalties arc other =
    int_le (cost_of_arc model arc *ℤ pos (suc (penalty_of penalties other)))
    (cost_of_arc model other *ℤ pos (suc (penalty_of penalties arc)))

-- no used arc is worth more
abbrev pub is_worth_most : Model → Penalties → List (List ℕ) → UsedArc → Bool
is_worth_most model penalties lists arc =
    list_all (λ other. is_worth_no_more model penalties other arc) (used_arcs model lists)

-- a used arc of the greatest worth leads from one node to another
abbrev pub is_raised : Model → Penalties → List (List ℕ) → ℕ → ℕ → Bool
is_raised model penalties lists origin target =
    list_any (λ arc. ((arc.origin == origin) && (arc.target == target))
    && is_worth_most model penalties lists arc) (used_arcs model lists)

-- the penalties after a round: one more on each used arc of the greatest worth
abbrev pub raised : Model → Penalties → List (List ℕ) → Penalties
raised model penalties lists origin target =
    cond (is_raised model penalties lists origin target) (suc (penalties origin target)) (penalties origin target)

-- some used arc has a cost above 0
abbrev pub has_costly_arc : Model → List (List ℕ) → Bool
has_costly_arc model lists = list_any (λ arc. int_lt (pos 0) (cost_of_arc model arc)) (used_arcs model lists)

-- Guided search is at its end if there was no move to try, or if no used arc has a cost above 0. In the second case
-- penalties change nothing.
abbrev pub is_at_end : Model → SearchState → ℕ → Bool
is_at_end model state n = (n == 0) || not (has_costly_arc model state.lists)

-- how guided local search goes on after a scan: from the accepted move, with raised penalties, or it ends
abbrev pub guided_on : Model → Limit → (Penalties → SearchState → Outcome) → Penalties → SearchState → Scan → Outcome
guided_on model limit again penalties state (Accepted n mv) =
    let next = accepted model state n mv in with_event (event_at model next kind.Move) (again penalties next)
guided_on model limit again penalties state (Complete n) = elim (is_at_end model state n) [
  | true ↦ ended (tried state n) Optimum
  | false ↦ with_event (event_at model (tried state n) kind.Round)
      (again (raised model penalties state.lists) (tried state n))
]
guided_on model limit again penalties state Cut = ended (tried state (limit.tries - state.used)) Tries

-- Guided local search from a state, by at most a given number of scans. Each scan that does not end the search uses a
-- try. So with one scan more than there are tries left the bound is never met.
unfoldable pub guided_from : Model → Limit → Lambda → ℕ → Penalties → SearchState → Outcome
guided_from model limit lambda zero penalties state = ended state Tries
guided_from model limit lambda (suc scans) penalties state = elim (state.found == limit.solutions) [
  | true ↦ ended state Solutions
  | false ↦ guided_on model limit (guided_from model limit lambda scans) penalties state
      (scan (moves model state.lists) (improves_augmented model lambda penalties state.lists)
      (limit.tries - state.used))
]

-- guided local search from lists
unfoldable pub guided : Model → List (List ℕ) → Limit → Lambda → Outcome
guided model lists limit lambda = from_first model lists (guided_from model limit lambda (suc limit.tries) no_penalties)
