-- Which used arcs a round penalises, one after the other.
use Rattle.std.specs.Prelude.{ℕ, zero, suc, Bool, cond, ◌&&◌, ◌==◌, List, [], ◌∷◌, pos, ◌*ℤ◌, int_le}
use Rattle.vr_model.specs.routes.Routes.{UsedArc, cost_of_arc}
use Rattle.vr_model.specs.search.GuidedSearches.{Penalties, penalty_of}
use Rattle.vr_model.specs.declared.records.Model.{Model}
use Rattle.vr_guided.specs.declared.worths.Worth.{Worth}

-- what an arc is worth
abbrev pub worth_of : Model → Penalties → UsedArc → Worth
worth_of model penalties arc = record { cost = cost_of_arc model arc; penalty = penalty_of penalties arc }

-- a worth is no more than another, by cross products
abbrev pub is_no_more : Worth → Worth → Bool
is_no_more worth other = int_le (worth.cost *ℤ pos (suc other.penalty)) (other.cost *ℤ pos (suc worth.penalty))

-- the greater of two, the first of equally great ones
abbrev pub greater : Worth → Worth → Worth
greater best worth = cond (is_no_more worth best) best worth

-- the greatest of a worth and those of some arcs, the first of equally great ones
abbrev pub greatest_worth : (UsedArc → Worth) → Worth → List UsedArc → Worth
greatest_worth worth best [] = best
greatest_worth worth best (arc ∷ arcs) = greatest_worth worth (greater best (worth arc)) arcs

-- no cost at all
abbrev pub worthless : Worth
worthless = record { cost = pos zero; penalty = zero }

-- an arc leads from one node to another
abbrev pub leads : ℕ → ℕ → UsedArc → Bool
leads origin target arc = (arc.origin == origin) && (arc.target == target)

-- one more on the pair of nodes of an arc
abbrev pub increased : Penalties → UsedArc → Penalties
increased penalties arc origin target =
    cond (leads origin target arc) (suc (penalties origin target)) (penalties origin target)

-- one more on an arc that is worth as much as the greatest
abbrev pub raised_once : Model → Worth → Penalties → UsedArc → Penalties
raised_once model best penalties arc =
    cond (is_no_more best (worth_of model penalties arc)) (increased penalties arc) penalties

-- one more on each such arc, one after the other
abbrev pub raised_in_turn : Model → Worth → Penalties → List UsedArc → Penalties
raised_in_turn model best penalties [] = penalties
raised_in_turn model best penalties (arc ∷ arcs) = raised_in_turn model best (raised_once model best penalties arc) arcs
