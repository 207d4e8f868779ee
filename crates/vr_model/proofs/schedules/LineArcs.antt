-- The arcs of the line of a list.
use Rattle.std.proofs.Common.{◌≡◌, ℕ, zero, suc, ◌<◌, List, [], ◌∷◌, ◌++◌, length, map, get_or, refl, ap, arith}
use Rattle.std.proofs.lemmas.List.{length-map, length-append}
use Rattle.vr_model.specs.tables.Numbers.{number_at}
use Rattle.vr_model.specs.tables.Tables.{dimension_at, row_of, vehicle_at}
use Rattle.vr_model.specs.routes.Routes.{UsedArc, arcs_from}
use Rattle.vr_model.specs.schedules.Lines.{line, line_arc, stop_allows}
use Rattle.vr_model.specs.declared.records.Model.{Model}

-- arc k through some nodes leads from the node at place k to the next one
pub arc_through : {B : Type 0} (f : UsedArc → B) (v node : ℕ) (nodes : List ℕ) (k : ℕ) (none : B) → k < length nodes
    → get_or (map f (arcs_from v node nodes)) k none ≡ f (record { vehicle = v; origin = get_or (node ∷ nodes) k 0; target = get_or nodes k 0 })
arc_through f v node [] k none low = absurd (omega (arith, low))
arc_through f v node (next ∷ nodes) zero none low = refl
arc_through f v node (next ∷ nodes) (suc k) none low = arc_through f v next nodes k none (omega (arith, low))

-- there are as many arcs as nodes behind the first
pub length_arcs : (v node : ℕ) (nodes : List ℕ) → length (arcs_from v node nodes) ≡ length nodes
length_arcs v node [] = refl
length_arcs v node (next ∷ nodes) = ap suc (length_arcs v next nodes)

-- a line has one arc more than visits
pub arcs_of_line : (model : Model) (d v : ℕ) (list : List ℕ) → length (line model d v list).arcs ≡ suc (length list)
arcs_of_line model d v list =
    let nodes : List ℕ = list ++ (vehicle_at model v).end ∷ [] in
    let mapped = length-map (arcs_from v (vehicle_at model v).start nodes) (line_arc model d v) in
    let through = length_arcs v (vehicle_at model v).start nodes in
    let behind = length-append list ((vehicle_at model v).end ∷ []) in
    omega (arith, mapped, through, behind)

-- and one stop more than arcs
pub stops_of_line : (model : Model) (d v : ℕ) (list : List ℕ) → length (line model d v list).allowed ≡ suc (length (line model d v list).arcs)
stops_of_line model d v list =
    let dimension = dimension_at model d in
    let capacity = number_at dimension.capacities v in
    let mapped = length-map list (λ node. stop_allows capacity (row_of dimension.nodes node)) in
    let behind = length-append (map (λ node. stop_allows capacity (row_of dimension.nodes node)) list) (stop_allows capacity (row_of dimension.ends v) ∷ []) in
    let arcs = arcs_of_line model d v list in
    omega (arith, mapped, behind, arcs)
