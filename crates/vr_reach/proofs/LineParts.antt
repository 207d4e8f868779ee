-- The stops and arcs of the line of a list.
use Rattle.std.proofs.Common.{◌≡◌, ℕ, zero, suc, ◌+◌, ◌-◌, ◌<◌, ◌≤◌, Bool, true, false, List, [], ◌∷◌, ◌++◌, length, get_or, map, ℤ, refl, sym, ap, ap₂, subst}
use Rattle.std.proofs.Common.{◌∙◌, arith}
use Rattle.std.specs.Prelude.{IsTrue, ◌↔◌}
use Rattle.std.specs.List.{list_all}
use Rattle.std.proofs.lemmas.Bool.{and_parts}
use Rattle.std.proofs.lemmas.List.{length-append}
use Rattle.vr_spans.specs.declared.runs.Run.{Run}
use Rattle.vr_model.specs.tables.Tables.{vehicle_at, dimension_at, breaks_of, is_visit, transit}
use Rattle.vr_model.specs.schedules.Lines.{Line, line, line_arc}
use Rattle.vr_model.specs.schedules.Schedules.{IsFeasible, arc_at, no_arc}
use Rattle.vr_model.specs.schedules.Choices.{is_feasible}
use Rattle.vr_model.specs.schedules.SoundLines.{IsSound, LinesAreSound}
use Rattle.vr_model.specs.schedules.ChosenLaws.{ChosenWhereFeasible}
use Rattle.vr_model.specs.tables.WellFormed.{IsWellFormed}
use Rattle.vr_model.specs.declared.records.Model.{Model}
use Rattle.vr_model.specs.declared.records.BreakRow.{BreakRow}
use Rattle.vr_model.proofs.schedules.LineArcs.{arc_through, arcs_of_line}
use Rattle.vr_steps.specs.declared.hops.Hop.{Hop}
use Rattle.vr_steps.specs.Lines.{hop_of}
use Rattle.vr_steps.specs.declared.stops.StopName.TheVariants.{Start, End}
use Rattle.vr_steps.specs.Stops.{allowed_by}
use Rattle.vr_steps.specs.Levels.{AreLevels, AreCrossed, HasNumbers, IsCumuls}
use Rattle.vr_steps.specs.Reached.{IsAllowedSet, AreReached, AreReachingEnd, ReachedBehindArc, hop_at}
use Rattle.vr_reach.specs.Walks.{Meets}
use Rattle.vr_reach.specs.Lists.{IsTour, IsUsed, node_at_stop}
use Rattle.vr_reach.specs.VisitRuns.{AreVisitRuns, IsAllowedRun, IsRunFor}
use Rattle.vr_reach.specs.VisitSets.{AreVisitSets}

-- the arc from stop k leads between the nodes of two stops
pub hop_between_stops : (model : Model) (d v : ℕ) (list : List ℕ) (k origin target : ℕ) (hop : Hop)
    → k ≤ length list → origin ≡ node_at_stop model v list k → target ≡ node_at_stop model v list (k + 1)
    → hop ≡ hop_of (dimension_at model d).slack_max (line_arc model d v (record { vehicle = v; origin = origin; target = target }))
    → hop ≡ hop_at (line model d v list) k
hop_between_stops model d v list k origin target hop le from to is =
    let ts : List ℕ = list ++ (vehicle_at model v).end ∷ [] in
    let low : k < length ts = (let n = length-append list ((vehicle_at model v).end ∷ []) in omega (arith, n, le)) in
    let arc = arc_through (line_arc model d v) v (vehicle_at model v).start ts k no_arc low in
    let next : k + 1 ≡ suc k = omega arith in
    let to_ts : target ≡ get_or ts k 0 = to ∙ ap (node_at_stop model v list) next in
    is ∙ ap (hop_of (dimension_at model d).slack_max) (ap₂ (λ o t. line_arc model d v (record { vehicle = v; origin = o; target = t })) from to_ts ∙ sym arc)

-- what arc k takes
pub way_of : (model : Model) (d v : ℕ) (list : List ℕ) (k origin target : ℕ) → k ≤ length list → origin ≡ node_at_stop model v list k
    → target ≡ node_at_stop model v list (k + 1) → (t : ℤ) → t ≡ transit model d v origin target → t ≡ (arc_at (line model d v list) k).transit
way_of model d v list k origin target le from to t is =
    is ∙ ap (λ (h : Hop). h.transit)
    (hop_between_stops model d v list k origin target
    (hop_of (dimension_at model d).slack_max (line_arc model d v (record { vehicle = v; origin = origin; target = target }))) le from to refl)

read_map : {B : Type 0} (f : ℕ → B) (list : List ℕ) (rest : List B) (j : ℕ) (none : B)
    → j < length list → get_or (map f list ++ rest) j none ≡ f (get_or list j 0)
read_map f [] rest j none lt = absurd (omega (arith, lt))
read_map f (x ∷ xs) rest zero none lt = refl
read_map f (x ∷ xs) rest (suc j) none lt = read_map f xs rest j none (omega (arith, lt))

read_behind : {B : Type 0} (f : ℕ → B) (list : List ℕ) (last none : B) → get_or (map f list ++ last ∷ []) (length list) none ≡ last
read_behind f [] last none = refl
read_behind f (x ∷ xs) last none = read_behind f xs last none

pub visit_of_tour : (model : Model) (list : List ℕ) (k : ℕ) → IsTrue (list_all (is_visit model) list)
    → k < length list → IsTrue (is_visit model (get_or list k 0))
visit_of_tour model [] k all lt = absurd (omega (arith, lt))
visit_of_tour model (x ∷ xs) zero all lt = (and_parts (is_visit model x) (list_all (is_visit model) xs) all).0
visit_of_tour model (x ∷ xs) (suc k) all lt = visit_of_tour model xs k (and_parts (is_visit model x) (list_all (is_visit model) xs) all).1 (omega (arith, lt))

-- the set of a visit is what its stop allows
pub visit_allows : (model : Model) (d v : ℕ) (list : List ℕ) (k : ℕ) (sets : List (List Run)) (set : List Run)
    → AreVisitSets model d v sets → IsTour model list → 0 < k → k ≤ length list
    → set ≡ get_or sets (get_or list (k - 1) 0) [] → IsAllowedSet (line model d v list) k set
visit_allows model d v list zero sets set are tour some le is = absurd (omega (arith, some))
visit_allows model d v list (suc j) sets set are tour some le is =
    let before : suc j - 1 ≡ j = omega arith in
    let here : set ≡ get_or sets (get_or list j 0) [] = is ∙ ap (λ i. get_or sets (get_or list i 0) []) before in
    let visit = (are.each (get_or list j 0)).visit (visit_of_tour model list j tour.visits (omega (arith, le))) in
    subst (IsAllowedSet (line model d v list) (suc j)) (sym here) (record {
      exact = λ x. visit.exact x ∙ ap (λ (test : ℤ → Bool). test x) (sym (read_map _ list _ j (λ _. false) (omega (arith, le))));
      cumuls = visit.cumuls;
    })

-- the set of the end is what the last stop allows
pub end_allows : (model : Model) (d v : ℕ) (list : List ℕ) (set : List Run) → HasNumbers (allowed_by model d v End) set
    → IsCumuls set → IsAllowedSet (line model d v list) (suc (length list)) set
end_allows model d v list set exact cumuls = record {
  exact = λ x. exact x ∙ ap (λ (test : ℤ → Bool). test x) (sym (read_behind _ list _ (λ _. false)));
  cumuls = cumuls;
}

-- the run of a visit is what its stop allows
pub visit_allows_run : (model : Model) (d v : ℕ) (list : List ℕ) (k : ℕ) (runs : List Run) (run other : Run)
    → AreVisitRuns model d v runs → IsTour model list → k < length list → get_or list k 0 < length runs
    → run ≡ get_or runs (get_or list k 0) other → IsAllowedRun (line model d v list) (k + 1) run
visit_allows_run model d v list k runs run other are tour low known is =
    let next : suc k ≡ k + 1 = omega arith in
    let visit = are.each (get_or list k 0) other known (visit_of_tour model list k tour.visits low) in
    subst (λ i. IsAllowedRun (line model d v list) i run) next (subst (IsAllowedRun (line model d v list) (suc k)) (sym is) (record {
      exact = λ x. visit.exact x ∙ ap (λ (test : ℤ → Bool). test x) (sym (read_map _ list _ k (λ _. false) low));
      ends = visit.ends;
    }))

-- the run of the end is what the last stop allows
pub end_allows_run : (model : Model) (d v : ℕ) (list : List ℕ) (k : ℕ) (run : Run)
    → IsRunFor (allowed_by model d v End) run → k ≡ length list → IsAllowedRun (line model d v list) (k + 1) run
end_allows_run model d v list k run is at =
    let next : suc (length list) ≡ k + 1 = omega (arith, at) in
    subst (λ i. IsAllowedRun (line model d v list) i run) next (record {
      exact = λ x. is.exact x ∙ ap (λ (test : ℤ → Bool). test x) (sym (read_behind _ list _ (λ _. false)));
      ends = is.ends;
    })

-- the node at the last stop
pub end_node : (model : Model) (v : ℕ) (list : List ℕ) (k : ℕ) → k ≡ length list → node_at_stop model v list (k + 1) ≡ (vehicle_at model v).end
end_node model v list k at =
    let next : k + 1 ≡ suc (length list) = omega (arith, at) in
    ap (node_at_stop model v list) next ∙ last list
  where
    last : (xs : List ℕ) → get_or (xs ++ (vehicle_at model v).end ∷ []) (length xs) 0 ≡ (vehicle_at model v).end
    last [] = refl
    last (x ∷ xs) = last xs

pub same_tests : (a b : Bool) → (IsTrue a → IsTrue b) → (IsTrue b → IsTrue a) → a ≡ b
same_tests true true f g = refl
same_tests true false f g = sym (f refl)
same_tests false true f g = g refl
same_tests false false f g = refl

module _ (sound : LinesAreSound) (model : Model) (well : IsWellFormed model) (d v : ℕ)
    (d_low : d < length model.dimensions) (v_low : v < length model.vehicles) (list : List ℕ) (used : IsUsed model list) where
  pub sound_line : IsSound (line model d v list)
  sound_line = sound model well d v d_low v_low list used.some used.tour.visits used.tour.distinct

  -- what is reached behind the arc from stop k
  pub reached_next : ReachedBehindArc → (breaks : List BreakRow) → breaks ≡ breaks_of (dimension_at model d) v → (k : ℕ) → k ≤ length list
      → (hop : Hop) → hop ≡ hop_at (line model d v list) k → (set : List Run) → IsAllowedSet (line model d v list) (k + 1) set
      → (from new : List (List Run)) → AreReached (line model d v list) k from
      → AreCrossed from hop set breaks new → AreReached (line model d v list) (k + 1) new
  reached_next law breaks same k le hop hop_is set allows from new reached crossed =
      let next : k + 1 ≡ suc k = omega arith in
      let low : k < length (line model d v list).arcs = (let n = arcs_of_line model d v list in omega (arith, n, le)) in
      let here = subst (λ h. AreCrossed from h set breaks new) hop_is crossed in
      let there = subst (λ rows. AreCrossed from (hop_at (line model d v list) k) set rows new) same here in
      subst (λ i. AreReached (line model d v list) i new) (sym next)
      (law (line model d v list) sound_line k low set from new (subst (λ i. IsAllowedSet (line model d v list) i set) next allows) reached there)

  -- where a walk meets what the end is reached from
  pub meets : (breaks : List BreakRow) → breaks ≡ breaks_of (dimension_at model d) v → (k last : ℕ)
      → last ≤ suc (length list) → k ≡ last → (ahead behind : List (List Run)) → AreLevels breaks ahead → AreLevels breaks behind
      → AreReached (line model d v list) k ahead → AreReachingEnd (line model d v list) last behind → Meets (line model d v list) last ahead behind
  meets breaks same k last le at ahead behind form form_too reached reaching = record {
    sound = sound_line;
    stop = let n = arcs_of_line model d v list in omega (arith, n, le);
    ahead_form = subst (λ rows. AreLevels rows ahead) same form;
    behind_form = subst (λ rows. AreLevels rows behind) same form_too;
    reached = subst (λ i. AreReached (line model d v list) i ahead) at reached;
    reaching = reaching;
  }

pub feasible_as_tested : ChosenWhereFeasible → (line : Line) (passed : Bool) → IsTrue passed ↔ IsFeasible line → passed ≡ is_feasible line
feasible_as_tested law line passed is = same_tests passed (is_feasible line) (λ t. (law line).1 (is.0 t)) (λ t. is.1 ((law line).0 t))

-- the set of the start is what the first stop allows
pub start_allows_set : (model : Model) (d v : ℕ) (list : List ℕ) (set : List Run)
    → HasNumbers (allowed_by model d v Start) set → IsCumuls set → IsAllowedSet (line model d v list) 0 set
start_allows_set model d v list set exact cumuls = record { exact = exact; cumuls = cumuls }

long_behind : {B : Type 0} (f : ℕ → B) (list : List ℕ) (x : B) → length (map f list ++ x ∷ []) ≡ suc (length list)
long_behind f [] x = refl
long_behind f (y ∷ ys) x = ap suc (long_behind f ys x)

-- a line has two stops more than visits
pub stops_of_line : (model : Model) (d v : ℕ) (list : List ℕ) → length (line model d v list).allowed ≡ suc (suc (length list))
stops_of_line model d v list = ap suc (long_behind _ list _)

-- levels by the breaks of the vehicle are levels by those of its line
pub form_of : {breaks other : List BreakRow} (levels : List (List Run)) → breaks ≡ other → AreLevels other levels → AreLevels breaks levels
form_of levels same form = subst (λ rows. AreLevels rows levels) (sym same) form
