-- The runs of sets of no more than one.
use Rattle.std.proofs.Common.{◌≡◌, ◌∙◌, ℕ, suc, ◌+◌, ◌<◌, ◌≤◌, Bool, true, false, List, [], ◌∷◌, ◌++◌, length, take, get_or, Option, Some, None, ℤ, pos, ◌≤ℤ◌}
use Rattle.std.proofs.Common.{refl, ap, ap₂, sym, subst, arith}
use Rattle.std.specs.Prelude.{IfSome, slice_get, is_some, nat_le, not, filter, cond, ◌&&◌, ◌||◌}
use Rattle.std.specs.List.{list_all, range_with_len}
use Rattle.std.proofs.lemmas.Bool.{false≢true}
use Rattle.std.proofs.lemmas.Int.{ints}
use Rattle.std.proofs.lemmas.List.{take_all}
use Rattle.std.proofs.lemmas.List.Folds.{list_all_more}
use Rattle.std.proofs.lemmas.Option.{get_or_from_slice_get}
use Rattle.vr_spans.specs.declared.runs.Run.{Run}
use Rattle.vr_spans.specs.Runs.{has, IsNormal}
use Rattle.vr_model.specs.tables.Numbers.{below}
use Rattle.vr_model.specs.tables.Tables.{is_visit}
use Rattle.vr_model.specs.schedules.Weights.{runs}
use Rattle.vr_model.specs.routes.Routes.{is_empty}
use Rattle.vr_model.specs.declared.records.Model.{Model}
use Rattle.vr_steps.specs.Levels.{IsCumuls}
use Rattle.vr_steps.specs.Reached.{RunsAreCounted}
use Rattle.vr_steps.specs.Stops.{allowed_by}
use Rattle.vr_steps.specs.declared.stops.StopName.TheVariants.{Visit}
use Rattle.vr_reach.specs.declared.stops.Stops.{Stops}
use Rattle.vr_reach.specs.declared.stops.StopsFor.{StopsFor}
use Rattle.vr_reach.specs.Stops.{AreStops}
use Rattle.vr_reach.specs.Singles.{IsOnlyRun}
use Rattle.vr_reach.specs.VehicleStops.{AreStopsFor}
use Rattle.vr_reach.specs.VisitRuns.{have_visits_one_run, is_one_run, is_single, AreKnownRuns, IsRunFor, IsRunOf, AreRunsOfSets, AreVisitRuns}
use Rattle.vr_reach.specs.VisitSets.{IsSetOf, IsTableOf, AreVisitSets}
use Rattle.vr_model.proofs.tables.Tests.{all-from_list_all, clash, fails}
use Rattle.vr_reach.proofs.Tables.{each_push, table_here, table_there}

-- the only run of a set
pub only_run : (set : List Run) (run : Run) → length set ≡ 1 → slice_get set 0 ≡ Some run → IsNormal set → IsRunOf set run
only_run [] run one is normal = absurd (omega (arith, one))
only_run (r ∷ []) run one is normal = subst (IsRunOf (r ∷ [])) (get_or_from_slice_get (r ∷ []) 0 run r is) (record {
  exact = λ x. grind (arith, ints);
  ends = λ cumuls.
      let order = normal.1 in
      let low = cumuls r.lo (grind (arith, ints, order)) in
      let high = cumuls r.hi (grind (arith, ints, order)) in record {
        lo = record { at_least = grind (arith, ints, low); at_most = grind (arith, ints, low) };
        hi = record { at_least = grind (arith, ints, high); at_most = grind (arith, ints, high) };
      };
})
only_run (r ∷ s ∷ rs) run one is normal = absurd (omega (arith, one))

-- a set of cumuls of one run
pub only_level : (set : List Run) (run : Run) → length set ≡ 1 → slice_get set 0 ≡ Some run → IsNormal set → IsCumuls set → IsOnlyRun set run
only_level [] run one is normal cumuls = absurd (omega (arith, one))
only_level (r ∷ []) run one is normal cumuls =
    let of = only_run (r ∷ []) run one is normal in
    let ends = of.ends cumuls in
    let same = get_or_from_slice_get (r ∷ []) 0 run r is in
    let order = normal.1 in
    record {
      exact = of.exact;
      cumuls = record { least = ends.lo.at_least; in_order = subst (λ (n : Run). n.lo ≤ℤ n.hi) same order; greatest = ends.hi.at_most };
    }
only_level (r ∷ s ∷ rs) run one is normal cumuls = absurd (omega (arith, one))

-- the run of the end of a vehicle
pub finish_is : (test : ℤ → Bool) (set : List Run) (run : Run) → IsSetOf test set → IsRunOf set run → IsRunFor test run
finish_is test set run is of = record { exact = λ x. sym (of.exact x) ∙ is.exact x; ends = of.ends is.cumuls }

-- the run of no number
pub no_run : (set : List Run) (run : Run) → length set ≡ 0 → run.lo ≡ pos 1 → run.hi ≡ pos 0 → IsRunOf set run
no_run [] run none lo hi = record {
  exact = λ x. grind (arith, ints, lo, hi);
  ends = λ cumuls. record {
    lo = record { at_least = omega (arith, ints, lo); at_most = omega (arith, ints, lo) };
    hi = record { at_least = omega (arith, ints, hi); at_most = omega (arith, ints, hi) };
  };
}
no_run (r ∷ rs) run none lo hi = absurd (omega (arith, none))

-- the run of one set more
pub run_more : (sets : List (List Run)) (runs : List Run) (k : ℕ) (run : Run) → length runs ≡ k
    → ((j : ℕ) (other : Run) → j < length runs → IsRunOf (get_or sets j []) (get_or runs j other)) → IsRunOf (get_or sets k []) run
    → (j : ℕ) (other : Run) → j < length (runs ++ run ∷ []) → IsRunOf (get_or sets j []) (get_or (runs ++ run ∷ []) j other)
run_more sets runs k run long each is =
    each_push (λ j r. IsRunOf (get_or sets j []) r) runs run each (subst (λ j. IsRunOf (get_or sets j []) run) (sym long) is)

-- the runs of one table more
pub table_more : (tables : List (List (List Run))) (found : List (Option (List Run))) (k : ℕ) (new : Option (List Run))
    → length found ≡ k → ((j : ℕ) (other : Option (List Run)) → j < length found → AreKnownRuns (get_or tables j []) (get_or found j other))
    → AreKnownRuns (get_or tables k []) new
    → (j : ℕ) (other : Option (List Run)) → j < length (found ++ new ∷ []) → AreKnownRuns (get_or tables j []) (get_or (found ++ new ∷ []) j other)
table_more tables found k new long each is =
    each_push (λ j r. AreKnownRuns (get_or tables j []) r) found new each (subst (λ j. AreKnownRuns (get_or tables j []) new) (sym long) is)

-- the runs of what visits allow a vehicle
pub visit_runs : (model : Model) (d v : ℕ) (sets : List (List Run)) (runs : List Run)
    → AreVisitSets model d v sets → AreRunsOfSets sets runs → AreVisitRuns model d v runs
visit_runs model d v sets runs are of = record {
  long = of.one_of_each ∙ are.long;
  each = λ node other low visit. finish_is _ (get_or sets node []) (get_or runs node other)
      ((are.each node).visit visit) (of.each node other (let n = of.one_of_each in omega (arith, n, low)));
}

-- the runs of the table of a vehicle
pub runs_here : (model : Model) (d v k : ℕ) (stops : Stops) → AreStops model d stops → IsTableOf model d v stops.visits.capacities k
    → (runs : List Run) → get_or stops.runs k None ≡ Some runs → AreVisitRuns model d v runs
runs_here model d v k stops are is runs found =
    let sets = stops.visits in
    let low : k < length sets.tables = (let same = are.visits.tables.one_of_each in let there = is.there in omega (arith, same, there)) in
    visit_runs model d v (get_or sets.tables k []) runs (table_here model d v k sets are.visits.tables is)
    (subst (λ some. IfSome some (AreRunsOfSets (get_or sets.tables k []))) found (are.runs.each k low).runs)

-- there are its runs, or it is known that some set is of more than one
pub runs_there : (model : Model) (d v : ℕ) (stops : Stops) → AreStops model d stops
    → v < length model.vehicles → get_or stops.visits.table_of v 0 < length stops.runs
runs_there model d v stops are low =
    let there = table_there model d v stops.visits are.visits low in
    let same = are.runs.one_of_each in
    omega (arith, there, same)

-- the same for one of the vehicles
pub runs_for : {stops : StopsFor} → AreStopsFor stops → get_or stops.of_dimension.now.visits.table_of stops.v 0 < length stops.of_dimension.now.runs
runs_for {stops} known = runs_there stops.closed.model.now stops.d stops.v stops.of_dimension.now known.are known.vehicle

pub none_of : {A : Type 0} (xs : List A) → is_empty xs ≡ true → xs ≡ []
none_of [] none = refl
none_of (x ∷ xs) none = absurd (false≢true none)

pub all_four : (a b c d : Bool) → true ≡ a → true ≡ b → true ≡ c → true ≡ d → true ≡ (a && b && c && d)
all_four a b c d is_a is_b is_c is_d = ap₂ (λ x y. x && y) (ap₂ (λ x y. x && y) (ap₂ (λ x y. x && y) is_a is_b) is_c) is_d

pub first_fails : (a b c d : Bool) → false ≡ a → false ≡ (a && b && c && d)
first_fails a b c d is = ap (λ x. x && b && c && d) is

pub second_fails : (a b c d : Bool) → false ≡ b → false ≡ (a && b && c && d)
second_fails true b c d is = ap (λ x. x && c && d) is
second_fails false b c d is = refl

pub third_fails : (a b c d : Bool) → false ≡ c → false ≡ (a && b && c && d)
third_fails true true c d is = ap (λ x. x && d) is
third_fails true false c d is = refl
third_fails false b c d is = refl

pub fourth_fails : (a b c d : Bool) → false ≡ d → false ≡ (a && b && c && d)
fourth_fails true true true d is = is
fourth_fails true true false d is = refl
fourth_fails true false c d is = refl
fourth_fails false b c d is = refl

-- ---- which sets are of no more than one run

pub single : (n : ℕ) → n ≤ 1 → nat_le n 1 ≡ true
single n few = Prim.grind (arith, few)

pub not_single : (n : ℕ) → 1 < n → nat_le n 1 ≡ false
not_single n many = Prim.grind (arith, many)

-- one set more is
pub singles_more : (sets : List (List Run)) (k : ℕ) (set : List Run) → k < length sets → get_or sets k [] ≡ set
    → list_all is_single (take k sets) ≡ true → is_single set ≡ true → list_all is_single (take (k + 1) sets) ≡ true
singles_more sets k set low is before here = list_all_more is_single sets k [] low ∙ ap₂ (λ a b. a && b) before (ap is_single is ∙ here)

-- one set is not
pub singles_stop : (sets : List (List Run)) (k : ℕ) (set : List Run) → k < length sets
    → get_or sets k [] ≡ set → is_single set ≡ false → list_all is_single sets ≡ false
singles_stop sets k set low is here =
    fails (list_all is_single sets) (λ all. clash (is_single set) (ap is_single (sym is) ∙ all-from_list_all is_single sets all k [] low) here)

-- all are
pub singles_end : (sets : List (List Run)) (k : ℕ) → length sets ≤ k → list_all is_single (take k sets) ≡ true → list_all is_single sets ≡ true
singles_end sets k high all = sym (ap (list_all is_single) (take_all k sets high)) ∙ all

-- the set of a stop is exactly where the stop allows no more than one run
pub one_counted : RunsAreCounted → (test : ℤ → Bool) (set : List Run) → IsSetOf test set → is_single set ≡ is_one_run test
one_counted counted test set is =
    let same : has set ≡ test = λ i x. is.exact x i in
    ap (λ n. nat_le n 1) (sym (counted set is.normal is.cumuls) ∙ ap runs same)

split : (b : Bool) (q : ℕ → Bool) (x : ℕ) (rest : List ℕ) → list_all q (cond b (x ∷ rest) rest) ≡ ((not b || q x) && list_all q rest)
split true q x rest = refl
split false q x rest = refl

-- a test of all sets is one of those that are picked, where all others pass
among : (p : List Run → Bool) (r q : ℕ → Bool) (sets : List (List Run)) (a : ℕ)
    → ((k : ℕ) → k < length sets → p (get_or sets k []) ≡ (not (r (a + k)) || q (a + k)))
    → list_all p sets ≡ list_all q (filter r (range_with_len a (length sets)))
among p r q [] a each = refl
among p r q (set ∷ sets) a each =
    let here : a + 0 ≡ a = omega arith in
    let first : p set ≡ (not (r a) || q a) = each 0 (omega arith) ∙ ap (λ k. not (r k) || q k) here in
    let rest = among p r q sets (a + 1)
    (λ k low. let next : a + suc k ≡ a + 1 + k = omega arith in each (suc k) (omega (arith, low)) ∙ ap (λ i. not (r i) || q i) next) in
    ap₂ (λ x y. x && y) first rest ∙ sym (split (r a) q a (filter r (range_with_len (a + 1) (length sets))))

-- the sets of the visits are exactly where no visit allows more than one run
pub visits_counted : RunsAreCounted → (model : Model) (d v : ℕ) (sets : List (List Run))
    → AreVisitSets model d v sets → list_all is_single sets ≡ have_visits_one_run model d v
visits_counted counted model d v sets are =
    let one : ℕ → Bool = λ node. is_one_run (allowed_by model d v (Visit node)) in
    among is_single (is_visit model) one sets 0
    (λ node low. let same : 0 + node ≡ node = omega arith in at node ∙ ap (λ k. not (is_visit model k) || one k) (sym same))
    ∙ ap (λ n. list_all one (filter (is_visit model) (below n))) are.long
  where
    here : (node : ℕ) (b : Bool) → is_visit model node ≡ b → is_single (get_or sets node []) ≡ (not b || is_one_run (allowed_by model d v (Visit node)))
    here node true is = one_counted counted (allowed_by model d v (Visit node)) (get_or sets node []) ((are.each node).visit is)
    here node false is = ap is_single ((are.each node).other is)

    at : (node : ℕ) → is_single (get_or sets node []) ≡ (not (is_visit model node) || is_one_run (allowed_by model d v (Visit node)))
    at node = here node (is_visit model node) refl

-- the runs of the table of a vehicle are known exactly then
pub known_here : RunsAreCounted → (model : Model) (d v k : ℕ) (stops : Stops) → AreStops model d stops
    → IsTableOf model d v stops.visits.capacities k → is_some (get_or stops.runs k None) ≡ have_visits_one_run model d v
known_here counted model d v k stops are is =
    let sets = stops.visits in
    let low : k < length sets.tables = (let same = are.visits.tables.one_of_each in let there = is.there in omega (arith, same, there)) in
    (are.runs.each k low).known ∙ visits_counted counted model d v (get_or sets.tables k []) (table_here model d v k sets are.visits.tables is)
