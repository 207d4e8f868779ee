-- What the tables of a generated model are read as.
use Rattle.std.proofs.Common.{◌≡◌, ◌∙◌, ℕ, ◌+◌, ◌<◌, ◌≤◌, Bool, true, false, ◌||◌, List, [], ◌∷◌, map, length, replicate, Some, None, Ok, refl, ap, arith}
use Rattle.std.specs.Prelude.{ℤ, pos, ◌≤ℤ◌, codes, flat_map, int_lt, slice_index_or, ◌==◌}
use Rattle.std.specs.List.{All, list_any}
use Rattle.std.proofs.lemmas.Int.{ints}
use Rattle.std.proofs.lemmas.List.{length-map}
use Rattle.std.proofs.lemmas.List.Elements.{All-weaker, All-map, All-cons, All-replicate}
use Rattle.std.proofs.lemmas.List.Folds.{list_any_none}
use Rattle.vr_json.proofs.Lists.{list_any-map}
use Rattle.vr_json.specs.declared.fault.Cause.TheVariants.{Repeated, Reversed, NotAVisit}
use Rattle.vr_json.specs.Reading.{ReaderOf, and_then, at_path, field, if_present, required, optional, present, maybe, known, if_unknown, list}
use Rattle.vr_json.specs.Reading.{array as array_of, entries, first_two, two_entries, for_each, refuse_if}
use Rattle.vr_json.specs.Kinds.{whole, below as below_n, count as count_of, text, flag, choice}
use Rattle.vr_model.specs.tables.Numbers.{below, horizon}
use Rattle.vr_model.specs.tables.Limits.{least_value, greatest_value, greatest_cost}
use Rattle.vr_model.specs.routes.Routes.{holds}
use Rattle.vr_model.specs.declared.records.Matrix.{Matrix}
use Rattle.vr_model.specs.declared.records.Vehicle.{Vehicle}
use Rattle.vr_model.specs.declared.records.Policy.TheVariants.{Any}
use Rattle.vr_model.specs.declared.records.ScheduleRule.TheVariants.{Earliest}
use Rattle.vr_model.specs.declared.records.Dimension.{Dimension}
use Rattle.vr_model.specs.declared.records.Evaluator.{Evaluator}
use Rattle.vr_model.specs.declared.records.StopRow.{StopRow}
use Rattle.vr_model.specs.declared.records.VehicleBreaks.{VehicleBreaks}
use Rattle.vr_model.specs.declared.records.BreakRow.{BreakRow}
use Rattle.vr_model.specs.declared.records.Group.{Group}
use Rattle.vr_model.specs.declared.records.SearchRow.{SearchRow}
use Rattle.vr_model.specs.declared.records.First.TheVariants.{ParallelCheapestInsertion}
use Rattle.vr_model.specs.declared.records.Improve.TheVariants as improve
use Rattle.vr_model.proofs.tables.Tests.{apart as differ}
use Rattle.vr_read.specs.declared.formats.Format.TheVariants.{One}
use Rattle.vr_read.specs.Vehicles.{matrix as matrix_of, vehicle as vehicle_of, ends, schedule, visit, is_terminal}
use Rattle.vr_read.specs.StopRows.{interval, limits, stop_row, break_row, vehicle_breaks}
use Rattle.vr_read.specs.Dimensions.{evaluator, capped, name, transits, bounds, rows, span_costs, dimension}
use Rattle.vr_read.specs.Visits.{group_node, group as group_of}
use Rattle.vr_read.specs.Searches.{choices, default_search, search_row as search_of}
use Rattle.vr_gen.specs.declared.draws.Site.{Site}
use Rattle.vr_gen.specs.declared.draws.Customer.{Customer}
use Rattle.vr_gen.specs.Generated.{apart, distance_entry, row, matrix, values, vehicle, pause, rest, window, services, times, demand_of, loads, dimensions}
use Rattle.vr_gen.specs.Generated.{group, search_row}
use Rattle.vr_json.specs.Trees.{count, listed}
use Rattle.vr_gen.proofs.ExactReadings.{All-below, ReadsAs, step, whole_reads, below_reads, array_each, array_below, refuse_none}

-- ---- numbers below a bound

-- no entry of a table by number passes a test
none_below : {A : Type 0} (p : A → Bool) (g : ℕ → A) (n : ℕ) → ((i : ℕ) → i < n → p (g i) ≡ false) → list_any p (map g (below n)) ≡ false
none_below p g n h = list_any-map g p (below n) ∙ list_any_none (λ i. p (g i)) (below n) (All-below (λ i. p (g i) ≡ false) n h)

-- ---- matrices

-- a site in the square
pub record IsNear (site : Site) : Type 0 where
  pub x_low : site.x < 1000
  pub y_low : site.y < 1000

abbrev pub distance_read : Site → Site → ℕ
distance_read a b = apart a.x b.x + apart a.y b.y

pub distance_few : (a b : Site) → IsNear a → IsNear b → distance_read a b ≤ 2000
distance_few a b h k = omega (arith, h.x_low, h.y_low, k.x_low, k.y_low)

abbrev pub row_read : List Site → Site → List ℤ
row_read sites a = map (λ b. pos (distance_read a b)) sites

abbrev pub matrix_read : List Site → Matrix
matrix_read sites = record { entries = flat_map (λ row. row) (map (row_read sites) sites) }

module _ (n : ℕ) (sites : List Site) (all : length sites ≡ n) (near : All IsNear sites) where
  abbrev entry_of : List ℤ → ReaderOf ℤ
  entry_of so_far = whole least_value greatest_cost

  abbrev row_of : List (List ℤ) → ReaderOf (List ℤ)
  row_of earlier = array_of n n entry_of

  row_reads : (a : Site) → IsNear a → ReadsAs row_of (row sites) (row_read sites) a
  row_reads a h earlier path =
      array_each entry_of (distance_entry a) (λ b. pos (distance_read a b)) n n path sites (omega (arith, all))
      (omega (arith, all)) (All-weaker IsNear (ReadsAs entry_of (distance_entry a) (λ b. pos (distance_read a b))) each sites near)
    where
      each : (b : Site) → IsNear b → ReadsAs entry_of (distance_entry a) (λ b. pos (distance_read a b)) b
      each b k so_far path =
          let few = distance_few a b h k in
          whole_reads (distance_read a b) (omega (arith, few)) least_value greatest_cost path (omega (arith, ints)) (omega (arith, ints, few))

  pub matrix_reads : (path : List ℕ) → matrix_of n path (matrix sites) ≡ Ok (matrix_read sites)
  unfolding matrix_of and_then
  matrix_reads path =
      step _
      (array_each row_of (row sites) (row_read sites) n n path sites (omega (arith, all)) (omega (arith, all))
      (All-weaker IsNear (ReadsAs row_of (row sites) (row_read sites)) row_reads sites near)) refl

-- ---- vehicles

abbrev pub vehicle_read : Vehicle
vehicle_read = record { start = 0; «end» = 0; costs = 0; fixed = pos 0; policy = Any; schedule = Earliest }

abbrev pub vehicles_read : List Vehicle
vehicles_read = map (λ v. vehicle_read) (below 6)

pub vehicle_reads : (path : List ℕ) → vehicle_of One 61 1 path vehicle ≡ Ok vehicle_read
unfolding vehicle_of ends schedule below_n required optional known if_unknown field if_present at_path and_then
vehicle_reads path = refl

-- each node but 0 is a visit
no_terminal : (k : ℕ) → is_terminal vehicles_read (k + 1) ≡ false
no_terminal k =
    none_below (λ v. (v.start == k + 1) || (v.end == k + 1)) (λ v. vehicle_read) 6 (λ i low. ap (λ b. b || b) (differ 0 (k + 1) (λ e. omega (arith, e))))

visit_reads : (k : ℕ) (path : List ℕ) → k < 60 → visit 61 vehicles_read path (count (k + 1)) ≡ Ok (k + 1)
unfolding visit and_then
visit_reads k path low =
    step _ (below_reads (k + 1) (omega (arith, low)) 61 path (omega (arith, low))) (step _ (refuse_none NotAVisit path (no_terminal k)) refl)

-- a number that is no lesser one
later : (i k : ℕ) → i < k → (i + 1 == k + 1) ≡ false
later i k low = differ (i + 1) (k + 1) (λ e. omega (arith, e, low))

-- ---- windows and breaks

abbrev pub window_lo : List Customer → ℕ → ℕ
window_lo customers k = (slice_index_or customers k (record { lo = 0; demand = 0 })).lo

abbrev pub window_read : List Customer → ℕ → StopRow
window_read customers k = record {
  key = k + 1;
  window = Some (record { lo = pos (window_lo customers k); hi = pos (window_lo customers k + 4000) });
  forbidden = [];
  soft = None;
}

in_order : (n : ℕ) → int_lt (pos (n + 4000)) (pos n) ≡ false
in_order n = grind (arith, ints)

interval_reads : (lo : ℕ) (path : List ℕ) → lo < 8000
    → interval path (listed count (lo ∷ ((lo + 4000) ∷ []))) ≡ Ok (record { lo = pos lo; hi = pos (lo + 4000) })
unfolding interval two_entries first_two list at_path and_then
interval_reads lo path early =
    step _ (step _ (whole_reads lo (omega (arith, early)) (pos 0) horizon _ (omega (arith, ints)) (omega (arith, ints, early)))
    (step _ (whole_reads (lo + 4000) (omega (arith, early)) (pos 0) horizon _ (omega (arith, ints)) (omega (arith, ints, early))) refl))
    (step _ (refuse_none Reversed path (in_order lo)) refl)

window_reads : (customers : List Customer) (k : ℕ) (path : List ℕ) → window_lo customers k < 8000 → k < 60
    → stop_row (codes "node") (visit 61 vehicles_read) (map (window_read customers) (below k)) path (window customers k) ≡ Ok (window_read customers k)
unfolding stop_row limits required optional maybe present known if_unknown field if_present at_path and_then
window_reads customers k path early low =
    step _ (visit_reads k _ low)
    (step _ (refuse_none Repeated _ (none_below (λ row. row.key == k + 1) (window_read customers) k (λ i first. later i k first)))
    (step _ (step _ (step _ (interval_reads (window_lo customers k) _ early) refl) refl) refl))

abbrev pub pause_read : BreakRow
pause_read = record { from = pos 6000; to = pos 9000; duration = pos 600 }

abbrev pub rest_read : ℕ → VehicleBreaks
rest_read v = record { vehicle = v; rows = pause_read ∷ [] }

pause_reads : (path : List ℕ) → break_row path pause ≡ Ok pause_read
unfolding break_row whole required known if_unknown field if_present refuse_if at_path and_then
pause_reads path = refl

rest_reads : (v : ℕ) (path : List ℕ) → v < 6 → vehicle_breaks 6 (map rest_read (below v)) path (rest v) ≡ Ok (rest_read v)
unfolding vehicle_breaks required known if_unknown field if_present array_of list entries at_path and_then
rest_reads v path low =
    step _ (below_reads v (omega (arith, low)) 6 _ low)
    (step _ (refuse_none Repeated _ (none_below (λ entry. entry.vehicle == v) rest_read v (λ i first. differ i v (λ e. omega (arith, e, first)))))
    (step _ (step _ (pause_reads _) refl) refl))

-- ---- dimensions

-- numbers that are small
abbrev AreFew : List ℕ → Type 0
AreFew others = All (λ n. n ≤ 20000) others

abbrev pub values_read : List ℕ → List ℤ
values_read others = map pos (0 ∷ others)

values_read_as : (n : ℕ) (lo : ℤ) (others : List ℕ) (path : List ℕ) → length others + 1 ≡ n → lo ≤ℤ pos 0 → AreFew others
    → array_of n n (λ so_far. whole lo greatest_value) path (values others) ≡ Ok (values_read others)
values_read_as n lo others path all low few =
    array_each (λ so_far. whole lo greatest_value) count pos n n path (0 ∷ others) (omega (arith, all)) (omega (arith, all))
    (All-weaker (λ m. m ≤ 20000) (ReadsAs (λ so_far. whole lo greatest_value) count pos)
    (λ m h so_far path. whole_reads m (omega (arith, h)) lo greatest_value path (omega (arith, ints, low)) (omega (arith, ints, h))) (0 ∷ others)
    (All-cons (λ m. m ≤ 20000) 0 others (omega arith) few))

-- the dimension of times
abbrev pub times_evaluator : Evaluator
times_evaluator = record { matrix = Some 0; values = values_read services }

abbrev pub times_read : List Customer → Dimension
times_read customers = record {
  name = codes "time";
  evaluators = times_evaluator ∷ [];
  vehicle_evaluators = replicate 6 0;
  slack_max = pos 20000;
  capacities = replicate 6 (pos 20000);
  fix_start = false;
  visit = values_read services;
  nodes = map (window_read customers) (below 60);
  starts = [];
  ends = [];
  breaks = map rest_read (below 6);
  span_costs = replicate 6 (pos 0);
  global_span_cost = pos 0;
}

few_services : AreFew services
few_services = All-replicate (λ n. n ≤ 20000) 60 30 (omega arith)

-- a window that begins early, and a small demand
pub record IsModest (customer : Customer) : Type 0 where
  pub early : customer.lo < 8000
  pub few : customer.demand ≤ 9

abbrev window_of : List StopRow → ReaderOf StopRow
window_of = stop_row (codes "node") (visit 61 vehicles_read)

module _ (customers : List Customer) (path : List ℕ) where
  times_transits : transits 61 1 6 path (times customers) ≡ Ok (record { evaluators = times_evaluator ∷ []; vehicle_evaluators = replicate 6 0 })
  unfolding times transits evaluator below_n required optional maybe present known if_unknown field if_present array_of list entries at_path and_then
  times_transits = step _ (step _ (step _ (values_read_as 61 least_value services _ refl (omega (arith, ints)) few_services) refl) refl) refl

  times_bounds : bounds 61 6 path (times customers)
      ≡ Ok (record { slack_max = pos 20000; capacities = replicate 6 (pos 20000); fix_start = false; visit = values_read services })
  unfolding times bounds capped whole for_each required optional field if_present at_path and_then
  times_bounds = step _ (values_read_as 61 (pos 0) services _ refl (omega (arith, ints)) few_services) refl

  times_rows : length customers ≡ 60 → All IsModest customers
      → rows 61 6 vehicles_read path (times customers)
      ≡ Ok (record { nodes = map (window_read customers) (below 60); starts = []; ends = []; breaks = map rest_read (below 6) })
  unfolding times rows optional field if_present at_path and_then
  times_rows all modest = step _ (windows_read _) (step _ (array_below (vehicle_breaks 6) rest rest_read 6 rest_reads 0 100 _ (omega arith) (omega arith)) refl)
    where
      windows_read : (path : List ℕ)
          → array_of 0 1000 window_of path (listed (window customers) (below (length customers))) ≡ Ok (map (window_read customers) (below 60))
      windows_read path =
          ap (λ n. array_of 0 1000 window_of path (listed (window customers) (below n))) all
          ∙ array_below window_of (window customers) (window_read customers) 60
          (λ k path low. window_reads customers k path (modest k (record { lo = 0; demand = 0 }) (omega (arith, low, all))).early low)
          0 1000 path (omega arith) (omega arith)

  times_reads : length customers ≡ 60 → All IsModest customers → dimension 61 1 6 vehicles_read [] path (times customers) ≡ Ok (times_read customers)
  unfolding times dimension name text span_costs required optional known if_unknown field if_present refuse_if at_path and_then
  times_reads all modest = step _ times_transits (step _ times_bounds (step _ (times_rows all modest) refl))

-- the dimension of loads
abbrev pub loads_evaluator : List Customer → Evaluator
loads_evaluator customers = record { matrix = None; values = values_read (map demand_of customers) }

abbrev pub loads_read : List Customer → Dimension
loads_read customers = record {
  name = codes "load";
  evaluators = loads_evaluator customers ∷ [];
  vehicle_evaluators = replicate 6 0;
  slack_max = pos 0;
  capacities = replicate 6 (pos 60);
  fix_start = true;
  visit = replicate 61 (pos 0);
  nodes = [];
  starts = [];
  ends = [];
  breaks = [];
  span_costs = replicate 6 (pos 0);
  global_span_cost = pos 0;
}

module _ (customers : List Customer) (path : List ℕ) where
  loads_transits : length customers ≡ 60 → All IsModest customers
      → transits 61 1 6 path (loads customers) ≡ Ok (record { evaluators = loads_evaluator customers ∷ []; vehicle_evaluators = replicate 6 0 })
  unfolding loads transits evaluator required optional maybe present known if_unknown field if_present array_of list entries at_path and_then
  loads_transits all modest = step _
      (step _
      (step _ (values_read_as 61 least_value (map demand_of customers) _ (omega (arith, all, length-map customers demand_of)) (omega (arith, ints)) few) refl)
      refl) refl
    where
      few : AreFew (map demand_of customers)
      few = All-map (λ n. n ≤ 20000) demand_of customers
          (All-weaker IsModest (λ customer. customer.demand ≤ 20000) (λ customer h. omega (arith, h.few)) customers modest)

  loads_reads : length customers ≡ 60 → All IsModest customers
      → dimension 61 1 6 vehicles_read (times_read customers ∷ []) path (loads customers) ≡ Ok (loads_read customers)
  unfolding loads dimension name text bounds capped whole flag for_each rows span_costs
      required optional known if_unknown field if_present refuse_if at_path and_then
  loads_reads all modest = step _ (loads_transits all modest) refl

abbrev pub dimensions_read : List Customer → List Dimension
dimensions_read customers = times_read customers ∷ loads_read customers ∷ []

pub dimensions_read_as : (customers : List Customer) (path : List ℕ) → length customers ≡ 60 → All IsModest customers
    → array_of 0 4 (dimension 61 1 6 vehicles_read) path (dimensions customers) ≡ Ok (dimensions_read customers)
unfolding array_of list entries at_path and_then
dimensions_read_as customers path all modest = step _ (times_reads customers _ all modest) (step _ (loads_reads customers _ all modest) refl)

-- ---- groups

abbrev pub group_read : ℕ → Group
group_read k = record { nodes = (k + 1) ∷ []; penalty = Some (pos 10000); max = 1 }

pub group_reads : (k : ℕ) (path : List ℕ) → k < 60 → group_of 61 vehicles_read (map group_read (below k)) path (group k) ≡ Ok (group_read k)
unfolding group_of group_node whole required optional maybe present known if_unknown field if_present array_of list entries at_path and_then
group_reads k path low = step _ (step _ (step _ (visit_reads k _ low) (step _ (refuse_none Repeated _ fresh) refl)) refl) refl
  where
    fresh : (list_any (λ group. holds group.nodes (k + 1)) (map group_read (below k)) || holds [] (k + 1)) ≡ false
    fresh = ap (λ b. b || false)
        (none_below (λ group. holds group.nodes (k + 1)) group_read k (λ i first. ap (λ b. b || false) (differ (k + 1) (i + 1) (λ e. omega (arith, e, first)))))

-- ---- the search

abbrev pub search_read : SearchRow
search_read = record default_search { first = ParallelCheapestInsertion; improve = improve.GuidedLocalSearch; tries = 20000 }

pub search_reads : (path : List ℕ) → search_of path search_row ≡ Ok search_read
unfolding search_of choices search_row choice count_of optional known if_unknown field if_present at_path and_then
search_reads path = refl
