-- Reading a printed tree gives back what was printed.
use Rattle.std.proofs.Common.{◌≡◌, ◌∙◌, ℕ, ◌<◌, ◌≤◌, Bool, true, false, List, [], map, length, Ok, Err, refl, ap, arith}
use Rattle.std.specs.Prelude.{ℤ, pos, negsuc, ◌^◌, ◌-◌, nat_le, if◌then◌else◌}
use Rattle.std.specs.List.{All}
use Rattle.std.proofs.lemmas.Bool.{le-leb, and_from}
use Rattle.std.proofs.lemmas.Int.{ints}
use Rattle.std.proofs.lemmas.List.{map-id}
use Rattle.std.proofs.lemmas.List.FromFn.{length-range_with_len}
use Rattle.std.proofs.lemmas.List.Elements.{All-weaker}
use Rattle.serde_json.specs.Data.{Data, string, array, no_items}
use Rattle.vr_json.specs.declared.fault.Cause.TheVariants.{WrongLength}
use Rattle.vr_json.specs.Reading.{and_then, at_path, field, if_present, required, known, if_unknown, list, entries, array as array_of}
use Rattle.vr_json.specs.Kinds.{text, choice, below as below_n}
use Rattle.vr_model.specs.tables.Numbers.{below}
use Rattle.vr_model.specs.tables.Tables.{dimension_at}
use Rattle.vr_model.specs.tables.WellFormed.{IsIn}
use Rattle.vr_model.specs.schedules.Schedules.{Plan}
use Rattle.vr_model.specs.routes.Routes.{route, is_empty}
use Rattle.vr_model.specs.routes.Costs.{Assignment, plan_at, sum_of}
use Rattle.vr_model.specs.declared.records.Model.{Model}
use Rattle.vr_model.specs.declared.records.Dimension.{Dimension}
use Rattle.vr_model.specs.declared.records.Parts.{Parts}
use Rattle.vr_model.specs.declared.records.Report.{Report}
use Rattle.vr_model.specs.declared.records.End.{End}
use Rattle.vr_model.specs.declared.records.End.TheVariants as stop
use Rattle.vr_json.specs.Trees as trees
use Rattle.vr_print.specs.Numbers as printed
use Rattle.vr_print.specs.Solution.{plan_tree, dimension_tree, used_plans_tree, plans_tree, route_nodes, route_tree, parts_tree, word_of, tree_of, routes_tree}
use Rattle.vr_printed.specs.Tables.{any_whole, any_length, all, plan, printed_route, printed_parts, stop_words, solution}
use Rattle.vr_printed.specs.declared.printed.PrintedRoute.{PrintedRoute}
use Rattle.vr_printed.specs.declared.printed.PrintedPlan.{PrintedPlan}
use Rattle.vr_gen.proofs.ExactReadings.{All-below, ReadsAs, step, whole_reads, below_reads, array_each}

-- ---- numbers and texts

-- a number that is not negative, of 64 bits
abbrev pub IsPrintable : ℤ → Type 0
IsPrintable = IsIn (pos 0) (pos (2 ^ 63 - 1))

number_back : (z : ℤ) (path : List ℕ) → IsPrintable z → any_whole path (printed.whole z) ≡ Ok z
number_back (pos n) path h = whole_reads n (omega (arith, ints, h.at_most)) (negsuc 9223372036854775807)
    (pos 9223372036854775807) path (omega (arith, ints)) (omega (arith, ints, h.at_most))
number_back (negsuc n) path h = absurd (omega (arith, ints, h.at_least))

numbers_back : (zs : List ℤ) (path : List ℕ) → length zs ≤ any_length → All IsPrintable zs → all any_whole path (printed.wholes zs) ≡ Ok zs
numbers_back zs path few h =
    array_each (λ earlier. any_whole) printed.whole (λ z. z) 0 any_length path zs (omega arith) few
    (All-weaker IsPrintable (ReadsAs (λ earlier. any_whole) printed.whole (λ z. z)) (λ z is earlier path. number_back z path is) zs h) ∙ ap Ok (map-id zs)

nodes_back : (n : ℕ) (nodes : List ℕ) (path : List ℕ) → n ≤ 1000 → length nodes ≤ any_length
    → All (λ node. node < n) nodes → all (below_n n) path (printed.counts nodes) ≡ Ok nodes
nodes_back n nodes path small few h =
    array_each (λ earlier. below_n n) trees.count (λ k. k) 0 any_length path nodes (omega arith) few
    (All-weaker (λ node. node < n) (ReadsAs (λ earlier. below_n n) trees.count (λ k. k))
    (λ k low earlier path. below_reads k (omega (arith, low, small)) n path low) nodes h) ∙ ap Ok (map-id nodes)

text_back : (s : List ℕ) (path : List ℕ) → length s ≤ any_length → text 0 any_length path (string s) ≡ Ok s
unfolding text at_path and_then
text_back s path few =
    ap (λ b. at_path path (if b then Ok s else Err WrongLength))
    (and_from (nat_le 0 (length s)) (nat_le (length s) any_length) (le-leb 0 (length s) (omega arith)) (le-leb (length s) any_length few))

stop_back : (end : End) (path : List ℕ) → choice stop_words path (string (word_of end)) ≡ Ok tt
unfolding choice at_path and_then
stop_back stop.First path = refl
stop_back stop.Optimum path = refl
stop_back stop.Tries path = refl
stop_back stop.Solutions path = refl

-- ---- plans

-- the numbers of a plan are printable
pub record IsPrintablePlan (plan : Plan) : Type 0 where
  pub cumuls : All IsPrintable plan.cumuls
  pub slacks : All IsPrintable plan.slacks
  pub breaks : All IsPrintable plan.breaks
  pub few_cumuls : length plan.cumuls ≤ any_length
  pub few_slacks : length plan.slacks ≤ any_length
  pub few_breaks : length plan.breaks ≤ any_length

abbrev pub plan_printed : Model → Assignment → ℕ → ℕ → PrintedPlan
plan_printed model assignment v d =
    let plan = plan_at assignment d v in
    record { name = (dimension_at model d).name; cumuls = plan.cumuls; slacks = plan.slacks; breaks = plan.breaks }

abbrev pub plans_printed : Model → Assignment → ℕ → List PrintedPlan
plans_printed model assignment v =
    if is_empty (route assignment.lists v) then [] else map (plan_printed model assignment v) (below (length model.dimensions))

abbrev pub route_printed : Model → Assignment → ℕ → PrintedRoute
route_printed model assignment v =
    record { vehicle = pos v; nodes = route_nodes model v (route assignment.lists v); plans = plans_printed model assignment v }

plan_back : (dimension : Dimension) (made : Plan) (path : List ℕ) → IsPrintablePlan made → length dimension.name ≤ any_length
    → plan path (plan_tree dimension made) ≡ Ok (record { name = dimension.name; cumuls = made.cumuls; slacks = made.slacks; breaks = made.breaks })
unfolding plan plan_tree required known if_unknown field if_present at_path and_then
plan_back dimension made path h few =
    step _ (numbers_back made.breaks _ h.few_breaks h.breaks)
    (step _ (numbers_back made.cumuls _ h.few_cumuls h.cumuls)
    (step _ (text_back dimension.name _ few)
    (step _ (numbers_back made.slacks _ h.few_slacks h.slacks) refl)))

none_back : (path : List ℕ) → all plan path (array no_items) ≡ Ok []
unfolding array_of list entries at_path and_then
none_back path = refl

-- ---- routes

-- what is printed of an assignment in a model is printable
pub record IsPrintableAssignment (model : Model) (assignment : Assignment) : Type 0 where
  pub few_nodes : model.nodes ≤ 1000
  pub few_vehicles : length assignment.lists ≤ 100
  pub few_dimensions : length model.dimensions ≤ 4
  pub names : (d : ℕ) → d < length model.dimensions → length (dimension_at model d).name ≤ 64
  pub plans : (d v : ℕ) → d < length model.dimensions → v < length assignment.lists
      → is_empty (route assignment.lists v) ≡ false → IsPrintablePlan (plan_at assignment d v)
  pub nodes : (v : ℕ) → v < length assignment.lists → All (λ node. node < model.nodes) (route_nodes model v (route assignment.lists v))
  pub short : (v : ℕ) → v < length assignment.lists → length (route_nodes model v (route assignment.lists v)) ≤ any_length

module _ (model : Model) (assignment : Assignment) (h : IsPrintableAssignment model assignment) where
  plans_back : (v : ℕ) (path : List ℕ) → v < length assignment.lists → all plan path (plans_tree model assignment v) ≡ Ok (plans_printed model assignment v)
  plans_back v path low = by (is_empty (route assignment.lists v)) refl
    where
      by : (b : Bool) → is_empty (route assignment.lists v) ≡ b
          → all plan path (if b then array no_items else used_plans_tree model assignment v)
          ≡ Ok (if b then [] else map (plan_printed model assignment v) (below (length model.dimensions)))
      by true e = none_back path
      by false e =
          array_each (λ earlier. plan) (dimension_tree model assignment v) (plan_printed model assignment v)
          0 any_length path (below (length model.dimensions)) (omega arith)
          (omega (arith, h.few_dimensions, length-range_with_len 0 (length model.dimensions)))
          (All-below (ReadsAs (λ earlier. plan) (dimension_tree model assignment v) (plan_printed model assignment v)) (length model.dimensions)
          (λ d known earlier path. let few = h.names d known in
          plan_back (dimension_at model d) (plan_at assignment d v) path (h.plans d v known low e) (omega (arith, few))))

  route_back : (v : ℕ) (path : List ℕ) → v < length assignment.lists
      → printed_route model.nodes path (route_tree model assignment v) ≡ Ok (route_printed model assignment v)
  unfolding printed_route route_tree required known if_unknown field if_present at_path and_then
  route_back v path low =
      step _ (plans_back v _ low)
      (step _ (nodes_back model.nodes (route_nodes model v (route assignment.lists v)) _ h.few_nodes (h.short v low) (h.nodes v low))
      (step _ (number_back (pos v) _ (record { at_least = omega (arith, ints); at_most = omega (arith, ints, low, h.few_vehicles) })) refl))

  pub routes_back : (path : List ℕ)
      → all (printed_route model.nodes) path (routes_tree model assignment) ≡ Ok (map (route_printed model assignment) (below (length assignment.lists)))
  routes_back path =
      array_each (λ earlier. printed_route model.nodes) (route_tree model assignment)
      (route_printed model assignment) 0 any_length path (below (length assignment.lists)) (omega arith)
      (omega (arith, h.few_vehicles, length-range_with_len 0 (length assignment.lists)))
      (All-below (ReadsAs (λ earlier. printed_route model.nodes) (route_tree model assignment) (route_printed model assignment))
      (length assignment.lists) (λ v low earlier path. route_back v path low))

-- ---- the solution

-- the parts of a cost are printable
pub record ArePrintableParts (parts : Parts) : Type 0 where
  pub arcs : IsPrintable parts.arcs
  pub fixed : IsPrintable parts.fixed
  pub global : IsPrintable parts.global
  pub penalty : IsPrintable parts.penalty
  pub soft : IsPrintable parts.soft
  pub span : IsPrintable parts.span
  pub sum : IsPrintable (sum_of parts)

parts_back : (parts : Parts) (path : List ℕ) → ArePrintableParts parts → printed_parts path (parts_tree parts) ≡ Ok parts
unfolding printed_parts parts_tree required known if_unknown field if_present at_path and_then
parts_back parts path h =
    step _ (number_back parts.arcs _ h.arcs)
    (step _ (number_back parts.fixed _ h.fixed)
    (step _ (number_back parts.global _ h.global)
    (step _ (number_back parts.penalty _ h.penalty)
    (step _ (number_back parts.soft _ h.soft)
    (step _ (number_back parts.span _ h.span) refl)))))

count_back : (n : ℕ) (path : List ℕ) → n ≤ 1000000000 → any_whole path (trees.count n) ≡ Ok (pos n)
count_back n path few = number_back (pos n) path (record { at_least = omega (arith, ints); at_most = omega (arith, ints, few) })

pub solution_back : (n : ℕ) (parts : Parts) (dropped : List ℕ) (tree : Data) (routes : List PrintedRoute) (first_cost : ℤ) (report : Report) (path : List ℕ)
    → n ≤ 1000 → ArePrintableParts parts → All (λ node. node < n) dropped → length dropped ≤ any_length → IsPrintable first_cost
    → ((path : List ℕ) → all (printed_route n) path tree ≡ Ok routes) → report.solutions ≤ 1000000000 → report.tries ≤ 1000000000
    → solution n path (tree_of parts dropped tree first_cost report)
    ≡ Ok (record {
      cost = sum_of parts;
      dropped = dropped;
      first_cost = first_cost;
      parts = parts;
      routes = routes;
      solutions = pos report.solutions;
      tries = pos report.tries;
    })
unfolding solution tree_of choice required known if_unknown field if_present at_path and_then
solution_back n parts dropped tree routes first_cost report path small parts_ok dropped_ok few first_ok routes_ok solutions_few tries_few =
    step _ (number_back (sum_of parts) _ parts_ok.sum)
    (step _ (nodes_back n dropped _ small few dropped_ok)
    (step _ (number_back first_cost _ first_ok)
    (step _ (parts_back parts _ parts_ok)
    (step _ (routes_ok _)
    (step _ (count_back report.solutions _ solutions_few)
    (step _ (stop_back report.end _)
    (step _ (count_back report.tries _ tries_few) refl)))))))
