-- What holds of all that is read: nodes, capacity, coordinates, demands and weights lie in their ranges.
use Rattle.std.proofs.Common.{◌≡◌, ℕ, ◌+◌, ◌≤◌, Bool, true, false, not, List, [], ◌∷◌, ◌++◌, Option, Some, None, Result, Ok, Err, refl, sym, subst, arith}
use Rattle.std.specs.Prelude.{ℤ, pos, negsuc, ◌≤ℤ◌, is_some, unwrap_or, nat_le, if◌then◌else◌}
use Rattle.std.specs.List.{All}
use Rattle.std.specs.Option.{ok_or}
use Rattle.std.proofs.lemmas.Bool.{and_parts, leb-true}
use Rattle.std.proofs.lemmas.List.Elements.{All-nil, All-push}
use Rattle.vr_json.specs.Reading.{and_then}
use Rattle.vr_json.proofs.Readings.{Ensures, gives, fails, any_value, after, weaker, tested}
use Rattle.vr_model.specs.deciding.Testing.{within_is}
use Rattle.vr_model.specs.tables.WellFormed.{WherePresent}
use Rattle.vr_tsplib.specs.declared.flaws.Flaw.{Flaw}
use Rattle.vr_tsplib.specs.declared.flaws.Flaw.TheVariants.{OutOfRange}
use Rattle.vr_tsplib.specs.declared.heads.Head.{Head}
use Rattle.vr_tsplib.specs.declared.heads.Keyword.{Keyword}
use Rattle.vr_tsplib.specs.declared.heads.Keyword.TheVariants as keyword
use Rattle.vr_tsplib.specs.declared.heads.Heading.{Heading}
use Rattle.vr_tsplib.specs.declared.heads.Heading.TheVariants as heading
use Rattle.vr_tsplib.specs.declared.heads.LinePlace.{LinePlace}
use Rattle.vr_tsplib.specs.declared.heads.LinePlace.TheVariants as place
use Rattle.vr_tsplib.specs.declared.section_rows.SiteRow.{SiteRow}
use Rattle.vr_tsplib.specs.declared.section_rows.DemandRow.{DemandRow}
use Rattle.vr_tsplib.specs.declared.files.State.{State}
use Rattle.vr_tsplib.specs.declared.summaries.Problem.{Problem}
use Rattle.vr_tsplib.specs.Flaws.{at_line, refuse_if}
use Rattle.vr_tsplib.specs.Texts.{is_empty, words, has_byte}
use Rattle.vr_tsplib.specs.Numbers.{number, whole_in, count_in}
use Rattle.vr_tsplib.specs.Heads.{no_head, nodes_of, keep, keep_name, keep_node_coord_type, keep_display_data_type, keep_type, once_number, keep_dimension}
use Rattle.vr_tsplib.specs.Heads.{keep_capacity, keep_weight_type, keep_weight_format, keyword_parts, begin, begin_sites, begin_weights, begin_demands}
use Rattle.vr_tsplib.specs.Heads.{begin_depot, weights_left, heading_line, outside_line}
use Rattle.vr_tsplib.specs.Rows.{coordinate, site_row, demand_row, weight, weights_behind, row_behind, depot_row, depot_end}
use Rattle.vr_tsplib.specs.Files.{start, line_at, sites_line, demands_line, weights_line, head_line, read_line, read_lines, complete}
use Rattle.vr_tsplib.specs.Ranges.{IsFew, IsHeadInRange, IsLight, IsSiteInRange, IsProblem, AreLinesInRange, IsCountIn}

-- ---- numbers

counted : (lo hi : ℕ) (z : ℤ) → Ensures (IsCountIn lo hi) (count_in lo hi z)
counted lo hi (pos n) = tested _ _ _ (λ e. let parts = and_parts (nat_le lo n) (nat_le n hi) e in (leb-true lo n parts.0, leb-true n hi parts.1))
counted lo hi (negsuc n) = fails

refused : (wrong : Bool) (flaw : Flaw) → Ensures (λ passed. wrong ≡ false) (refuse_if wrong flaw)
unfolding refuse_if
refused true flaw = fails
refused false flaw = gives refl

once_counted : (stood : Bool) (lo hi : ℕ) (value : List ℕ) → Ensures (λ n. (stood ≡ false) × IsCountIn lo hi n) (once_number stood lo hi value)
unfolding once_number
once_counted stood lo hi value = after any_value λ z _. after (refused stood _) λ _ fresh. weaker (λ n within. (fresh, within)) (counted lo hi z)

whole : (lo hi z : ℤ) → Ensures (λ x. (lo ≤ℤ x) × (x ≤ℤ hi)) (whole_in lo hi z)
whole lo hi z = tested _ _ _ (within_is lo hi z)

-- whichever case is read
either : {A : Type 0} {P : A → Type 0} {x y : Result A Flaw} (b : Bool) → Ensures P x → Ensures P y → Ensures P (if b then x else y)
either true h k = h
either false h k = k

-- ---- the head

-- another head with the same numbers
same_numbers : (head other : Head) → IsHeadInRange head → other.nodes ≡ head.nodes
    → other.capacity ≡ head.capacity → other.depot ≡ head.depot → IsHeadInRange other
same_numbers head other h n c d = record {
  nodes = subst (WherePresent (IsCountIn 1 1000)) (sym n) h.nodes;
  capacity = subst (WherePresent (IsCountIn 0 68719476736)) (sym c) h.capacity;
  depot = subst (λ o. WherePresent (IsCountIn 1 (unwrap_or o 0)) other.depot) (sym n) (subst (WherePresent (IsCountIn 1 (nodes_of head))) (sym d) h.depot);
}

-- a head that a reading gives is in range
abbrev pub KeepsRange : Result Head Flaw → Type 0
KeepsRange reading = Ensures IsHeadInRange reading

-- where no nodes are known there is no depot
no_depot : (nodes depot : Option ℕ) (P : ℕ → Type 0) → is_some nodes ≡ false → WherePresent (IsCountIn 1 (unwrap_or nodes 0)) depot → WherePresent P depot
no_depot nodes None P none h = tt
no_depot None (Some d) P none h = absurd (omega (arith, h.0, h.1))
no_depot (Some n) (Some d) P none h = absurd cc

module _ (head : Head) (h : IsHeadInRange head) where
  name_keeps : KeepsRange (keep_name head)
  unfolding keep_name
  name_keeps = after any_value λ _ _. gives (same_numbers head (record head { name = true }) h refl refl refl)

  node_coord_type_keeps : KeepsRange (keep_node_coord_type head)
  unfolding keep_node_coord_type
  node_coord_type_keeps = after any_value λ _ _. gives (same_numbers head (record head { node_coord_type = true }) h refl refl refl)

  display_data_type_keeps : KeepsRange (keep_display_data_type head)
  unfolding keep_display_data_type
  display_data_type_keeps = after any_value λ _ _. gives (same_numbers head (record head { display_data_type = true }) h refl refl refl)

  type_keeps : (value : List ℕ) → KeepsRange (keep_type head value)
  unfolding keep_type
  type_keeps value =
      after any_value λ _ _. after any_value λ _ _. after any_value λ _ _. gives (same_numbers head (record head { is_cvrp = true }) h refl refl refl)

  dimension_keeps : (value : List ℕ) → KeepsRange (keep_dimension head value)
  unfolding keep_dimension
  dimension_keeps value =
      after (once_counted (is_some head.nodes) 1 1000 value) λ n found.
      gives (record {
        nodes = found.1;
        capacity = h.capacity;
        depot = no_depot head.nodes head.depot (IsCountIn 1 n) found.0 h.depot;
      })

  capacity_keeps : (value : List ℕ) → KeepsRange (keep_capacity head value)
  unfolding keep_capacity
  capacity_keeps value =
      after (once_counted (is_some head.capacity) 0 68719476736 value) λ n found.
      gives (record { nodes = h.nodes; capacity = found.1; depot = h.depot })

  weight_type_keeps : (value : List ℕ) → KeepsRange (keep_weight_type head value)
  unfolding keep_weight_type
  weight_type_keeps value =
      after any_value λ _ _. after any_value λ _ _. after any_value λ w _. gives (same_numbers head (record head { weight_type = Some w }) h refl refl refl)

  weight_format_keeps : (value : List ℕ) → KeepsRange (keep_weight_format head value)
  unfolding keep_weight_format
  weight_format_keeps value =
      after any_value λ _ _. after any_value λ _ _. after any_value λ w _. gives (same_numbers head (record head { weight_format = Some w }) h refl refl refl)

  keyword_keeps : (key : Keyword) (value : List ℕ) → KeepsRange (keep key head value)
  keyword_keeps keyword.Name value = name_keeps
  keyword_keeps keyword.Comment value = gives h
  keyword_keeps keyword.NodeCoordType value = node_coord_type_keeps
  keyword_keeps keyword.DisplayDataType value = display_data_type_keeps
  keyword_keeps keyword.Type value = type_keeps value
  keyword_keeps keyword.Dimension value = dimension_keeps value
  keyword_keeps keyword.Capacity value = capacity_keeps value
  keyword_keeps keyword.EdgeWeightType value = weight_type_keeps value
  keyword_keeps keyword.EdgeWeightFormat value = weight_format_keeps value

  keyword_line_keeps : (name value : List ℕ) → KeepsRange (keyword_parts head name value)
  unfolding keyword_parts
  keyword_line_keeps name value = after any_value λ _ _. after any_value λ key _. keyword_keeps key value

  section_keeps : (section : Heading) → KeepsRange (begin section head)
  unfolding begin_sites begin_weights begin_demands begin_depot
  section_keeps heading.NodeCoordSection =
      after any_value λ n _. gives (same_numbers head (record head { has_sites = true; place = place.Sites n }) h refl refl refl)
  section_keeps heading.EdgeWeightSection =
      after any_value λ n _. after any_value λ left _.
      gives (same_numbers head (record head { has_weights = true; place = weights_left left }) h refl refl refl)
  section_keeps heading.DemandSection =
      after any_value λ n _. gives (same_numbers head (record head { has_demands = true; place = place.Demands n }) h refl refl refl)
  section_keeps heading.DepotSection =
      after any_value λ n _. gives (same_numbers head (record head { has_depot = true; place = place.Depot }) h refl refl refl)
  section_keeps heading.Eof = gives (same_numbers head (record head { place = place.Ended }) h refl refl refl)

  heading_keeps : (line : List ℕ) → KeepsRange (heading_line head line)
  unfolding heading_line
  heading_keeps line = after any_value λ _ _. after any_value λ section _. section_keeps section

  outside_keeps : (line : List ℕ) → KeepsRange (outside_line head line)
  outside_keeps line = either (has_byte 58 line) (keyword_line_keeps _ _) (heading_keeps line)

  depot_keeps : (ws : List (List ℕ)) → KeepsRange (depot_row head ws)
  unfolding depot_row
  depot_keeps ws =
      after any_value λ z _. after (counted 1 (nodes_of head) z) λ node within.
      gives (record { nodes = h.nodes; capacity = h.capacity; depot = within })

  depot_end_keeps : (ws : List (List ℕ)) → KeepsRange (depot_end head ws)
  unfolding depot_end
  depot_end_keeps ws = after any_value λ _ _. after any_value λ _ _. gives (same_numbers head (record head { place = place.Outside }) h refl refl refl)

-- ---- rows

site_near : (n : ℕ) (rows : List SiteRow) (ws : List (List ℕ)) → Ensures IsSiteInRange (site_row n rows ws)
unfolding site_row
site_near n rows ws =
    after any_value λ row _. after any_value λ node _. after (whole _ _ row.1) λ x x_in. after (whole _ _ row.2) λ y y_in. after any_value λ _ _.
    gives (record { x_least = x_in.0; x_most = x_in.1; y_least = y_in.0; y_most = y_in.1 })

demand_few : (n : ℕ) (rows : List DemandRow) (ws : List (List ℕ)) → Ensures IsFew (demand_row n rows ws)
unfolding demand_row
demand_few n rows ws =
    after any_value λ row _. after any_value λ node _. after (counted 0 1073741824 row.1) λ demand within. after any_value λ _ _. gives within.1

weight_few : (word : List ℕ) → Ensures IsLight (weight word)
unfolding weight
weight_few word = after any_value λ z _. weaker (λ n within. within.1) (counted 0 1099511627776 z)

weights_few : (ws : List (List ℕ)) (earlier : List ℕ) → All IsLight earlier → Ensures (All IsLight) (weights_behind earlier ws)
unfolding weights_behind
weights_few [] earlier h = gives h
weights_few (word ∷ ws) earlier h = after (weight_few word) λ w light. weights_few ws (earlier ++ w ∷ []) (All-push IsLight earlier w h light)

row_few : (left : ℕ) (earlier : List ℕ) (ws : List (List ℕ)) → All IsLight earlier → Ensures (All IsLight) (row_behind left earlier ws)
unfolding row_behind
row_few left earlier ws h = after any_value λ _ _. weights_few ws earlier h

-- ---- the state

-- a state with another head that is in range
with_range : (state : State) (head : Head) → AreLinesInRange state → IsHeadInRange head → AreLinesInRange (record state { head = head })
with_range state head h within = record { head = within; sites = h.sites; demands = h.demands; weights = h.weights }

module _ (state : State) (h : AreLinesInRange state) where
  at_place_range : (next : LinePlace) → IsHeadInRange (record (state.head) { place = next })
  at_place_range next = same_numbers state.head (record (state.head) { place = next }) h.head refl refl refl

  sites_sound : (left : ℕ) (line : List ℕ) → Ensures AreLinesInRange (sites_line left state line)
  unfolding sites_line
  sites_sound left line =
      after (site_near (nodes_of state.head) state.sites (words line)) λ row near.
      gives (record { head = at_place_range _; sites = All-push IsSiteInRange state.sites row h.sites near; demands = h.demands; weights = h.weights })

  demands_sound : (left : ℕ) (line : List ℕ) → Ensures AreLinesInRange (demands_line left state line)
  unfolding demands_line
  demands_sound left line =
      after (demand_few (nodes_of state.head) state.demands (words line)) λ row few.
      gives (record { head = at_place_range _; sites = h.sites; demands = All-push IsFew state.demands row h.demands few; weights = h.weights })

  weights_sound : (left : ℕ) (line : List ℕ) → Ensures AreLinesInRange (weights_line left state line)
  unfolding weights_line
  weights_sound left line =
      after (row_few left state.weights (words line) h.weights) λ all light.
      gives (record { head = at_place_range _; sites = h.sites; demands = h.demands; weights = light })

  head_sound : (read : Head → List ℕ → Result Head Flaw) (line : List ℕ)
      → KeepsRange (read state.head line) → Ensures AreLinesInRange (head_line read state line)
  unfolding head_line
  head_sound read line keeps = after keeps λ head within. gives (with_range state head h within)

  line_sound : (at : LinePlace) (line : List ℕ) → Ensures AreLinesInRange (line_at at state line)
  line_sound place.Outside line = head_sound outside_line line (outside_keeps state.head h.head line)
  line_sound (place.Sites left) line = sites_sound left line
  line_sound (place.Weights left) line = weights_sound left line
  line_sound (place.Demands left) line = demands_sound left line
  line_sound place.Depot line = head_sound (λ head line. depot_row head (words line)) line (depot_keeps state.head h.head (words line))
  line_sound place.DepotEnd line = head_sound (λ head line. depot_end head (words line)) line (depot_end_keeps state.head h.head (words line))
  line_sound place.Ended line = gives h

  read_sound : (line : List ℕ) → Ensures AreLinesInRange (read_line state line)
  unfolding read_line
  read_sound line = either (is_empty (words line)) (gives h) (line_sound state.head.place line)

at_line_sound : (number : ℕ) (reading : Result State Flaw) → Ensures AreLinesInRange reading → Ensures AreLinesInRange (at_line number reading)
unfolding at_line
at_line_sound number (Ok x) h = gives (h.of_value x refl)
at_line_sound number (Err flaw) h = fails

-- what lines say lies in its ranges
pub lines_sound : (rest : List (List ℕ)) (state : State) (number : ℕ) → AreLinesInRange state → Ensures AreLinesInRange (read_lines state number rest)
unfolding read_lines
lines_sound [] state number h = gives h
lines_sound (line ∷ rest) state number h =
    after (at_line_sound number (read_line state line) (read_sound state h line)) λ next sound. lines_sound rest next (number + 1) sound

pub start_sound : AreLinesInRange start
start_sound = record {
  head = record { nodes = tt; capacity = tt; depot = tt };
  sites = All-nil IsSiteInRange;
  demands = All-nil IsFew;
  weights = All-nil IsLight;
}

-- ---- whole files

present : {A : Type 0} (P : A → Type 0) (o : Option A) (flaw : Flaw) → WherePresent P o → Ensures (λ x. P x × (o ≡ Some x)) (ok_or o flaw)
present P None flaw h = fails
present P (Some x) flaw h = gives (h, refl)

pub complete_ranges : (state : State) → AreLinesInRange state → Ensures IsProblem (complete state)
unfolding complete
complete_ranges state h =
    after any_value λ _ _. after any_value λ _ _.
    after (present (IsCountIn 1 1000) state.head.nodes _ h.head.nodes) λ nodes nodes_in.
    after (present (IsCountIn 0 68719476736) state.head.capacity _ h.head.capacity) λ capacity capacity_in.
    after any_value λ _ _. after any_value λ _ _.
    after (present (IsCountIn 1 (nodes_of state.head)) state.head.depot _ h.head.depot) λ depot depot_in.
    after any_value λ _ _. after any_value λ _ _.
    gives (record {
      nodes = nodes_in.0;
      capacity = capacity_in.0.1;
      depot = subst (λ o. IsCountIn 1 (unwrap_or o 0) depot) nodes_in.1 depot_in.0;
    })
