-- The rows of sections.
use Rattle.std.specs.Prelude.{ℕ, ◌==◌, ◌&&◌, ◌-◌, List, [], ◌∷◌, ◌++◌, Bool, not, length, find, unwrap_or, nat_le}
use Rattle.std.specs.Prelude.{ℤ, pos, negsuc, Result, Ok, Err, Some, if◌then◌else◌}
use Rattle.std.specs.List.{list_any, list_all}
use Rattle.std.specs.Ordering.{int_eq}
use Rattle.vr_json.specs.Reading.{◌>>=◌}
use Rattle.vr_tsplib.specs.declared.flaws.Flaw.{Flaw}
use Rattle.vr_tsplib.specs.declared.flaws.Flaw.TheVariants.{FaultyLine, NodeAgain}
use Rattle.vr_tsplib.specs.declared.heads.LinePlace.{LinePlace}
use Rattle.vr_tsplib.specs.declared.heads.LinePlace.TheVariants.{Outside, Sites, Demands, DepotEnd}
use Rattle.vr_tsplib.specs.declared.heads.Head.{Head}
use Rattle.vr_tsplib.specs.declared.section_rows.SiteRow.{SiteRow}
use Rattle.vr_tsplib.specs.declared.section_rows.DemandRow.{DemandRow}
use Rattle.vr_tsplib.specs.Flaws.{refuse_if}
use Rattle.vr_tsplib.specs.Heads.{nodes_of}
use Rattle.vr_tsplib.specs.Numbers.{number, is_number, one_number, two_numbers, three_numbers, whole_in, count_in}

-- a coordinate
abbrev pub coordinate : ℤ → Result ℤ Flaw
coordinate z = whole_in (negsuc 999999) (pos 1000000) z

-- one of n nodes
abbrev pub node_in : ℕ → ℤ → Result ℕ Flaw
node_in n z = count_in 1 n z

abbrev pub has_site : List SiteRow → ℕ → Bool
has_site rows node = list_any (λ row. row.node == node) rows

abbrev pub has_demand : List DemandRow → ℕ → Bool
has_demand rows node = list_any (λ row. row.node == node) rows

-- the point of a node, which has no earlier row: the node, x and y
unfoldable pub site_row : ℕ → List SiteRow → List (List ℕ) → Result SiteRow Flaw
site_row n rows ws = do
  row ← three_numbers ws
  node ← node_in n row.0
  x ← coordinate row.1
  y ← coordinate row.2
  fresh ← refuse_if (has_site rows node) NodeAgain
  Ok (record { node = node; x = x; y = y })

-- the demand of a node, which has no earlier row: the node and its demand
unfoldable pub demand_row : ℕ → List DemandRow → List (List ℕ) → Result DemandRow Flaw
demand_row n rows ws = do
  row ← two_numbers ws
  node ← node_in n row.0
  demand ← count_in 0 1073741824 row.1
  fresh ← refuse_if (has_demand rows node) NodeAgain
  Ok (record { node = node; demand = demand })

-- whether words are numbers, and no more of them than are still to come
abbrev pub are_numbers : ℕ → List (List ℕ) → Bool
are_numbers left ws = list_all is_number ws && nat_le (length ws) left

-- a word as a weight
unfoldable pub weight : List ℕ → Result ℕ Flaw
weight word = number word >>= count_in 0 1099511627776

-- words as weights, after others
unfoldable pub weights_behind : List ℕ → List (List ℕ) → Result (List ℕ) Flaw
weights_behind earlier [] = Ok earlier
weights_behind earlier (word ∷ rest) = weight word >>= λ w. weights_behind (earlier ++ w ∷ []) rest

-- a row of weights after others, of which this many are still to come
unfoldable pub row_behind : ℕ → List ℕ → List (List ℕ) → Result (List ℕ) Flaw
row_behind left earlier ws = do
  shaped ← refuse_if (not (are_numbers left ws)) FaultyLine
  weights_behind earlier ws

-- the line of the depot, and the line of -1 after it
unfoldable pub depot_row : Head → List (List ℕ) → Result Head Flaw
depot_row head ws = do
  number ← one_number ws
  node ← node_in (nodes_of head) number
  Ok (record head { depot = Some node; place = DepotEnd })

unfoldable pub depot_end : Head → List (List ℕ) → Result Head Flaw
depot_end head ws = do
  number ← one_number ws
  last ← refuse_if (not (int_eq number (negsuc 0))) NodeAgain
  Ok (record head { place = Outside })

-- the part of the file that the line after a row is in; the row was one of this many that were to come
abbrev pub sites_left : ℕ → LinePlace
sites_left left = if nat_le left 1 then Outside else Sites (left - 1)

abbrev pub demands_left : ℕ → LinePlace
demands_left left = if nat_le left 1 then Outside else Demands (left - 1)

-- the row of a node, and the demand of a node
abbrev pub site_of : List SiteRow → ℕ → SiteRow
site_of rows node = unwrap_or (find (λ row. row.node == node) rows) (record { node = node; x = pos 0; y = pos 0 })

abbrev pub demand_row_of : List DemandRow → ℕ → DemandRow
demand_row_of rows node = unwrap_or (find (λ row. row.node == node) rows) (record { node = node; demand = 0 })

abbrev pub demand_of : List DemandRow → ℕ → ℕ
demand_of rows node = (demand_row_of rows node).demand
