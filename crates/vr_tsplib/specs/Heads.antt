-- The lines outside sections: keywords with their values, and the names of sections.
use Rattle.std.specs.Prelude.{ℕ, ◌*◌, ◌-◌, ◌/◌, ◌==◌, List, [], ◌∷◌, Bool, true, false, not, find, codes, if◌then◌else◌}
use Rattle.std.specs.Prelude.{is_some, option_map, unwrap_or, Option, Some, None, Result, Ok, Err}
use Rattle.std.specs.Option.{ok_or}
use Rattle.std.specs.Str.{bytes_eq}
use Rattle.vr_json.specs.Reading.{◌>>=◌}
use Rattle.vr_tsplib.specs.declared.flaws.Flaw.{Flaw}
use Rattle.vr_tsplib.specs.declared.flaws.Flaw.TheVariants.{FaultyLine, Repeated, UnknownWord, Missing}
use Rattle.vr_tsplib.specs.declared.heads.Keyword.{Keyword}
use Rattle.vr_tsplib.specs.declared.heads.Keyword.TheVariants as keyword
use Rattle.vr_tsplib.specs.declared.heads.Heading.{Heading}
use Rattle.vr_tsplib.specs.declared.heads.Heading.TheVariants as heading
use Rattle.vr_tsplib.specs.declared.heads.WeightType.{WeightType}
use Rattle.vr_tsplib.specs.declared.heads.WeightType.TheVariants.{Euclidean, Explicit}
use Rattle.vr_tsplib.specs.declared.heads.WeightFormat.{WeightFormat}
use Rattle.vr_tsplib.specs.declared.heads.WeightFormat.TheVariants.{FullMatrix, LowerRow, Function}
use Rattle.vr_tsplib.specs.declared.heads.LinePlace.{LinePlace}
use Rattle.vr_tsplib.specs.declared.heads.LinePlace.TheVariants.{Outside, Sites, Weights, Demands, Depot, Ended}
use Rattle.vr_tsplib.specs.declared.heads.Head.{Head}
use Rattle.vr_tsplib.specs.Flaws.{refuse_if}
use Rattle.vr_tsplib.specs.Numbers.{one_word, one_number, count_in}
use Rattle.vr_tsplib.specs.Texts.{words, has_byte, before_byte, after_byte}

-- ---- words

-- what the first word of a table means that is this one
abbrev pub meaning : {A : Type 0} → List (List ℕ × A) → List ℕ → Option A
meaning table word = option_map (λ w. w.1) (find (λ w. bytes_eq w.0 word) table)

abbrev pub keywords : List (List ℕ × Keyword)
keywords =
    (codes "NAME", keyword.Name) ∷ (codes "COMMENT", keyword.Comment)
    ∷ (codes "NODE_COORD_TYPE", keyword.NodeCoordType) ∷ (codes "DISPLAY_DATA_TYPE", keyword.DisplayDataType)
    ∷ (codes "TYPE", keyword.Type) ∷ (codes "DIMENSION", keyword.Dimension) ∷ (codes "CAPACITY", keyword.Capacity)
    ∷ (codes "EDGE_WEIGHT_TYPE", keyword.EdgeWeightType)
    ∷ (codes "EDGE_WEIGHT_FORMAT", keyword.EdgeWeightFormat) ∷ []

abbrev pub headings : List (List ℕ × Heading)
headings =
    (codes "NODE_COORD_SECTION", heading.NodeCoordSection)
    ∷ (codes "EDGE_WEIGHT_SECTION", heading.EdgeWeightSection)
    ∷ (codes "DEMAND_SECTION", heading.DemandSection) ∷ (codes "DEPOT_SECTION", heading.DepotSection)
    ∷ (codes "EOF", heading.Eof) ∷ []

abbrev pub weight_types : List (List ℕ × WeightType)
weight_types = (codes "EUC_2D", Euclidean) ∷ (codes "EXPLICIT", Explicit) ∷ []

abbrev pub weight_formats : List (List ℕ × WeightFormat)
weight_formats =
    (codes "FULL_MATRIX", FullMatrix) ∷ (codes "LOWER_ROW", LowerRow) ∷ (codes "FUNCTION", Function) ∷ []

-- ---- keywords

-- before the first line
abbrev pub no_head : Head
no_head = record {
  name = false;
  node_coord_type = false;
  display_data_type = false;
  is_cvrp = false;
  nodes = None;
  capacity = None;
  weight_type = None;
  weight_format = None;
  has_sites = false;
  has_weights = false;
  has_demands = false;
  has_depot = false;
  depot = None;
  place = Outside;
}

-- how many nodes there are; none before `DIMENSION`
abbrev pub nodes_of : Head → ℕ
nodes_of head = unwrap_or head.nodes 0

-- a number as the value of a keyword, which must not have come before
unfoldable pub once_number : Bool → ℕ → ℕ → List ℕ → Result ℕ Flaw
once_number stood lo hi value = do
  number ← one_number (words value)
  fresh ← refuse_if stood Repeated
  count_in lo hi number

unfoldable pub keep_name : Head → Result Head Flaw
keep_name head = do
  fresh ← refuse_if head.name Repeated
  Ok (record head { name = true })

unfoldable pub keep_node_coord_type : Head → Result Head Flaw
keep_node_coord_type head = do
  fresh ← refuse_if head.node_coord_type Repeated
  Ok (record head { node_coord_type = true })

unfoldable pub keep_display_data_type : Head → Result Head Flaw
keep_display_data_type head = do
  fresh ← refuse_if head.display_data_type Repeated
  Ok (record head { display_data_type = true })

unfoldable pub keep_type : Head → List ℕ → Result Head Flaw
keep_type head value = do
  word ← one_word (words value)
  fresh ← refuse_if head.is_cvrp Repeated
  known ← refuse_if (not (bytes_eq word (codes "CVRP"))) UnknownWord
  Ok (record head { is_cvrp = true })

unfoldable pub keep_dimension : Head → List ℕ → Result Head Flaw
keep_dimension head value = do
  count ← once_number (is_some head.nodes) 1 1000 value
  Ok (record head { nodes = Some count })

unfoldable pub keep_capacity : Head → List ℕ → Result Head Flaw
keep_capacity head value = do
  count ← once_number (is_some head.capacity) 0 68719476736 value
  Ok (record head { capacity = Some count })

unfoldable pub keep_weight_type : Head → List ℕ → Result Head Flaw
keep_weight_type head value = do
  word ← one_word (words value)
  fresh ← refuse_if (is_some head.weight_type) Repeated
  chosen ← ok_or (meaning weight_types word) UnknownWord
  Ok (record head { weight_type = Some chosen })

unfoldable pub keep_weight_format : Head → List ℕ → Result Head Flaw
keep_weight_format head value = do
  word ← one_word (words value)
  fresh ← refuse_if (is_some head.weight_format) Repeated
  chosen ← ok_or (meaning weight_formats word) UnknownWord
  Ok (record head { weight_format = Some chosen })

-- a keyword and its value; each but COMMENT comes at most once
abbrev pub keep : Keyword → Head → List ℕ → Result Head Flaw
keep keyword.Name head value = keep_name head
keep keyword.Comment head value = Ok head
keep keyword.NodeCoordType head value = keep_node_coord_type head
keep keyword.DisplayDataType head value = keep_display_data_type head
keep keyword.Type head value = keep_type head value
keep keyword.Dimension head value = keep_dimension head value
keep keyword.Capacity head value = keep_capacity head value
keep keyword.EdgeWeightType head value = keep_weight_type head value
keep keyword.EdgeWeightFormat head value = keep_weight_format head value

-- a line with a colon: one keyword before the first one, and its value after it
unfoldable pub keyword_parts : Head → List ℕ → List ℕ → Result Head Flaw
keyword_parts head key_text value = do
  word ← one_word (words key_text)
  key ← ok_or (meaning keywords word) FaultyLine
  keep key head value

abbrev pub keyword_line : Head → List ℕ → Result Head Flaw
keyword_line head line = keyword_parts head (before_byte 58 line) (after_byte 58 line)

-- ---- sections

-- how many weights a format has for n nodes
abbrev pub weights_of : WeightFormat → ℕ → Option ℕ
weights_of FullMatrix n = Some (n * n)
weights_of LowerRow n = Some (n * (n - 1) / 2)
weights_of Function n = None

abbrev pub weights_wanted : Option WeightFormat → ℕ → Option ℕ
weights_wanted None n = None
weights_wanted (Some format) n = weights_of format n

-- the part of the file that the next line is in, if this many weights are to come
abbrev pub weights_left : ℕ → LinePlace
weights_left left = if left == 0 then Outside else Weights left

-- how many nodes there are, if a section begins that must not have come before
unfoldable pub section_nodes : Head → Bool → Result ℕ Flaw
section_nodes head stood = do
  fresh ← refuse_if stood Repeated
  ok_or head.nodes Missing

unfoldable pub begin_sites : Head → Result Head Flaw
begin_sites head = do
  n ← section_nodes head head.has_sites
  Ok (record head { has_sites = true; place = Sites n })

unfoldable pub begin_weights : Head → Result Head Flaw
begin_weights head = do
  n ← section_nodes head head.has_weights
  left ← ok_or (weights_wanted head.weight_format n) Missing
  Ok (record head { has_weights = true; place = weights_left left })

unfoldable pub begin_demands : Head → Result Head Flaw
begin_demands head = do
  n ← section_nodes head head.has_demands
  Ok (record head { has_demands = true; place = Demands n })

unfoldable pub begin_depot : Head → Result Head Flaw
begin_depot head = do
  n ← section_nodes head head.has_depot
  Ok (record head { has_depot = true; place = Depot })

-- A section begins, or the file ends. Each section comes at most once, and after DIMENSION. That of the weights also
-- comes after a format that has weights.
abbrev pub begin : Heading → Head → Result Head Flaw
begin heading.NodeCoordSection head = begin_sites head
begin heading.EdgeWeightSection head = begin_weights head
begin heading.DemandSection head = begin_demands head
begin heading.DepotSection head = begin_depot head
begin heading.Eof head = Ok (record head { place = Ended })

-- a line without a colon: the name of a section, or EOF
unfoldable pub heading_line : Head → List ℕ → Result Head Flaw
heading_line head line = do
  word ← one_word (words line)
  section ← ok_or (meaning headings word) FaultyLine
  begin section head

-- a line outside sections
abbrev pub outside_line : Head → List ℕ → Result Head Flaw
outside_line head line = if has_byte 58 line then keyword_line head line else heading_line head line
