-- A TSPLIB file of three nodes that is imported, computed.
use Rattle.std.proofs.Common.{◌≡◌, ℕ, true, List, [], ◌∷◌, ◌++◌, refl}
use Rattle.std.specs.Prelude.{Ok, codes}
use Rattle.serde_json.specs.Data.{Data, boolean, member, no_members, object, string}
use Rattle.vr_json.specs.Reading.{and_then, at_path}
use Rattle.vr_json.specs.Trees.{count, listed, one}
use Rattle.vr_tsplib.specs.Files.{complete, demands_line, head_line, read_line, read_lines, sites_line, weights_line}
use Rattle.vr_tsplib.specs.Flaws.{at_line, refuse_if}
use Rattle.vr_tsplib.specs.Heads.{begin_demands, begin_depot, begin_sites, begin_weights, heading_line, keep_capacity, keep_dimension, keep_display_data_type}
use Rattle.vr_tsplib.specs.Heads.{keep_name, keep_node_coord_type, keep_type, keep_weight_format, keep_weight_type, keyword_parts, once_number, section_nodes}
use Rattle.vr_tsplib.specs.Imported.{imported, model_of_lines}
use Rattle.vr_tsplib.specs.Numbers.{digits, digits_behind, first_number, number_of, one_word, three_numbers, two_numbers, unsigned}
use Rattle.vr_tsplib.specs.Roots.{floor_root, nearest}
use Rattle.vr_tsplib.specs.Rows.{demand_row, depot_end, depot_row, row_behind, site_row, weight, weights_behind}
use Rattle.vr_tsplib.specs.Texts.{lines, words}
use Rattle.vr_tsplib.specs.Trees.{loads, tree_of}

-- lines, each with its line feed
abbrev text_of : List (List ℕ) → List ℕ
text_of [] = []
text_of (line ∷ rest) = line ++ 10 ∷ text_of rest

abbrev file : List ℕ
file = text_of (codes "NAME : t3" ∷ codes "TYPE : CVRP" ∷ codes "DIMENSION : 3" ∷ codes "EDGE_WEIGHT_TYPE : EUC_2D" ∷ codes "CAPACITY : 10"
    ∷ codes "NODE_COORD_SECTION" ∷ codes "1 0 0" ∷ codes "2 3 4" ∷ codes "3 1 1"
    ∷ codes "DEMAND_SECTION" ∷ codes "1 0" ∷ codes "2 4" ∷ codes "3 5"
    ∷ codes "DEPOT_SECTION" ∷ codes "1" ∷ codes "-1" ∷ codes "EOF" ∷ [])

-- the loads 0, 4 and 5, of which a vehicle carries 10
abbrev load : Data
load = object
    (member (codes "capacity") (count 10)
    (member (codes "evaluators") (one (object (member (codes "values") (listed count (0 ∷ 4 ∷ 5 ∷ [])) no_members)))
    (member (codes "fix_start") (boolean true)
    (member (codes "name") (string (codes "load"))
    (member (codes "slack_max") (count 0) no_members)))))

-- the distances of the nodes at (0, 0), (3, 4) and (1, 1): 5, 1 and the root of 13, which is next to 4
abbrev distances : List (List ℕ)
distances = (0 ∷ 5 ∷ 1 ∷ []) ∷ (5 ∷ 0 ∷ 4 ∷ []) ∷ (1 ∷ 4 ∷ 0 ∷ []) ∷ []

abbrev tree : Data
tree = object
    (member (codes "dimensions") (one load)
    (member (codes "format") (count 1)
    (member (codes "matrices") (one (listed (listed count) distances))
    (member (codes "nodes") (count 3)
    (member (codes "vehicles") (one (object (member (codes "end") (count 0) (member (codes "start") (count 0) no_members)))) no_members)))))

three_nodes : imported 1 file ≡ Ok tree
unfolding imported model_of_lines lines words read_lines read_line complete sites_line demands_line weights_line head_line at_line refuse_if and_then
    at_path begin_sites begin_weights begin_demands begin_depot heading_line section_nodes once_number keep_name keep_type keep_dimension keep_capacity
    keep_weight_type keep_weight_format keep_node_coord_type keep_display_data_type keyword_parts digits digits_behind unsigned number_of one_word
    first_number two_numbers three_numbers floor_root nearest site_row demand_row depot_row depot_end row_behind weight weights_behind loads tree_of
three_nodes = refl
