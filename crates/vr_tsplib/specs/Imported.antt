-- The import of a file.
use Rattle.std.specs.Prelude.{ℕ, List, Result, Ok}
use Rattle.serde_json.specs.Data.{Data}
use Rattle.vr_json.specs.declared.fault.Fault.{Fault}
use Rattle.vr_json.specs.Reading.{◌>>=◌}
use Rattle.vr_tsplib.specs.declared.files.State.{State}
use Rattle.vr_tsplib.specs.Flaws.{at_line}
use Rattle.vr_tsplib.specs.Texts.{lines}
use Rattle.vr_tsplib.specs.Files.{start, read_lines, complete}
use Rattle.vr_tsplib.specs.Trees.{tree_of}

-- the tree of the model of a whole file whose lines said this, with this many vehicles
unfoldable pub model_of_lines : ℕ → State → Result Data Fault
model_of_lines vehicles state = do
  problem ← at_line 0 (complete state)
  Ok (tree_of vehicles state problem)

-- the tree of the model of a file, with this many vehicles, or the first fault of the file
unfoldable pub imported : ℕ → List ℕ → Result Data Fault
imported vehicles bytes = do
  state ← read_lines start 1 (lines bytes)
  model_of_lines vehicles state
