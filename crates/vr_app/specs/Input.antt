-- How an input is read.
use Rattle.std.specs.Prelude.{ℕ, List, [], if◌then◌else◌, Option, None, Result}
use Rattle.std.specs.Str.{is_utf8}
use Rattle.serde_json.specs.Data.{Data}
use Rattle.serde_json.specs.Read.{read}
use Rattle.vr_json.specs.declared.fault.Fault.{Fault}
use Rattle.vr_model.specs.tables.Limits.{most_input_bytes}
use Rattle.vr_model.specs.declared.records.Model.{Model}
use Rattle.vr_read.specs.Models.{read_model}

-- the most bytes that an input may have: 64 MiB
abbrev pub max_input : ℕ
max_input = most_input_bytes

-- The value of an input, which may nest at most 127 deep. It is none if the input is no JSON: its bytes are no UTF-8,
-- or `serde_json` reads no value from them.
unfoldable pub input_value : List ℕ → Option Data
input_value bytes = if is_utf8 bytes then read bytes else None

-- the model of a value, or the first fault of reading it
abbrev pub model_of_value : Data → Result Model Fault
model_of_value d = read_model [] d
