-- The formats of a model.
use Rattle.std.specs.Prelude.{ℕ, ◌==◌, if◌then◌else◌, Ok}
use Rattle.vr_json.specs.Reading.{◌>>=◌, ReaderOf}
use Rattle.vr_json.specs.Kinds.{count}
use Rattle.vr_read.specs.declared.formats.Format.{Format}
use Rattle.vr_read.specs.declared.formats.Format.TheVariants.{One, Two}

-- the format of a number
abbrev pub format_of : ℕ → Format
format_of number = if number == 1 then One else Two

-- a format, by its number
unfoldable pub format : ReaderOf Format
format path d = do
  number ← count 1 2 path d
  Ok (format_of number)
