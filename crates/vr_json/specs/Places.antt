-- Places below a path.
use Rattle.std.specs.Prelude.{ℕ, List}
use Rattle.vr_json.specs.declared.place.Place.{Place}
use Rattle.vr_json.specs.declared.place.Step.{Step}
use Rattle.vr_json.specs.declared.place.Step.TheVariants.{Here, Field, Entry}
use Rattle.vr_json.specs.Paths.{name_path, item_path}

abbrev pub step_path : List ℕ → Step → List ℕ
step_path parent Here = parent
step_path parent (Field key) = name_path parent key.now
step_path parent (Entry k) = item_path parent k

-- the path of a place
abbrev pub place_path : Place → List ℕ
place_path place = step_path place.parent.now place.step
