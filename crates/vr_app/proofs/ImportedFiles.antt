-- What an imported tree is made of: lines and a problem whose numbers lie in their ranges.
use Rattle.std.proofs.Common.{◌≡◌, ℕ, List, Result, Ok, Err, refl}
use Rattle.serde_json.specs.Data.{Data}
use Rattle.vr_json.proofs.Readings.{Ensures, gives, fails, after}
use Rattle.vr_tsplib.specs.declared.flaws.Flaw.{Flaw}
use Rattle.vr_tsplib.specs.declared.files.State.{State}
use Rattle.vr_tsplib.specs.declared.summaries.Problem.{Problem}
use Rattle.vr_tsplib.specs.Flaws.{at_line}
use Rattle.vr_tsplib.specs.Texts.{lines}
use Rattle.vr_tsplib.specs.Files.{start, complete}
use Rattle.vr_tsplib.specs.Ranges.{IsProblem, AreLinesInRange}
use Rattle.vr_tsplib.specs.Trees.{tree_of}
use Rattle.vr_tsplib.specs.Imported.{model_of_lines, imported}
use Rattle.vr_tsplib.proofs.RangeLemmas.{lines_sound, start_sound, complete_ranges}

-- a tree is that of lines and a problem in range
pub record IsOfFile (vehicles : ℕ) (tree : Data) : Type 0 where
  pub state : State
  pub problem : Problem
  pub sound : AreLinesInRange state
  pub in_range : IsProblem problem
  pub is : tree ≡ tree_of vehicles state problem

at_line_ensures : {A : Type 0} {P : A → Type 0} (number : ℕ) (reading : Result A Flaw) → Ensures P reading → Ensures P (at_line number reading)
unfolding at_line
at_line_ensures number (Ok x) h = gives (h.of_value x refl)
at_line_ensures number (Err flaw) h = fails

model_of_file : (vehicles : ℕ) (state : State) → AreLinesInRange state → Ensures (IsOfFile vehicles) (model_of_lines vehicles state)
unfolding model_of_lines
model_of_file vehicles state sound =
    after (at_line_ensures 0 (complete state) (complete_ranges state sound)) λ problem within.
    gives (record { state = state; problem = problem; sound = sound; in_range = within; is = refl })

pub imported_of_file : (vehicles : ℕ) (bytes : List ℕ) → Ensures (IsOfFile vehicles) (imported vehicles bytes)
unfolding imported
imported_of_file vehicles bytes = after (lines_sound (lines bytes) start 1 start_sound) λ state sound. model_of_file vehicles state sound
