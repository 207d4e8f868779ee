-- What is wrong with a file, and in which line.
use Rattle.std.specs.Prelude.{◌≡◌, ℕ, Bool, List, [], Result, Ok, Err, IfOk, ⊤, if◌then◌else◌}
use Rattle.vr_json.specs.declared.fault.Fault.{Fault}
use Rattle.vr_json.specs.declared.fault.ReadFail.{ReadFail}
use Rattle.vr_json.specs.declared.fault.ReadFail.TheVariants.{Refused, NoMemory as NoMemoryFail}
use Rattle.vr_json.specs.Paths.{item_path}
use Rattle.vr_tsplib.specs.declared.flaws.Flaw.{Flaw}
use Rattle.vr_tsplib.specs.declared.flaws.Flaw.TheVariants.{FaultyLine, Repeated, UnknownWord, OutOfRange}
use Rattle.vr_tsplib.specs.declared.flaws.Flaw.TheVariants.{NodeAgain, Missing, DepotDemand}
use Rattle.vr_tsplib.specs.declared.flaws.LineFail.{LineFail}
use Rattle.vr_tsplib.specs.declared.flaws.LineFail.TheVariants.{Flawed, NoMemory}

-- the number of a flaw in the texts of the program
abbrev pub flaw_code : Flaw → ℕ
flaw_code FaultyLine = 40
flaw_code Repeated = 41
flaw_code UnknownWord = 42
flaw_code OutOfRange = 43
flaw_code NodeAgain = 44
flaw_code Missing = 45
flaw_code DepotDemand = 46

-- The fault of a flaw in a line. The path is `/` and the number of the line, or 0 for the file as a whole.
abbrev pub fault_in_line : Flaw → ℕ → Fault
fault_in_line flaw number = record { code = flaw_code flaw; path = item_path [] number }

-- what was read in a line of this number
unfoldable pub at_line : {A : Type 0} → ℕ → Result A Flaw → Result A Fault
at_line number (Ok x) = Ok x
at_line number (Err flaw) = Err (fault_in_line flaw number)

-- nothing, unless something is wrong
unfoldable pub refuse_if : Bool → Flaw → Result ⊤ Flaw
refuse_if wrong flaw = if wrong then Err flaw else Ok tt

-- What a call answers, beside what is to be read: that value or that flaw. It may be out of memory instead.
pub record AnswersLine {A : Type 0} (answer : Result A LineFail) (reading : Result A Flaw) : Type 0 where
  pub value : IfOk answer (λ x. reading ≡ Ok x)
  pub flawed : (flaw : Flaw) → answer ≡ Err (Flawed flaw) → reading ≡ Err flaw

-- the refusal of the line of this number: its flaw becomes a fault, unless memory runs out
abbrev pub RefusesLine : LineFail → ℕ → ReadFail → Type 0
RefusesLine (Flawed flaw) number fail = (fault : Fault) → fail ≡ Refused fault → fault ≡ fault_in_line flaw number
RefusesLine NoMemory number fail = fail ≡ NoMemoryFail
