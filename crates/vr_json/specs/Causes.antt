-- The causes of a refusal, and the fault of one at a path.
use Rattle.std.specs.Prelude.{ℕ, List}
use Rattle.vr_json.specs.declared.fault.Cause.{Cause}
use Rattle.vr_json.specs.declared.fault.Cause.TheVariants.{Absent, OtherKind, NotWhole, UnknownKey, OutOfRange}
use Rattle.vr_json.specs.declared.fault.Cause.TheVariants.{WrongLength, Repeated, UnknownWord, NotAVisit, Reversed}
use Rattle.vr_json.specs.declared.fault.Cause.TheVariants.{NegativeCost, LargeTransit, NegativeTransit}
use Rattle.vr_json.specs.declared.fault.Cause.TheVariants.{UnlikeVehicles}
use Rattle.vr_json.specs.declared.fault.Fault.{Fault}

-- the number of a cause in the texts of the program
abbrev pub code_of : Cause → ℕ
code_of Absent = 10
code_of OtherKind = 11
code_of NotWhole = 12
code_of UnknownKey = 13
code_of OutOfRange = 14
code_of WrongLength = 15
code_of Repeated = 16
code_of UnknownWord = 17
code_of NotAVisit = 18
code_of Reversed = 19
code_of NegativeCost = 20
code_of LargeTransit = 21
code_of NegativeTransit = 22
code_of UnlikeVehicles = 23

-- the fault of a cause at a path
abbrev pub fault_at : Cause → List ℕ → Fault
fault_at cause path = record { code = code_of cause; path = path }
