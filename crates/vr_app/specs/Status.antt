-- The numbers of the statuses.
use Rattle.std.specs.Prelude.{◌≡◌, ℕ}
use Rattle.vr_app.specs.declared.status.Status.{Status}
use Rattle.vr_app.specs.declared.status.Status.TheVariants as all

-- the number of a status
abbrev pub status_number : Status → ℕ
status_number all.Done = 0
status_number all.Usage = 1
status_number all.ReadFault = 2
status_number all.WriteFault = 3
status_number all.NotJson = 4
status_number all.Refused = 5
status_number all.NoneFound = 6
status_number all.NoMemory = 7
status_number all.TooLong = 8
status_number all.NotMet = 9

-- a number is that of a status
abbrev pub IsStatus : ℕ → Type 0
IsStatus number = (status : Status) × (number ≡ status_number status)
