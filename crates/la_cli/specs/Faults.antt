-- What a fault of a part is as a fault of the whole, and the exit status after it.
use Rattle.std.specs.Prelude.{◌≡◌, ◌⊎◌, ℕ}
use Rattle.la_script.specs.declared.error.ReadError.{ReadError}
use Rattle.la_script.specs.declared.error.ReadError.TheVariants as read
use Rattle.la_cli.specs.declared.error.PlayFault.{PlayFault}
use Rattle.la_cli.specs.declared.error.PlayFault.TheVariants.{Script, ReadFault, TooLong, BadConfig, WriteFault, NoThread, Memory}
use Rattle.la_io.specs.declared.streams.InputFault.{InputFault}
use Rattle.la_io.specs.declared.streams.InputFault.TheVariants as input

abbrev pub of_input : InputFault → PlayFault
of_input input.ReadFault = ReadFault
of_input input.TooLong = TooLong
of_input input.Memory = Memory

abbrev pub of_script : ReadError → PlayFault
of_script (read.Fault f) = Script f
of_script read.Memory = Memory

-- the exit status of the program
abbrev pub play_status : PlayFault → ℕ
play_status (Script f) = 1
play_status TooLong = 1
play_status Memory = 3
play_status ReadFault = 4
play_status BadConfig = 4
play_status WriteFault = 4
play_status NoThread = 4

-- the exit status of a play: it was done, or there was a fault
abbrev pub IsStatus : ℕ → Type 0
IsStatus n = (n ≡ 0) ⊎ ((f : PlayFault) × (n ≡ play_status f))
