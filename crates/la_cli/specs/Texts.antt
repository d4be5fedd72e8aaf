-- What is told on standard error: a line, which ends with LF.
use Rattle.std.specs.Prelude.{ℕ, List, ◌++◌, codes}
use Rattle.std.specs.Fmt.{decimal}
use Rattle.la_script.specs.declared.error.FaultName.{FaultName}
use Rattle.la_script.specs.declared.error.FaultName.TheVariants.{BadHeader, BadLine, BadNumber}
use Rattle.la_cli.specs.declared.error.PlayFault.{PlayFault}
use Rattle.la_cli.specs.declared.error.PlayFault.TheVariants.{Script, ReadFault, TooLong, BadConfig, WriteFault, NoThread, Memory}

abbrev pub name_of : FaultName → List ℕ
name_of BadHeader = codes "BadHeader"
name_of BadLine = codes "BadLine"
name_of BadNumber = codes "BadNumber"

-- a fault by its name; a script's with the number of its line, which is decimal
abbrev pub fault_text : PlayFault → List ℕ
fault_text (Script f) = codes "line " ++ decimal f.line ++ codes ": " ++ name_of f.name
fault_text TooLong = codes "TooLong"
fault_text ReadFault = codes "ReadFault"
fault_text BadConfig = codes "BadConfig"
fault_text WriteFault = codes "WriteFault"
fault_text NoThread = codes "NoThread"
fault_text Memory = codes "Memory"

abbrev pub fault_line : PlayFault → List ℕ
fault_line f = fault_text f ++ codes "\n"

-- what is told where a word of the command line is no text
abbrev pub no_text_line : List ℕ
no_text_line = codes "a word of the command line is no text: see lattice --help\n"
