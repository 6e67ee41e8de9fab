-- The exit statuses of the program.
use Rattle.std.specs.Prelude.{ℕ}
use Rattle.po_app.specs.declared.status.Status.{Status}
use Rattle.po_app.specs.declared.status.Status.TheVariants.{Clean, Open, Usage, Refused, ReadFault, WriteFault, NoMemory}

abbrev pub exit_code : Status → ℕ
exit_code Clean = 0
exit_code Open = 1
exit_code Usage = 2
exit_code Refused = 3
exit_code ReadFault = 4
exit_code WriteFault = 5
exit_code NoMemory = 6
