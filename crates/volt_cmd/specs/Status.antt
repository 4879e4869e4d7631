-- The exit statuses.
use Rattle.std.specs.Prelude.{ℕ}
use Rattle.volt_cmd.specs.declared.status.Status.{Status}
use Rattle.volt_cmd.specs.declared.status.Status.TheVariants.{Ok, BadUse, ReadFault, WriteFault, NoMemory, NotBuilt}

abbrev pub exit_number : Status → ℕ
exit_number Ok = 0
exit_number BadUse = 1
exit_number ReadFault = 3
exit_number WriteFault = 4
exit_number NoMemory = 7
exit_number (NotBuilt line) = 10
