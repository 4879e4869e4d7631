-- What a clause sees of a disk over real files.
use Rattle.std.specs.Prelude.{Bool, true, false}
use Rattle.volt_disk.specs.declared.folder.Tally.{Tally}
use Rattle.volt_base.specs.Faults.{one_more}
use Rattle.volt_disk.specs.Power.{full_power, after_call}

-- before its first call
abbrev pub new_folder : Tally
new_folder = record { faults = 0; power = full_power }

abbrev pub counted_folder : Tally → Tally
counted_folder d = record d { power = after_call d.power }

abbrev pub faulted_folder : Tally → Tally
faulted_folder d = record d { faults = one_more d.faults }

-- after a counted call that worked or failed
abbrev pub called_folder : Bool → Tally → Tally
called_folder true d = counted_folder d
called_folder false d = faulted_folder (counted_folder d)
