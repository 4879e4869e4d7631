-- How a fault of reading is printed.
use Rattle.std.specs.Prelude.{ℕ, List, codes}
use Rattle.volt_io.specs.declared.transfer.ReadFault.{ReadFault}
use Rattle.volt_io.specs.declared.transfer.ReadFault.TheVariants.{Failed, NoMemory}

-- the text of a fault
abbrev pub words_of : ReadFault → List ℕ
words_of Failed = codes "the source failed"
words_of NoMemory = codes "there is no memory for the bytes"
