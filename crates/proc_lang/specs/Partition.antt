-- The partition on which a procedure runs: that of a parameter, by the partitioning column of a table.
use Rattle.std.specs.Prelude.{ℕ, nat_lt, Bool, false, ◌==◌, if◌then◌else◌, List, slice_get, nat_abs, Option, Some, None, Result, Ok, Err}
use Rattle.volt_value.specs.declared.column.Class.{Class}
use Rattle.volt_value.specs.declared.column.ColType.{ColType}
use Rattle.volt_value.specs.Columns.{class_of}
use Rattle.volt_catalog.specs.declared.table.Table.{Table}
use Rattle.volt_catalog.specs.Rules.{Contents}
use Rattle.ddl_parse.specs.declared.procedure.ProcPartition.{ProcPartition}
use Rattle.sql_resolve.specs.Tables.{table_named, number_of, class_at}
use Rattle.proc_lang.specs.declared.fault.ProcFault.{ProcFault}
use Rattle.proc_lang.specs.declared.fault.ProcFault.TheVariants.{NotSinglePartition}
use Rattle.proc_lang.specs.Faults.{no_such_name}
use Rattle.proc_lang.specs.Drafts.{same_class}
use Rattle.proc_lang.specs.Parameters.{most_parameters}

abbrev pub has_class : Class → Option ColType → Bool
has_class class None = false
has_class class (Some kind) = same_class (class_of kind) class

-- the parameter of a number, where it is there and of a class
abbrev pub chosen_by : List ColType → ℕ → Class → Option ℕ
chosen_by kinds n class = if nat_lt n most_parameters then (if has_class class (slice_get kinds n) then Some n else None) else None

-- the numbers of a table, its partitioning column where it is this one, and a parameter
abbrev pub on_part : ℕ → ℕ → Option ℕ → Option ℕ → Result (ℕ × ℕ × ℕ) ProcFault
on_part number column (Some part) (Some parameter) = if part == column then Ok (number, part, parameter) else Err NotSinglePartition
on_part number column _ _ = Err NotSinglePartition

-- the numbers of a table, its partitioning column and a parameter of the same class
abbrev pub on_column : List ColType → ℕ → ℕ → Table → Option ℕ → Result (ℕ × ℕ × ℕ) ProcFault
on_column kinds parameter number table None = Err no_such_name
on_column kinds parameter number table (Some column) =
    on_part number column table.part (chosen_by kinds parameter (class_at table.columns column))

abbrev pub on_table : List ColType → ProcPartition → Option (ℕ × Table) → Result (ℕ × ℕ × ℕ) ProcFault
on_table kinds partition None = Err no_such_name
on_table kinds partition (Some found) =
    on_column kinds (nat_abs partition.parameter) found.0 found.1 (number_of found.1.columns partition.column)

abbrev pub on_one : Result (ℕ × ℕ × ℕ) ProcFault → Result (Option (ℕ × ℕ × ℕ)) ProcFault
on_one (Ok part) = Ok (Some part)
on_one (Err fault) = Err fault

-- nothing where the procedure runs on all partitions
abbrev pub partition_of : Contents → List ColType → Option ProcPartition → Result (Option (ℕ × ℕ × ℕ)) ProcFault
partition_of catalog kinds None = Ok None
partition_of catalog kinds (Some partition) = on_one (on_table kinds partition (table_named catalog partition.table))
