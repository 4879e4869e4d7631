-- The parameters of a program.
use Rattle.std.specs.Prelude.{ℕ, nat_lt, nat_le, Bool, true, not, ◌&&◌, if◌then◌else◌, List, length, map, nat_abs, Option, None}
use Rattle.std.specs.List.{list_all}
use Rattle.volt_value.specs.declared.column.Class.{Class}
use Rattle.volt_value.specs.declared.column.Class.TheVariants as class
use Rattle.volt_value.specs.declared.column.ColType.{ColType}
use Rattle.volt_value.specs.declared.column.ColType.TheVariants as kind
use Rattle.volt_value.specs.Columns.{class_of}
use Rattle.volt_catalog.specs.Names.{differ}
use Rattle.ddl_parse.specs.declared.ddl.TypeName.{TypeName}
use Rattle.ddl_parse.specs.declared.ddl.TypeName.TheVariants as written
use Rattle.ddl_parse.specs.declared.procedure.ParameterText.{ParameterText}
use Rattle.sql_resolve.specs.Bound.{Heads}
use Rattle.proc_lang.specs.declared.fault.ProcFault.{ProcFault}
use Rattle.proc_lang.specs.declared.fault.ProcFault.TheVariants.{DuplicateName}
use Rattle.proc_lang.specs.Faults.{too_many, worse_if}

-- the lengths that a VARCHAR may have
abbrev pub is_length : ℕ → Bool
is_length n = nat_le 1 n && nat_le n 2048

-- a length that may not be is a fault elsewhere
abbrev pub varchar : ℕ → ColType
varchar n = if is_length n then kind.Varchar n else kind.Varchar 0

abbrev pub kind_of : TypeName → ColType
kind_of written.Tinyint = kind.Tiny
kind_of written.Smallint = kind.Small
kind_of written.Integer = kind.Integer
kind_of written.Bigint = kind.Big
kind_of (written.Varchar n) = varchar (nat_abs n)

abbrev pub has_length : TypeName → Bool
has_length (written.Varchar n) = is_length (nat_abs n)
has_length _ = true

abbrev pub kinds_of : List ParameterText → List ColType
kinds_of parameters = map (λ parameter. kind_of parameter.kind) parameters

abbrev pub heads_of : List ParameterText → Heads
heads_of parameters = map (λ parameter. (parameter.name, class_of (kind_of parameter.kind))) parameters

-- how many parameters there may be
abbrev pub most_parameters : ℕ
most_parameters = 32

abbrev pub pass_a_limit : List ParameterText → Bool
pass_a_limit parameters =
    if nat_lt most_parameters (length parameters) then true else not (list_all (λ parameter. has_length parameter.kind) parameters)

-- no two parameters have one name, there aren't too many, and a VARCHAR has a length that it may have
abbrev pub fault_of : List ParameterText → Option ProcFault
fault_of parameters =
    worse_if (pass_a_limit parameters) too_many (worse_if (not (differ (map (λ parameter. parameter.name) parameters))) DuplicateName None)

-- the type of a parameter of a plain statement, which has a class alone
abbrev pub kind_for : Class → ColType
kind_for class.Int = kind.Big
kind_for class.Text = kind.Varchar 2048
