-- What is wrong in a statement, and what the refusal of it is about.
use Rattle.std.specs.Prelude.{ℕ, true, List, [], ◌∷◌, ◌++◌, length, Option, Some, None}
use Rattle.volt_catalog.specs.declared.table.Table.{Table}
use Rattle.volt_catalog.specs.Rules.{Contents}
use Rattle.sql_parse.specs.declared.statement.Delete.{Delete}
use Rattle.sql_parse.specs.declared.statement.Insert.{Insert}
use Rattle.sql_parse.specs.declared.statement.SecondTable.{SecondTable}
use Rattle.sql_parse.specs.declared.statement.Select.{Select}
use Rattle.sql_parse.specs.declared.statement.Stmt.{Stmt}
use Rattle.sql_parse.specs.declared.statement.Stmt.TheVariants as stmt
use Rattle.sql_parse.specs.declared.statement.TableName.{TableName}
use Rattle.sql_parse.specs.declared.statement.Update.{Update}
use Rattle.sql_resolve.specs.declared.bound.Bound.{Bound}
use Rattle.sql_resolve.specs.declared.fault.CheckFault.{CheckFault}
use Rattle.sql_resolve.specs.declared.fault.CheckFault.TheVariants as fault
use Rattle.sql_resolve.specs.Named.{Tables, no_tables, tables, named, in_program}
use Rattle.sql_resolve.specs.Tables.{table_named}
use Rattle.sql_check.specs.declared.examined.Examined.{Examined}
use Rattle.sql_check.specs.Checked.{examined}
use Rattle.sql_check.specs.From.{FromTables, known_as, second_name, from_tables, tables_from}
use Rattle.sql_complaints.specs.declared.complaints.About.TheVariants as about
use Rattle.sql_complaints.specs.declared.complaints.Complaint.{Complaint}
use Rattle.sql_complaints.specs.declared.complaints.Part.TheVariants as part
use Rattle.sql_complaints.specs.Complaints.{complaint, first_of}
use Rattle.sql_refusals.specs.Selects as selects
use Rattle.sql_refusals.specs.Writes as writes

-- ---- each kind of statement, which may stand in a program that has bound this

abbrev pub no_table : List ℕ → List Complaint
no_table name = complaint part.Tables (about.NoTable name) ∷ []

-- of a table that isn't there nothing more is told
abbrev pub of_table : List ℕ → (Table → List Complaint) → Option (ℕ × Table) → List Complaint
of_table name inner None = no_table name
of_table name inner (Some found) = inner found.1

-- the columns of a table that is changed
abbrev pub names_of : List ℕ → Table → Option Bound → Tables
names_of name table program = in_program program (tables (named name table) None)

abbrev pub of_insert : Contents → Option Bound → Insert → List Complaint
of_insert catalog program insert =
    of_table insert.table (λ table. writes.insert (in_program program no_tables) table insert.values insert.columns) (table_named catalog insert.table)

abbrev pub of_update : Contents → Option Bound → Update → List Complaint
of_update catalog program update =
    of_table update.table (λ table. writes.update (names_of update.table table program) table update) (table_named catalog update.table)

abbrev pub of_delete : Contents → Option Bound → Delete → List Complaint
of_delete catalog program delete =
    of_table delete.table (λ table. writes.condition part.Where (names_of delete.table table program) delete.filter) (table_named catalog delete.table)

-- of tables that aren't there, or go by one name, nothing more is told
abbrev pub of_sources : Option Bound → Select → Option FromTables → List Complaint
of_sources program select None = []
of_sources program select (Some from) = selects.select (in_program program (tables_from from)) select

abbrev pub of_select : Contents → Option Bound → Select → List Complaint
of_select catalog program select =
    selects.sources catalog select.first select.second ++ of_sources program select (from_tables catalog select.first select.second)

-- what is wrong in a statement, part by part
abbrev pub complaints_of : Contents → Option Bound → Stmt → List Complaint
complaints_of catalog program (stmt.Insert insert) = of_insert catalog program insert
complaints_of catalog program (stmt.Update update) = of_update catalog program update
complaints_of catalog program (stmt.Delete delete) = of_delete catalog program delete
complaints_of catalog program (stmt.Select select) = of_select catalog program select

-- ---- what is of the whole statement

-- how many parameters and outputs it has
abbrev pub counts_of : Option Examined → Option Complaint
counts_of None = None
counts_of (Some found) = Some (complaint part.Whole (about.Many (length found.prepared.params) (length found.prepared.columns)))

-- the names by which the tables go that it joins
abbrev pub join_of : TableName → Option SecondTable → Option Complaint
join_of first None = None
join_of first (Some second) = Some (complaint part.On (about.Join (known_as first) (known_as (second_name second))))

abbrev pub joined_in : Stmt → Option Complaint
joined_in (stmt.Select select) = join_of select.first select.second
joined_in _ = None

-- what a refusal is about: the first complaint of its fault, or the counts, or the join
abbrev pub about_refusal : Contents → Option Bound → Stmt → CheckFault → Option Complaint
about_refusal catalog program statement fault.TooMany = counts_of (examined catalog program statement true)
about_refusal catalog program statement fault.NotDistributable = joined_in statement
about_refusal catalog program statement f = first_of f (complaints_of catalog program statement)
