-- What is accepted is well formed.
use Rattle.std.proofs.Common.{◌≡◌, ℕ, ◌+◌, ◌≤◌, Bool, true, false, nat_lt, ◌&&◌, ◌||◌, List, [], ◌∷◌, ◌++◌, map, length, slice_get, Option, Some, None, is_some, Ok, refl, sym, subst, subst₂, ap, ◌∙◌, append-nil, lit≤, le_trans}
use Rattle.std.specs.List.{list_all, list_any}
use Rattle.std.proofs.lemmas.Bool.{cond_both, and_parts, and_from, lt-ltb, ltb-false}
use Rattle.std.proofs.lemmas.Option.{slice_get_within}
use Rattle.volt_value.specs.declared.column.Class.{Class}
use Rattle.volt_catalog.specs.declared.table.Table.{Table}
use Rattle.volt_catalog.specs.Names.{same_name}
use Rattle.volt_catalog.specs.Rules.{Contents}
use Rattle.volt_catalog.specs.Catalog.{IsCatalog}
use Rattle.sql_parse.specs.declared.statement.Assignment.{Assignment}
use Rattle.sql_parse.specs.declared.statement.Delete.{Delete}
use Rattle.sql_parse.specs.declared.statement.Insert.{Insert}
use Rattle.sql_parse.specs.declared.statement.SecondTable.{SecondTable}
use Rattle.sql_parse.specs.declared.statement.Select.{Select}
use Rattle.sql_parse.specs.declared.statement.Stmt.{Stmt}
use Rattle.sql_parse.specs.declared.statement.Stmt.TheVariants as stmt
use Rattle.sql_parse.specs.declared.statement.TableName.{TableName}
use Rattle.sql_parse.specs.declared.statement.Update.{Update}
use Rattle.sql_plan.specs.declared.expression.Cond.{Cond}
use Rattle.sql_plan.specs.declared.prepared.Action.{Action}
use Rattle.sql_plan.specs.declared.prepared.Prepared.{Prepared}
use Rattle.sql_plan.specs.declared.select.SelectPlan.{SelectPlan}
use Rattle.sql_resolve.specs.declared.bound.Bound.{Bound}
use Rattle.sql_resolve.specs.declared.fault.CheckFault.{CheckFault}
use Rattle.sql_resolve.specs.declared.fault.CheckFault.TheVariants.{NotDistributable, TooMany}
use Rattle.sql_resolve.specs.declared.notes.Notes.{Notes}
use Rattle.sql_resolve.specs.Faults.{least}
use Rattle.sql_resolve.specs.Named.{Tables, no_tables, tables, named, columns_of, key_of, in_program}
use Rattle.sql_resolve.specs.Notes.{nothing, limited, blamed}
use Rattle.sql_resolve.specs.Tables.{table_named}
use Rattle.sql_check.specs.declared.examined.Examined.{Examined}
use Rattle.sql_check.specs.Checked.{examined, accepted, answered, checked}
use Rattle.sql_check.specs.Distribution as check
use Rattle.sql_check.specs.From.{FromTable, FromTables, known_as, from_found, from_table, second_name, on_of, with_right, with_second, with_first, from_tables, named_of, tables_from, part_in, names_partitioned}
use Rattle.sql_check.specs.SelectStatement.{heads_given, shape_of, distributed_by, join_of, selected, examined_from}
use Rattle.sql_check.specs.Selects.{limited_to}
use Rattle.sql_check.specs.Statements.{scope_of, most_params, most_columns, finished, modified_tuples, changed}
use Rattle.sql_check.specs.declared.writes.NewRow.{NewRow}
use Rattle.sql_check.specs.Columns.{columns_to}
use Rattle.sql_check.specs.Writes.{places_of, nulls, filled, counted, set_all, filtered, inserted, updated, deleted}
use Rattle.sql_meaning.specs.Tables.{table_at}
use Rattle.sql_meaning.specs.WellFormed as formed
use Rattle.sql_meaning.specs.WellFormed.{classes_of, fits, right_table, right_classes, from_classes, right_key, from_key, IsShape, limit_fits, distributes_by, distributes, joins, IsSelect, IsInsert, IsUpdate, IsDelete, IsAction, tables_of, is_scope, most_places, IsPrepared, joined_table}
use Rattle.sql_check_laws.specs.Numbers.{has_bigints, has_bigints_if, outputs_have_bigints, statement_has_bigints}
use Rattle.sql_check_laws.proofs.Columns.{some-same, classes, classes_in, FindsColumns, finds_columns, table_named-is, table_at-is}
use Rattle.sql_check_laws.proofs.Distribution.{tell_alike}
use Rattle.sql_check_laws.proofs.Fine.{Fine, unless}
use Rattle.sql_check_laws.proofs.Groups.{AreWithin}
use Rattle.sql_check_laws.proofs.Selects.{limited_to_is}
use Rattle.sql_check_laws.proofs.Shapes.{key-columns, keys_in, keys-within, shape_is}
use Rattle.sql_check_laws.proofs.Writes.{filtered_is, inserted_gives, updated_is}

-- ---- limits and the scope

limited-is : (most n : ℕ) (notes : Notes) → (limited most n notes).fault ≡ None → (notes.fault ≡ None) × (n ≤ most)
limited-is most n notes = cond_both (nat_lt most n) (blamed TooMany notes) notes (λ after. after.fault ≡ None → (notes.fault ≡ None) × (n ≤ most))
    (λ more e. let f : Some (least notes.fault TooMany) ≡ None = e in absurd (cc))
    (λ few e. (e, ltb-false most n few))

most_params-few : (program : Option Bound) → most_params program ≤ most_places
most_params-few None = lit≤ tt
most_params-few (Some bound) = lit≤ tt

scope_of-is : (single partitioned : Bool) → is_scope (scope_of single partitioned) partitioned ≡ true
scope_of-is true true = refl
scope_of-is true false = refl
scope_of-is false true = refl
scope_of-is false false = refl

abbrev Columns : Type 0
Columns = List (List ℕ × Class)

-- where there is no fault the notes are fine, and all parameters are there
finished-is : (catalog : Contents) (program : Option Bound) (single partitioned : Bool) (columns : Columns) (notes : Notes) (action : Action)
    → (Fine notes.params notes → IsAction catalog notes.params columns action) → partitioned ≡ formed.names_partitioned catalog action
    → (finished program single partitioned columns notes action).fault ≡ None → IsPrepared catalog (finished program single partitioned columns notes action).prepared
finished-is catalog program single partitioned columns notes action is same e =
    let outputs = limited-is most_columns (length columns) (limited (most_params program) (length notes.params) notes) e in
    let places = limited-is (most_params program) (length notes.params) notes outputs.0 in
    record {
      few_params = le_trans places.1 (most_params-few program);
      few_columns = outputs.1;
      scope = ap (is_scope (scope_of single partitioned)) (sym same) ∙ scope_of-is single partitioned;
      action = is (record { faultless = places.0; later = []; whole = append-nil notes.params });
    }

-- ---- statements that change a table

one-partitioned : (catalog : Contents) (n : ℕ) (table : Table) → slice_get catalog.tables n ≡ Some table → is_some table.part ≡ (is_some (table_at catalog n).part || false)
one-partitioned catalog n table e = only (is_some table.part) ∙ ap (λ (t : Table). is_some t.part || false) (sym (table_at-is catalog n table e))
  where
    only : (b : Bool) → b ≡ (b || false)
    only true = refl
    only false = refl

changed-is : (catalog : Contents) (program : Option Bound) (single : Bool) (o : Option (ℕ × Table)) (go : ℕ → Table → Notes → Notes × Action) (found : Examined)
    → ((table : ℕ × Table) → o ≡ Some table → slice_get catalog.tables table.0 ≡ Some table.1)
    → ((n : ℕ) (table : Table) → slice_get catalog.tables n ≡ Some table → let done = go n table nothing in
    (Fine done.0.params done.0 → IsAction catalog done.0.params modified_tuples done.1) × (formed.names_partitioned catalog done.1 ≡ (is_some (table_at catalog n).part || false)))
    → changed program single o go ≡ Some found → found.fault ≡ None → IsPrepared catalog found.prepared
changed-is catalog program single None go found there is e ok = absurd (cc)
changed-is catalog program single (Some table) go found there is e ok =
    let done = go table.0 table.1 nothing in
    let here = there table refl in
    let made = finished program single (is_some table.1.part) modified_tuples done.0 done.1 in
    let same : made ≡ found = some-same made found e in
    let facts = is table.0 table.1 here in
    subst (λ (x : Examined). IsPrepared catalog x.prepared) same
    (finished-is catalog program single (is_some table.1.part) modified_tuples done.0 done.1 facts.0
    (one-partitioned catalog table.0 table.1 here ∙ sym facts.1) (ap (λ (x : Examined). x.fault) same ∙ ok))

-- the columns of one table, in a program or in none
own-classes : (program : Option Bound) (name : List ℕ) (table : Table) → classes_in (in_program program (tables (named name table) None)) ≡ classes table.columns
own-classes program name table = append-nil (classes table.columns)

insert-is : (catalog : Contents) (program : Option Bound) (insert : Insert) → list_all has_bigints insert.values ≡ true → (n : ℕ) (table : Table) → slice_get catalog.tables n ≡ Some table
    → let done = inserted (in_program program no_tables) n table insert nothing in
    (Fine done.0.params done.0 → IsAction catalog done.0.params modified_tuples done.1) × (formed.names_partitioned catalog done.1 ≡ (is_some (table_at catalog n).part || false))
insert-is catalog program insert ok n table e =
    let done = inserted (in_program program no_tables) n table insert nothing in
    let places = places_of table.columns insert.columns nothing in
    let row = filled (in_program program no_tables) table.columns places.1 insert.values (nulls (length table.columns)) (counted places.1 insert.values places.0) in (
      λ fine. (
        record {
          table = slice_get_within catalog.tables n table e;
          values = subst (λ (t : Table). formed.give_each [] done.0.params row.1 (classes_of t) ≡ true) (sym (table_at-is catalog n table e))
              (inserted_gives done.0.params (in_program program no_tables) (finds_columns (in_program program no_tables)) n table insert ok nothing fine);
        },
        refl,
      ),
      refl,
    )

update-is : (catalog : Contents) (program : Option Bound) (update : Update) → IsCatalog catalog → list_all (λ (set : Assignment). has_bigints set.value) update.sets ≡ true → has_bigints_if update.filter ≡ true
    → (n : ℕ) (table : Table) → slice_get catalog.tables n ≡ Some table
    → let done = updated (in_program program (tables (named update.table table) None)) n table update nothing in
    (Fine done.0.params done.0 → IsAction catalog done.0.params modified_tuples done.1) × (formed.names_partitioned catalog done.1 ≡ (is_some (table_at catalog n).part || false))
update-is catalog program update rules ok ok' n table e =
    let names = in_program program (tables (named update.table table) None) in
    let done = updated names n table update nothing in
    let at = subst (λ all. FindsColumns all names) (own-classes program update.table table) (finds_columns names) in
    let start : NewRow = record { places = []; values = columns_to (length table.columns) } in
    let row = set_all names table update.sets start nothing in (
      λ fine.
          let is = updated_is done.0.params names table at (key-columns catalog n table rules e) update ok ok' nothing fine in
          let back = sym (table_at-is catalog n table e) in (
            record {
              table = slice_get_within catalog.tables n table e;
              values = subst (λ (t : Table). formed.give_each (classes_of t) done.0.params row.1.values (classes_of t) ≡ true) back is.0;
              key = subst (λ (t : Table). formed.keep row.1.values t.key ≡ true) back is.1;
              filter = subst (λ (t : Table). fits (classes_of t) done.0.params (filtered names update.filter row.0).1 ≡ true) back is.2;
            },
            refl,
          ),
      refl,
    )

delete-is : (catalog : Contents) (program : Option Bound) (delete : Delete) → has_bigints_if delete.filter ≡ true → (n : ℕ) (table : Table) → slice_get catalog.tables n ≡ Some table
    → let done = deleted (in_program program (tables (named delete.table table) None)) n delete nothing in
    (Fine done.0.params done.0 → IsAction catalog done.0.params modified_tuples done.1) × (formed.names_partitioned catalog done.1 ≡ (is_some (table_at catalog n).part || false))
delete-is catalog program delete ok n table e =
    let names = in_program program (tables (named delete.table table) None) in
    let done = deleted names n delete nothing in
    let at = subst (λ all. FindsColumns all names) (own-classes program delete.table table) (finds_columns names) in (
      λ fine. (
        record {
          table = slice_get_within catalog.tables n table e;
          filter = subst (λ (t : Table). fits (classes_of t) done.0.params (filtered names delete.filter nothing).1 ≡ true) (sym (table_at-is catalog n table e)) (filtered_is (classes table.columns) done.0.params names at delete.filter ok nothing fine).1;
        },
        refl,
      ),
      refl,
    )

-- ---- the tables of a SELECT

abbrev IsTable : Contents → FromTable → Type 0
IsTable catalog from = slice_get catalog.tables from.number ≡ Some from.named.table

abbrev IsRight : Contents → Option FromTable → Type 0
IsRight catalog None = Unit {0}
IsRight catalog (Some from) = IsTable catalog from

from_found-is : (catalog : Contents) (name : List ℕ) (o : Option (ℕ × Table)) → ((table : ℕ × Table) → o ≡ Some table → slice_get catalog.tables table.0 ≡ Some table.1) → (from : FromTable) → from_found name o ≡ Some from → IsTable catalog from
from_found-is catalog name None there from e = absurd (cc)
from_found-is catalog name (Some table) there from e = subst (IsTable catalog) (some-same _ from e) (there table refl)

from_table-is : (catalog : Contents) (name : TableName) (from : FromTable) → from_table catalog name ≡ Some from → IsTable catalog from
from_table-is catalog name from e = from_found-is catalog (known_as name) (table_named catalog name.table) (table_named-is catalog name.table) from e

abbrev AreTables : Contents → FromTables → Type 0
AreTables catalog from = IsTable catalog from.left × IsRight catalog from.right

with_right-is : (catalog : Contents) (left : FromTable) (right : Option FromTable) → IsTable catalog left → ((from : FromTable) → right ≡ Some from → IsTable catalog from)
    → (from : FromTables) → with_right left right ≡ Some from → AreTables catalog from
with_right-is catalog left None h k from e = absurd (cc)
with_right-is catalog left (Some right) h k from same =
    cond_both (same_name left.named.name right.named.name) None (Some (record { left = left; right = Some right })) (λ o. o ≡ Some from → AreTables catalog from)
    (λ alike e. absurd (cc)) (λ apart e. subst (AreTables catalog) (some-same (record { left = left; right = Some right }) from e) (h, k right refl)) same

with_second-is : (catalog : Contents) (left : FromTable) (second : Option SecondTable) → IsTable catalog left → (from : FromTables) → with_second catalog left second ≡ Some from → AreTables catalog from
with_second-is catalog left None h from e = subst (AreTables catalog) (some-same _ from e) (h, tt)
with_second-is catalog left (Some second) h from e = with_right-is catalog left (from_table catalog (second_name second)) h (from_table-is catalog (second_name second)) from e

with_first-is : (catalog : Contents) (left : Option FromTable) (second : Option SecondTable) → ((from : FromTable) → left ≡ Some from → IsTable catalog from)
    → (from : FromTables) → with_first catalog left second ≡ Some from → AreTables catalog from
with_first-is catalog None second h from e = absurd (cc)
with_first-is catalog (Some left) second h from e = with_second-is catalog left second (h left refl) from e

from_tables-are : (catalog : Contents) (first : TableName) (second : Option SecondTable) (from : FromTables) → from_tables catalog first second ≡ Some from → AreTables catalog from
from_tables-are catalog first second from e = with_first-is catalog (from_table catalog first) second (from_table-is catalog first) from e

-- ---- a SELECT

distributed_by-is : (params : List Class) (select : SelectPlan) (left right : Option ℕ) (before : ℕ) (on : Cond) (notes : Notes) → Fine params (distributed_by left right before on select.filter notes)
    → Fine params notes × (distributes_by select on left before right ≡ true)
distributed_by-is params select (Some left) (Some right) before on notes fine =
    let told = unless params (check.tell_parts left (before + right) on select.filter) NotDistributable notes fine in
    (told.1, sym (tell_alike left (before + right) on select.filter) ∙ told.0)
distributed_by-is params select (Some left) None before on notes fine = (fine, refl)
distributed_by-is params select None right before on notes fine = (fine, refl)

module _ (catalog : Contents) (program : Option Bound) (from : FromTables) (there : AreTables catalog from) (rules : IsCatalog catalog) where
  abbrev names : Tables
  names = in_program program (tables_from from)

  left-is : table_at catalog from.left.number ≡ from.left.named.table
  left-is = table_at-is catalog from.left.number from.left.named.table there.0

  right-classes : (right : Option FromTable) (on : Cond) → IsRight catalog right → right_classes (right_table catalog (join_of right on)) ≡ classes (columns_of (named_of right))
  right-classes None on h = refl
  right-classes (Some right) on h = ap classes_of (table_at-is catalog right.number right.named.table h)

  right-key : (right : Option FromTable) (on : Cond) (n : ℕ) → IsRight catalog right → right_key n (right_table catalog (join_of right on)) ≡ map (λ k. n + k) (key_of (named_of right))
  right-key None on n h = refl
  right-key (Some right) on n h = ap (λ (t : Table). map (λ k. n + k) t.key) (table_at-is catalog right.number right.named.table h)

  right-within : (right : Option FromTable) → IsRight catalog right → AreWithin (length (columns_of (named_of right))) (key_of (named_of right))
  right-within None h = refl
  right-within (Some right) h = key-columns catalog right.number right.named.table rules h

  keys : AreWithin (length (classes_in names)) (keys_in names)
  keys = keys-within names (key-columns catalog from.left.number from.left.named.table rules there.0) (right-within from.right there.1)

  joins-is : (params : List Class) (right : Option FromTable) (on : Cond) → IsRight catalog right → fits (classes_in names) params on ≡ true → joins catalog (join_of right on) (classes_in names) params ≡ true
  joins-is params None on h k = refl
  joins-is params (Some right) on h k =
      and_from (nat_lt right.number (length catalog.tables)) (fits (classes_in names) params on)
      (lt-ltb right.number (length catalog.tables) (slice_get_within catalog.tables right.number right.named.table h)) k

  distributes-is : (params : List Class) (select : SelectPlan) → select.left ≡ from.left.number → (right : Option FromTable) (on : Cond) → IsRight catalog right → (notes : Notes)
      → Fine params (distributed_by from.left.named.table.part (part_in right) (length from.left.named.table.columns) on select.filter notes)
      → Fine params notes × (distributes catalog select (join_of right on) ≡ true)
  distributes-is params select same None on h notes fine = ((distributed_by-is params select from.left.named.table.part None (length from.left.named.table.columns) on notes fine).0, refl)
  distributes-is params select same (Some right) on h notes fine =
      let found = distributed_by-is params select from.left.named.table.part right.named.table.part (length from.left.named.table.columns) on notes fine in
      let left : table_at catalog select.left ≡ from.left.named.table = ap (table_at catalog) same ∙ left-is in
      (found.0, (λ i. distributes_by select on (left i).part (length (left i).columns) (table_at-is catalog right.number right.named.table h i).part) ∙ found.1)

  partitioned-is : (right : Option FromTable) (on : Cond) → IsRight catalog right
      → (is_some from.left.named.table.part || is_some (part_in right)) ≡ list_any (λ number. is_some (table_at catalog number).part) (from.left.number ∷ joined_table (join_of right on))
  partitioned-is None on h = ap (λ (t : Table). is_some t.part || false) (sym left-is)
  partitioned-is (Some right) on h =
      (λ i. is_some (sym left-is i).part || or-false (is_some (sym (table_at-is catalog right.number right.named.table h) i).part) i)
    where
      or-false : (b : Bool) → b ≡ (b || false)
      or-false true = refl
      or-false false = refl

  select-is : (select : Select) → statement_has_bigints (stmt.Select select) ≡ true
      → let heads = heads_given names select.outputs in let done = selected names from heads select nothing in
      (Fine done.0.params done.0 → IsAction catalog done.0.params heads done.1) × (names_partitioned from ≡ formed.names_partitioned catalog done.1)
  select-is select ok =
      let parts = and_parts (outputs_have_bigints select.outputs && has_bigints_if (on_of select.second)) (has_bigints_if select.filter) ok in
      let first = and_parts (outputs_have_bigints select.outputs) (has_bigints_if (on_of select.second)) parts.0 in
      let heads = heads_given names select.outputs in
      let done = selected names from heads select nothing in
      let params = done.0.params in
      let shape = shape_of names heads select select.outputs nothing in
      let on = filtered names (on_of select.second) shape.0 in
      let filter = filtered names select.filter on.0 in
      let limit = limited_to names select.limit filter.0 in
      let plan : SelectPlan = record { left = from.left.number; right = join_of from.right on.1; filter = filter.1; shape = shape.1; limit = limit.1 } in
      let all = classes_in names in (
        λ fine.
            let fifth = distributes-is params plan refl from.right on.1 there.1 limit.0 fine in
            let fourth = limited_to_is params all names (finds_columns names) select.limit filter.0 fifth.0 in
            let third = filtered_is all params names (finds_columns names) select.filter parts.1 on.0 fourth.0 in
            let second = filtered_is all params names (finds_columns names) (on_of select.second) first.1 shape.0 third.0 in
            let outputs = shape_is params names keys select select.outputs first.0 nothing second.0 in
            let row : from_classes catalog plan ≡ all = λ i. classes_of (left-is i) ++ right-classes from.right on.1 there.1 i in
            let key : from_key catalog plan ≡ keys_in names = (λ i. (left-is i).key ++ right_key (length (left-is i).columns) (right_table catalog plan.right)) ∙ ap (λ ks. from.left.named.table.key ++ ks) (right-key from.right on.1 (length from.left.named.table.columns) there.1) in
            record {
              left = slice_get_within catalog.tables from.left.number from.left.named.table there.0;
              join = subst (λ cs. joins catalog plan.right cs params ≡ true) (sym row) (joins-is params from.right on.1 there.1 second.1);
              filter = subst (λ cs. fits cs params filter.1 ≡ true) (sym row) third.1;
              shape = subst₂ (λ cs ks. IsShape cs params ks shape.1 (map (λ (column : List ℕ × Class). column.1) heads)) (sym row) (sym key) outputs.1;
              limit = fourth.1;
              distributes = fifth.1;
            },
        partitioned-is from.right on.1 there.1,
      )

examined_from-is : (catalog : Contents) (program : Option Bound) (o : Option FromTables) (select : Select) (single : Bool) (found : Examined) → IsCatalog catalog → ((from : FromTables) → o ≡ Some from → AreTables catalog from)
    → statement_has_bigints (stmt.Select select) ≡ true → examined_from program o select single ≡ Some found → found.fault ≡ None → IsPrepared catalog found.prepared
examined_from-is catalog program None select single found rules there ok e clean = absurd (cc)
examined_from-is catalog program (Some from) select single found rules there ok e clean =
    let names = in_program program (tables_from from) in
    let heads = heads_given names select.outputs in
    let done = selected names from heads select nothing in
    let made = finished program single (names_partitioned from) heads done.0 done.1 in
    let same : made ≡ found = some-same made found e in
    let facts = select-is catalog program from (there from refl) rules select ok in
    subst (λ (x : Examined). IsPrepared catalog x.prepared) same
    (finished-is catalog program single (names_partitioned from) heads done.0 done.1 facts.0 facts.1 (ap (λ (x : Examined). x.fault) same ∙ clean))

-- ---- any statement

pub faultless : (catalog : Contents) (program : Option Bound) (statement : Stmt) (single : Bool) (found : Examined) → IsCatalog catalog → statement_has_bigints statement ≡ true
    → examined catalog program statement single ≡ Some found → found.fault ≡ None → IsPrepared catalog found.prepared
unfolding examined
faultless catalog program (stmt.Insert insert) single found rules ok e clean =
    changed-is catalog program single (table_named catalog insert.table) (λ number table. inserted (in_program program no_tables) number table insert) found (table_named-is catalog insert.table)
    (insert-is catalog program insert ok) e clean
faultless catalog program (stmt.Update update) single found rules ok e clean =
    let parts = and_parts (list_all (λ (set : Assignment). has_bigints set.value) update.sets) (has_bigints_if update.filter) ok in
    changed-is catalog program single (table_named catalog update.table) (λ number table. updated (in_program program (tables (named update.table table) None)) number table update) found (table_named-is catalog update.table)
    (update-is catalog program update rules parts.0 parts.1) e clean
faultless catalog program (stmt.Delete delete) single found rules ok e clean =
    changed-is catalog program single (table_named catalog delete.table) (λ number table. deleted (in_program program (tables (named delete.table table) None)) number delete) found (table_named-is catalog delete.table)
    (delete-is catalog program delete ok) e clean
faultless catalog program (stmt.Select select) single found rules ok e clean =
    examined_from-is catalog program (from_tables catalog select.first select.second) select single found rules (from_tables-are catalog select.first select.second) ok e clean

accepted-is : (fault : Option CheckFault) (made prepared : Prepared) → accepted fault made ≡ Ok prepared → (fault ≡ None) × (made ≡ prepared)
accepted-is None made prepared e = let f : Ok made ≡ Ok prepared = e in (refl, cc)
accepted-is (Some fault) made prepared e = absurd (cc)

answered-is : (catalog : Contents) (o : Option Examined) (prepared : Prepared) → ((found : Examined) → o ≡ Some found → found.fault ≡ None → IsPrepared catalog found.prepared) → answered o ≡ Ok prepared → IsPrepared catalog prepared
unfolding answered
answered-is catalog None prepared h e = absurd (cc)
answered-is catalog (Some found) prepared h e =
    let is = accepted-is found.fault found.prepared prepared e in
    subst (IsPrepared catalog) is.1 (h found refl is.0)

pub well_formed : (catalog : Contents) (statement : Stmt) (single : Bool) (prepared : Prepared) → IsCatalog catalog → statement_has_bigints statement ≡ true → checked catalog statement single ≡ Ok prepared → IsPrepared catalog prepared
well_formed catalog statement single prepared rules ok e =
    answered-is catalog (examined catalog None statement single) prepared (λ found is clean. faultless catalog None statement single found rules ok is clean) e
