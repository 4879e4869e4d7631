-- In the grammar of definitions one token ahead decides.
use Rattle.std.proofs.Common.{◌≡◌, Bool, true, refl}
use Rattle.sql_grammar.specs.Grammar.{cont, ok}
use Rattle.sql_parse.specs.Statements.{names, after_statement}
use Rattle.ddl_parse.specs.Types.{type_name, length}
use Rattle.ddl_parse.specs.Ddl.{not_null, primary_key, column_text, key_columns, named_key, table_item, table_items, table_text, index_text, partition_text, created, definition, ddl}
use Rattle.ddl_parse.proofs.ProceduresOk.{procedure-ok, procedure-cont}

table_text-ok : ok table_text ≡ true
unfolding table_text table_items table_item named_key key_columns column_text type_name length not_null primary_key names
table_text-ok = refl

index_text-ok : (unique : Bool) → ok (index_text unique) ≡ true
unfolding index_text names
index_text-ok unique = refl

created-ok : ok created ≡ true
unfolding created
created-ok = simp (table_text-ok, index_text-ok, procedure-ok)

created-cont : cont created ≡ after_statement
unfolding created table_text index_text
created-cont = simp (procedure-cont)

definition-ok : ok definition ≡ true
unfolding definition partition_text
definition-ok = simp (created-ok)

definition-cont : cont definition ≡ after_statement
unfolding definition partition_text
definition-cont = simp (created-cont)

pub ddl-ok : ok ddl ≡ true
unfolding ddl
ddl-ok = simp (definition-ok, definition-cont)
