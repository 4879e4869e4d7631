use Rattle.ddl_define.proofs.names.partition.Goals as goal

pub returns-clause-refused : goal.returns-clause-refused
returns-clause-refused c = rw (c.column_number-column.ensures, c.table_number-table.ensures) at c.partition.ensures.refused
