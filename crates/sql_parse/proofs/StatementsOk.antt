-- In the grammar of statements one token ahead decides.
use Rattle.std.proofs.Common.{◌≡◌, ℕ, zero, suc, true, false, List, [], ◌∷◌, ◌++◌, refl}
use Rattle.sql_grammar.specs.declared.kind.Kind.{Kind}
use Rattle.sql_grammar.specs.declared.kind.Kind.TheVariants as k
use Rattle.sql_grammar.specs.Grammar.{null, first, cont, ok, is_in}
use Rattle.expr_parse.specs.Expressions.{column, inner_expr, deeper, max_nesting, after_whole}
use Rattle.expr_parse.specs.declared.levels.Level.TheVariants.{Whole}
use Rattle.sql_parse.specs.declared.statement.Aggregate.{Aggregate}
use Rattle.sql_parse.specs.Statements.{closed, behind, tail, named_columns, values, counted_value, least_or_greatest, output_name, alias, table, columns, groups, descending, key, keys, order, limit_value, limited, names, filter, inner_exprs, insert, assignment, assignments, update, delete, counted, aggregated, output_value, output, listed_outputs, outputs, joined, second_table, source, select, stmt, statement, after_statement}
use Rattle.expr_parse.proofs.ExpressionsOk.{expr-ok, expr-null, expr-cont, expr-first, inner_expr-ok, inner_expr-null, inner_expr-cont, operands, level-first, level-null}

-- what may go on after parts of a statement, inside longer ones
abbrev after_second : List Kind
after_second = k.Name ∷ k.As ∷ (after_whole ++ after_whole ++ k.Join ∷ k.Inner ∷ k.Comma ∷ [])

abbrev after_source : List Kind
after_source = after_whole ++ k.Where ∷ (after_second ++ k.Name ∷ k.As ∷ [])

abbrev after_tail : List Kind
after_tail = k.Limit ∷ k.Comma ∷ k.Asc ∷ k.Desc ∷ k.Dot ∷ k.Asc ∷ k.Desc ∷ k.Dot ∷ k.Order ∷ k.Comma ∷ k.Dot ∷ k.Dot ∷ k.Group ∷ []

closed-first : (depth : ℕ) → is_in k.Star (first (closed depth)) ≡ false
unfolding closed inner_expr deeper
closed-first zero = refl
closed-first (suc depth) = simp (level-first depth, level-null depth Whole)

module _ (depth : ℕ) where
  filter-ok : ok (filter depth) ≡ true
  unfolding filter
  filter-ok = simp (expr-ok depth)

  filter-first : first (filter depth) ≡ k.Where ∷ []
  unfolding filter
  filter-first = refl

  filter-null : null (filter depth) ≡ true
  unfolding filter
  filter-null = refl

  filter-cont : cont (filter depth) ≡ after_whole ++ k.Where ∷ []
  unfolding filter
  filter-cont = simp (expr-cont depth)

  inner_exprs-ok : ok (inner_exprs depth) ≡ true
  unfolding inner_exprs
  inner_exprs-ok = simp (inner_expr-ok depth, inner_expr-cont depth)

  inner_exprs-null : null (inner_exprs depth) ≡ false
  unfolding inner_exprs
  inner_exprs-null = simp (inner_expr-null depth)

  inner_exprs-cont : cont (inner_exprs depth) ≡ k.Comma ∷ (after_whole ++ after_whole)
  unfolding inner_exprs
  inner_exprs-cont = simp (inner_expr-cont depth)

  insert-ok : ok (insert depth) ≡ true
  unfolding insert named_columns values names
  insert-ok = simp (inner_exprs-ok, inner_exprs-cont)

  insert-cont : cont (insert depth) ≡ []
  unfolding insert named_columns values names
  insert-cont = simp (inner_exprs-null)

  assignments-ok : ok (assignments depth) ≡ true
  unfolding assignments assignment
  assignments-ok = simp (expr-ok depth, expr-cont depth)

  assignment-cont : cont (assignment depth) ≡ after_whole
  unfolding assignment
  assignment-cont = simp (expr-cont depth)

  assignments-cont : cont (assignments depth) ≡ k.Comma ∷ (after_whole ++ after_whole)
  unfolding assignments
  assignments-cont = simp (assignment-cont)

  update-ok : ok (update depth) ≡ true
  unfolding update
  update-ok = simp (assignments-ok, assignments-cont, filter-ok, filter-first)

  update-cont : cont (update depth) ≡ after_whole ++ k.Where ∷ k.Comma ∷ (after_whole ++ after_whole)
  unfolding update
  update-cont = simp (assignments-cont, filter-null, filter-cont)

  delete-ok : ok (delete depth) ≡ true
  unfolding delete
  delete-ok = simp (filter-ok)

  delete-cont : cont (delete depth) ≡ after_whole ++ k.Where ∷ []
  unfolding delete
  delete-cont = simp (filter-null, filter-cont)

  closed-ok : ok (closed depth) ≡ true
  unfolding closed
  closed-ok = simp (inner_expr-ok depth, inner_expr-cont depth)

  closed-null : null (closed depth) ≡ false
  unfolding closed
  closed-null = simp (inner_expr-null depth)

  closed-cont : cont (closed depth) ≡ []
  unfolding closed
  closed-cont = refl

  counted-ok : ok (counted depth) ≡ true
  unfolding counted counted_value
  counted-ok = simp (closed-ok, closed-first depth)

  aggregated-ok : (x : Aggregate) → ok (aggregated depth x) ≡ true
  unfolding aggregated
  aggregated-ok x = simp (closed-ok)

  output_value-ok : ok (output_value depth) ≡ true
  unfolding output_value least_or_greatest
  output_value-ok = simp (counted-ok, aggregated-ok, expr-ok depth, expr-first depth)

  counted-cont : cont (counted depth) ≡ []
  unfolding counted counted_value
  counted-cont = simp (closed-null, closed-cont)

  aggregated-cont : (x : Aggregate) → cont (aggregated depth x) ≡ []
  unfolding aggregated
  aggregated-cont x = simp (closed-null, closed-cont)

  output_value-null : null (output_value depth) ≡ false
  unfolding output_value least_or_greatest
  output_value-null = simp (expr-null depth)

  output_value-cont : cont (output_value depth) ≡ after_whole
  unfolding output_value least_or_greatest
  output_value-cont = simp (counted-cont, aggregated-cont, expr-cont depth, expr-null depth)

  output_value-first : first (output_value depth) ≡ k.Count ∷ k.Sum ∷ k.Min ∷ k.Max ∷ k.Not ∷ k.Minus ∷ operands
  unfolding output_value least_or_greatest
  output_value-first = simp (expr-first depth)

  output-ok : ok (output depth) ≡ true
  unfolding output output_name
  output-ok = simp (output_value-ok, output_value-cont)

  output-null : null (output depth) ≡ false
  unfolding output output_name
  output-null = simp (output_value-null)

  output-cont : cont (output depth) ≡ k.As ∷ after_whole
  unfolding output output_name
  output-cont = simp (output_value-cont)

  output-first : first (output depth) ≡ k.Count ∷ k.Sum ∷ k.Min ∷ k.Max ∷ k.Not ∷ k.Minus ∷ operands
  unfolding output output_name
  output-first = simp (output_value-first, output_value-null)

  outputs-ok : ok (outputs depth) ≡ true
  unfolding outputs listed_outputs
  outputs-ok = simp (output-ok, output-null, output-cont, output-first)

  outputs-cont : cont (outputs depth) ≡ k.Comma ∷ k.As ∷ (after_whole ++ k.As ∷ after_whole)
  unfolding outputs listed_outputs
  outputs-cont = simp (output-cont, output-null)

  second_table-ok : ok (second_table depth) ≡ true
  unfolding second_table joined table alias
  second_table-ok = simp (expr-ok depth)

  second_table-null : null (second_table depth) ≡ true
  unfolding second_table
  second_table-null = refl

  second_table-first : first (second_table depth) ≡ k.Comma ∷ k.Inner ∷ k.Join ∷ []
  unfolding second_table
  second_table-first = refl

  second_table-cont : cont (second_table depth) ≡ after_second
  unfolding second_table joined table alias
  second_table-cont = simp (expr-cont depth)

  source-ok : ok (source depth) ≡ true
  unfolding source table alias
  source-ok = simp (second_table-ok, second_table-null, second_table-cont, second_table-first, filter-ok, filter-first)

  source-cont : cont (source depth) ≡ after_source
  unfolding source table alias
  source-cont = simp (second_table-null, second_table-cont, filter-null, filter-cont)

  tail-ok : ok tail ≡ true
  unfolding tail groups columns column order keys key descending limited limit_value
  tail-ok = refl

  tail-first : first tail ≡ k.Group ∷ k.Order ∷ k.Limit ∷ []
  unfolding tail groups order limited
  tail-first = refl

  tail-null : null tail ≡ true
  unfolding tail groups order limited
  tail-null = refl

  tail-cont : cont tail ≡ after_tail
  unfolding tail groups columns column order keys key descending limited limit_value
  tail-cont = refl

  select-ok : ok (select depth) ≡ true
  unfolding select behind
  select-ok = simp (outputs-ok, outputs-cont, source-ok, source-cont, tail-ok, tail-first)

  select-cont : cont (select depth) ≡ after_tail ++ after_source
  unfolding select behind
  select-cont = simp (source-cont, tail-null, tail-cont)

  pub stmt-ok : ok (stmt depth) ≡ true
  unfolding stmt
  stmt-ok = simp (insert-ok, update-ok, delete-ok, select-ok, insert-cont, update-cont, delete-cont, select-cont)

  pub stmt-null : null (stmt depth) ≡ false
  unfolding stmt
  stmt-null = refl

  pub stmt-cont : cont (stmt depth) ≡ after_statement
  unfolding stmt
  stmt-cont = refl

  pub stmt-first : first (stmt depth) ≡ k.Insert ∷ k.Update ∷ k.Delete ∷ k.Select ∷ []
  unfolding stmt
  stmt-first = refl

pub statement-ok : ok statement ≡ true
unfolding statement
statement-ok = stmt-ok max_nesting
