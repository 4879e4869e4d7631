-- In the grammar of procedures one token ahead decides, however deep steps nest.
use Rattle.std.proofs.Common.{◌≡◌, ℕ, zero, suc, true, false, List, [], ◌∷◌, ◌++◌, refl}
use Rattle.sql_grammar.specs.declared.kind.Kind.TheVariants as k
use Rattle.sql_grammar.specs.Grammar.{G, null, first, cont, ok}
use Rattle.ddl_parse.specs.declared.procedure.StepText.{StepText}
use Rattle.expr_parse.specs.Expressions.{max_nesting, after_whole}
use Rattle.sql_parse.specs.Statements.{after_statement}
use Rattle.ddl_parse.specs.Types.{type_name, length}
use Rattle.ddl_parse.specs.Procedures.{assigned, result_name, executed, otherwise, chosen, repeated, exprs, returned, step, steps, after_steps, parameter_number, partitioned, parameter, listed_parameters, parameters, program, proc_body, procedure}
use Rattle.expr_parse.proofs.ExpressionsOk.{expr-ok, expr-null, expr-cont, expr-first, operands}
use Rattle.sql_parse.proofs.StatementsOk.{stmt-ok, stmt-null, stmt-cont, stmt-first}

-- what is to be known of the steps in a step
pub record Steps (inner : G (List StepText)) : Type 0 where
  pub is_ok : ok inner ≡ true
  pub goes_on : cont inner ≡ after_steps

module _ (depth : ℕ) where
  assigned-ok : ok (assigned depth) ≡ true
  unfolding assigned
  assigned-ok = simp (expr-ok depth, expr-cont depth)

  executed-ok : ok (executed depth) ≡ true
  unfolding executed result_name
  executed-ok = simp (stmt-ok depth, stmt-null depth, stmt-cont depth, stmt-first depth)

  exprs-ok : ok (exprs depth) ≡ true
  unfolding exprs
  exprs-ok = simp (expr-ok depth, expr-cont depth)

  exprs-null : null (exprs depth) ≡ false
  unfolding exprs
  exprs-null = simp (expr-null depth)

  exprs-cont : cont (exprs depth) ≡ k.Comma ∷ (after_whole ++ after_whole)
  unfolding exprs
  exprs-cont = simp (expr-cont depth)

  exprs-first : first (exprs depth) ≡ k.Not ∷ k.Minus ∷ operands
  unfolding exprs
  exprs-first = simp (expr-first depth, expr-null depth)

  returned-ok : ok (returned depth) ≡ true
  unfolding returned
  returned-ok = simp (exprs-ok, exprs-null, exprs-cont, exprs-first)

  returned-cont : cont (returned depth) ≡ []
  unfolding returned
  returned-cont = simp (exprs-null)

  executed-cont : cont (executed depth) ≡ []
  unfolding executed
  executed-cont = simp (stmt-null depth)

module _ (depth : ℕ) (inner : G (List StepText)) (known : Steps inner) where
  otherwise-ok : ok (otherwise inner) ≡ true
  unfolding otherwise
  otherwise-ok = simp (known.is_ok)

  otherwise-null : null (otherwise inner) ≡ true
  unfolding otherwise
  otherwise-null = refl

  otherwise-first : first (otherwise inner) ≡ k.Else ∷ []
  unfolding otherwise
  otherwise-first = refl

  otherwise-cont : cont (otherwise inner) ≡ after_steps ++ k.Else ∷ []
  unfolding otherwise
  otherwise-cont = simp (known.goes_on)

  chosen-ok : ok (chosen depth inner) ≡ true
  unfolding chosen
  chosen-ok = simp (expr-ok depth, expr-cont depth, known.is_ok, known.goes_on, otherwise-ok, otherwise-null, otherwise-first, otherwise-cont)

  repeated-ok : ok (repeated inner) ≡ true
  unfolding repeated
  repeated-ok = simp (known.is_ok, known.goes_on)

  step-ok : ok (step depth inner) ≡ true
  unfolding step
  step-ok = simp (assigned-ok depth, executed-ok depth, chosen-ok, repeated-ok, returned-ok depth)

  step-null : null (step depth inner) ≡ false
  unfolding step
  step-null = refl

  step-cont : cont (step depth inner) ≡ []
  unfolding step assigned chosen repeated
  step-cont = simp (executed-cont depth, otherwise-null, returned-cont depth)

  step-first : first (step depth inner) ≡ after_steps
  unfolding step
  step-first = refl

pub steps-cont : (depth : ℕ) → cont (steps depth) ≡ after_steps
unfolding steps
steps-cont zero = refl
steps-cont (suc depth) = refl

pub steps-ok : (depth : ℕ) → ok (steps depth) ≡ true
unfolding steps
steps-ok zero = refl
steps-ok (suc depth) =
    let known : Steps (steps depth) = record { is_ok = steps-ok depth; goes_on = steps-cont depth } in
    simp (step-ok depth (steps depth) known, step-null depth (steps depth) known, step-cont depth (steps depth) known, step-first depth (steps depth) known)

pub program-ok : ok program ≡ true
unfolding program parameters listed_parameters parameter type_name length
program-ok = simp (steps-ok max_nesting, steps-cont max_nesting)

proc_body-ok : ok proc_body ≡ true
unfolding proc_body
proc_body-ok = simp (program-ok, stmt-ok max_nesting, stmt-first max_nesting)

proc_body-cont : cont proc_body ≡ after_statement
unfolding proc_body program
proc_body-cont = simp (stmt-cont max_nesting, stmt-null max_nesting)

proc_body-null : null proc_body ≡ false
unfolding proc_body
proc_body-null = simp (stmt-null max_nesting)

pub procedure-ok : ok procedure ≡ true
unfolding procedure partitioned parameter_number
procedure-ok = simp (proc_body-ok)

pub procedure-cont : cont procedure ≡ after_statement
unfolding procedure
procedure-cont = simp (proc_body-cont)

pub procedure-null : null procedure ≡ false
unfolding procedure
procedure-null = refl
