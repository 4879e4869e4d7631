-- A name alone behind RETURN.
use Rattle.std.proofs.Common.{◌≡◌, true, List, [], ◌∷◌, ◌++◌, Option, Some, None, ℕ, refl}
use Rattle.std.specs.Prelude.{MatchOption, is_none}
use Rattle.expr_parse.specs.declared.expression.ColumnName.{ColumnName}
use Rattle.expr_parse.specs.declared.expression.Expr.{Expr}
use Rattle.expr_parse.specs.declared.expression.Expr.TheVariants as e
use Rattle.ddl_parse.specs.declared.procedure.ReturnText.TheVariants as r
use Rattle.ddl_parse.specs.Procedures.{is_lone_name, lone_column, returned_of, result_of}

without_table : (table : Option (List ℕ)) (c : ColumnName) → is_none table ≡ true → r.Result c.column ≡ lone_column table c
without_table None c h = refl
without_table (Some t) c h = absurd cc

last_is : (x : Expr) (new : List Expr) (last : Expr) → x ∷ [] ≡ new ++ last ∷ [] → last ≡ x
last_is x [] last h = cc
last_is x (y ∷ []) last h = absurd cc
last_is x (y ∷ z ∷ zs) last h = absurd cc

column : (c : ColumnName) (new : List Expr) (last : Option Expr) → is_none c.table ≡ true → MatchOption last ((e.Column c ∷ [] ≡ []) × (new ≡ [])) (λ l. e.Column c ∷ [] ≡ new ++ l ∷ []) → result_of last ≡ lone_column c.table c
column c new None h m = absurd cc
column c new (Some l) h m = rw (last_is (e.Column c) new l m) (without_table c.table c h)

pub lone : (values new : List Expr) (last : Option Expr) → is_lone_name values ≡ true → MatchOption last ((values ≡ []) × (new ≡ [])) (λ l. values ≡ new ++ l ∷ []) → result_of last ≡ returned_of values
lone (e.Column c ∷ []) new last h m = column c new last h m
lone values new last h m = absurd cc
