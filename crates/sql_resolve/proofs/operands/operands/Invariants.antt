use Rattle.std.proofs.Common.{◌≡◌, ◌≤◌, ◌<◌, ◌⊎◌, true}
use Rattle.volt_value.specs.declared.column.Class.TheVariants as class
use Rattle.expr_parse.specs.declared.expression.Expr.{size-Expr}
use Rattle.sql_resolve.specs.declared.notes.Notes.{Notes}
use Rattle.sql_resolve.specs.Expressions.{meaning_of}
use Rattle.sql_resolve.specs.Named.{Tables}
use Rattle.sql_resolve.specs.Operands.{joined_all, is_operator, AreBelow}
use Rattle.sql_resolve.proofs.operands.operands.Given as goal

abbrev pub invariant-leftward : goal.invariant-leftward
invariant-leftward l = record {
  joined : (names : Tables) (notes : Notes) → joined_all names ((meaning_of names l.first).resolve class.Int notes) l.behind.items ≡ (meaning_of names l.fn.e).resolve class.Int notes;
  first : size-Expr l.first ≤ size-Expr l.fn.e;
  less : (size-Expr l.first < size-Expr l.fn.e) ⊎ (is_operator l.first ≡ true);
  behind : AreBelow (size-Expr l.fn.e) l.behind.items;
}

abbrev pub decreases-leftward : goal.decreases-leftward
decreases-leftward l = size-Expr l.first
