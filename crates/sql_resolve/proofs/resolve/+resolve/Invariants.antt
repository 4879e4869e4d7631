use Rattle.std.proofs.Common.{◌≡◌, ◌++◌, drop, map, vec_len}
use Rattle.volt_value.specs.declared.column.Class.TheVariants as class
use Rattle.expr_parse.specs.declared.expression.Expr.{size-Expr}
use Rattle.sql_resolve.specs.Expressions.{meaning_of, scalars_in}
use Rattle.sql_resolve.specs.Operands.{joined_all, AreBelow}
use Rattle.sql_resolve.proofs.resolve.+resolve.Given as goal

abbrev pub invariant-scalars-loop-item : goal.invariant-scalars-loop-item
invariant-scalars-loop-item l = record {
  noted : (scalars_in (map (meaning_of l.names) (drop l.item-index l.items)) l.class l.notes).0 ≡ (scalars_in (map (meaning_of l.fn.names) l.fn.items) l.fn.class l.fn.notes).0;
  made : l.values ++ (scalars_in (map (meaning_of l.names) (drop l.item-index l.items)) l.class l.notes).1 ≡ (scalars_in (map (meaning_of l.fn.names) l.fn.items) l.fn.class l.fn.notes).1;
}

abbrev pub invariant-chain-onward : goal.invariant-chain-onward
invariant-chain-onward l = record {
  joined : joined_all l.names (l.notes, l.so_far) l.behind.items ≡ (meaning_of l.fn.names l.fn.e).resolve class.Int l.fn.notes;
  below : AreBelow (size-Expr l.fn.e) l.behind.items;
}

abbrev pub decreases-chain-onward : goal.decreases-chain-onward
decreases-chain-onward l = vec_len l.behind
