use Rattle.std.proofs.Common.{◌∙◌, sym, ap, arith}
use Rattle.expr_parse.specs.declared.expression.Expr.{size-Expr}
use Rattle.sql_resolve.specs.Expressions.{with, joined_to}
use Rattle.sql_resolve.specs.Operands.{joined_all}
use Rattle.sql_resolve.proofs.OperandLemmas.{joined_all_append, AreBelow_front, AreBelow_last}
use Rattle.sql_resolve.proofs.resolve.+resolve.Goals as goal

pub chain-single-requires : goal.chain-single-requires
chain-single-requires t c = (omega (arith, c.decreases, c.in_ok-first.ensures.first), tt)

pub chain-onward-init : goal.chain-onward-init
chain-onward-init t c = record {
  joined = ap (λ found. joined_all c.args.names.now found c.in_ok-first.behind.items) c.in_ok-so_far.ensures
      ∙ c.in_ok-first.ensures.joined c.args.names.now c.args.notes.now;
  below = c.in_ok-first.ensures.behind;
}

pub chain-right_side-requires : goal.chain-right_side-requires
chain-right_side-requires t c =
    let below = AreBelow_last (size-Expr c.args.e.now) c.pop.new.self.items (c.in-Some.operator, c.in-Some.right)
    (rw (← c.in-Some.ensures.items) c.onward.invariant.below) in
    (omega (arith, c.decreases, below), tt)

pub chain-onward-preserved : goal.chain-onward-preserved
chain-onward-preserved t c = record {
  joined = ap (λ found. joined_all c.args.names.now found c.pop.new.self.items)
      (c.in_ok-join.ensures ∙ ap (λ side. with side (joined_to c.onward.so_far)) c.in_ok-right.ensures)
      ∙ sym (joined_all_append c.args.names.now (c.onward.notes, c.onward.so_far) c.pop.new.self.items (c.in-Some.operator, c.in-Some.right))
      ∙ ap (joined_all c.args.names.now (c.onward.notes, c.onward.so_far)) (sym c.in-Some.ensures.items)
      ∙ c.onward.invariant.joined;
  below = AreBelow_front (size-Expr c.args.e.now) c.pop.new.self.items (c.in-Some.operator, c.in-Some.right)
      (rw (← c.in-Some.ensures.items) c.onward.invariant.below);
}
