use Rattle.std.proofs.Common.{◌∙◌, refl, sym, ap, inl, inr, arith}
use Rattle.volt_value.specs.declared.column.Class.TheVariants as class
use Rattle.sql_resolve.specs.Expressions.{meaning_of}
use Rattle.std.proofs.lemmas.Bool.{both_ways}
use Rattle.sql_resolve.specs.Operands.{joined_all}
use Rattle.sql_resolve.proofs.OperandLemmas.{joined_all_append, AreBelow_append}
use Rattle.sql_resolve.proofs.operands.operands.Goals as goal

pub leftward-preserved : goal.leftward-preserved
leftward-preserved c = record {
  joined = λ names notes. ap (joined_all names ((meaning_of names c.in-Some.left.now).resolve class.Int notes)) c.in_ok-push.ensures.items
      ∙ joined_all_append names ((meaning_of names c.in-Some.left.now).resolve class.Int notes) c.leftward.behind.items (c.in-Some.operator, c.in-Some.right)
      ∙ ap (λ found. joined_all names found c.leftward.behind.items) (sym (c.in-Some.ensures.joined names notes))
      ∙ c.leftward.invariant.joined names notes;
  first = omega (arith, c.in-Some.ensures.less.0, c.leftward.invariant.first);
  less = inl (omega (arith, c.in-Some.ensures.less.0, c.leftward.invariant.first));
  behind = rw c.in_ok-push.ensures.items (AreBelow_append _ _ _ c.leftward.invariant.behind (omega (arith, c.in-Some.ensures.less.1, c.leftward.invariant.first)));
}

pub returns-clause-joined : goal.returns-clause-joined
returns-clause-joined c = λ names notes.
    ap (λ found. joined_all names found c.leftward.behind.items) (sym (c.in_default.ensures.single refl names notes))
    ∙ c.leftward.invariant.joined names notes

pub returns-clause-first : goal.returns-clause-first
returns-clause-first c = elim c.leftward.invariant.less [ inl p ↦ p | inr q ↦ absurd (both_ways _ (c.in_default.ensures.none refl) q) ]
