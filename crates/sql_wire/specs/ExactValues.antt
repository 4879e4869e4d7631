-- The readers of values, of rows, of calls and of statements are exact.
use Rattle.std.proofs.Common.{◌≡◌, ℕ, ◌+◌, ◌^◌, List, ◌++◌, length, drop, Option, Some, refl, sym, ap, subst, ◌∙◌}
use Rattle.std.proofs.lemmas.List.{drop_at}
use Rattle.std.specs.Int.{w16, to_be_bytes}
use Rattle.volt_base.specs.Reading.{◌>>=◌, number_at}
use Rattle.volt_base.proofs.Fields.{bind_some, some_is}
use Rattle.byte_codec.specs.Readers.{both_at, short_list_at, short_list_bytes}
use Rattle.byte_codec.specs.Exactness.{AreBytes, Taken, Exact, FitsIn}
use Rattle.byte_codec.proofs.ExactReaders.{IsBelow, Mapped, exact16, both_exact, mapped_exact, short_list_exact}
use Rattle.volt_value.specs.declared.value.Value.{Value}
use Rattle.volt_value.specs.Values.{IsValue}
use Rattle.volt_value.specs.Spelling.{value_bytes}
use Rattle.volt_value.specs.Reading.{value_at}
use Rattle.volt_value.proofs.ValueLemmas.{begins, value_again}
use Rattle.sql_meaning.specs.Replies.{row_bytes}
use Rattle.sql_plan.specs.Rows.{Cells}
use Rattle.sql_wire.specs.declared.bodies.CallBody.{CallBody}
use Rattle.sql_wire.specs.declared.bodies.StatementBody.{StatementBody}
use Rattle.sql_wire.specs.Bodies.{call_bytes, statement_bytes}
use Rattle.sql_wire.specs.Reading.{one_value_at, row_at, call_with, call_at, statement_with, statement_at}
use Rattle.sql_wire.specs.Spelled.{RowFits, CallFits, StatementFits}

value_takes : (bytes : List ℕ) (x : Value × List ℕ) → AreBytes bytes → one_value_at bytes ≡ Some x → Taken value_bytes IsValue bytes x
unfolding one_value_at
value_takes bytes x fits e =
    let a = bind_some (value_at bytes) (λ found. Some (found.0, drop found.1 bytes)) x e in
    let b = begins bytes a.0 fits a.1 in
    subst (λ (y : Value × List ℕ). Taken value_bytes IsValue bytes y) {x = (a.0.0, drop a.0.1 bytes)} (some_is (a.0.0, drop a.0.1 bytes) x a.2)
    (record { parts = b.spelled; fits = b.is_value })

value_read : (value : Value) (rest : List ℕ) → IsValue value → one_value_at (value_bytes value ++ rest) ≡ Some (value, rest)
unfolding one_value_at
value_read value rest is =
    ap (λ (o : Option (Value × ℕ)). o >>= λ found. Some (found.0, drop found.1 (value_bytes value ++ rest))) (value_again value rest is)
    ∙ ap (λ (r : List ℕ). Some (value, r)) (drop_at (value_bytes value) rest (length (value_bytes value)) refl)

pub value_exact : Exact one_value_at value_bytes IsValue
value_exact = record { takes = value_takes; again = value_read }

pub row_exact : Exact row_at row_bytes RowFits
unfolding row_at
row_exact = short_list_exact one_value_at value_bytes IsValue value_exact

-- ---- calls and statements

abbrev call_parts : CallBody → ℕ × Cells
call_parts call = (call.procedure, call.args)

abbrev CallParts : ℕ × Cells → Type 0
CallParts p = IsBelow (2 ^ 16) p.0 × RowFits p.1

pub call_exact : Exact call_at call_bytes CallFits
unfolding call_at
call_exact =
    mapped_exact call_with call_parts (both_at (number_at w16) row_at) (λ p. to_be_bytes w16 p.0 ++ row_bytes p.1) CallParts CallFits
    (record { signs = λ p fits. (refl, fits); makes = λ call fits. (refl, fits) })
    (both_exact (number_at w16) row_at (to_be_bytes w16) row_bytes (IsBelow (2 ^ 16)) RowFits exact16 row_exact)

abbrev statement_parts : StatementBody → ℕ × (ℕ × Cells)
statement_parts s = (s.procedure, (s.statement, s.args))

abbrev StatementParts : ℕ × (ℕ × Cells) → Type 0
StatementParts p = IsBelow (2 ^ 16) p.0 × CallParts p.1

abbrev arguments_bytes : ℕ × Cells → List ℕ
arguments_bytes p = to_be_bytes w16 p.0 ++ row_bytes p.1

pub statement_exact : Exact statement_at statement_bytes StatementFits
unfolding statement_at
statement_exact =
    mapped_exact statement_with statement_parts (both_at (number_at w16) (both_at (number_at w16) row_at)) (λ p. to_be_bytes w16 p.0 ++ arguments_bytes p.1) StatementParts StatementFits
    (record { signs = λ p fits. (refl, fits); makes = λ s fits. (refl, fits) })
    (both_exact (number_at w16) (both_at (number_at w16) row_at) (to_be_bytes w16) arguments_bytes (IsBelow (2 ^ 16)) CallParts exact16
    (both_exact (number_at w16) row_at (to_be_bytes w16) row_bytes (IsBelow (2 ^ 16)) RowFits exact16 row_exact))
