use Rattle.std.proofs.Common.{◌≡◌, ◌≤◌, drop}
use Rattle.sql_grammar.specs.TokenKinds.{digits_from, max_number}
use Rattle.sql_grammar.proofs.words.number_value.Given as goal

abbrev pub invariant-loop-digit : goal.invariant-loop-digit
invariant-loop-digit l = record {
  value : digits_from 0 l.digits ≡ digits_from l.value (drop l.digit-index l.digits);
  within : l.value ≤ max_number;
}
