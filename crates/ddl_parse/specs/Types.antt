-- The grammar of types, and parentheses in which nothing nests.
use Rattle.std.specs.Prelude.{ℤ}
use Rattle.sql_grammar.specs.declared.kind.Kind.TheVariants as k
use Rattle.sql_grammar.specs.Grammar.{G, alt, map, skip, opt, seq, tok, is}
use Rattle.ddl_parse.specs.declared.ddl.TypeName.{TypeName}
use Rattle.ddl_parse.specs.declared.ddl.TypeName.TheVariants as t
use Rattle.expr_parse.specs.Expressions.{before, number}

-- "(" rule ")", where parentheses always may stand
abbrev pub closed : {A : Type 0} → G A → G A
closed g = skip k.LeftParen (before g k.RightParen)

-- number [BYTES]
unfoldable pub length : G ℤ
length = map (λ p. p.0) (seq number (opt (tok k.Bytes)))

-- type = TINYINT | SMALLINT | INTEGER | BIGINT | VARCHAR "(" number [BYTES] ")"
unfoldable pub type_name : G TypeName
type_name = alt (is k.Tinyint t.Tinyint) (alt (is k.Smallint t.Smallint) (alt (is k.Integer t.Integer)
    (alt (is k.Bigint t.Bigint) (skip k.Varchar (map t.Varchar (closed length))))))
