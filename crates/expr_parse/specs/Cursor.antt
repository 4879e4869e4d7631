-- The tokens of a text as the grammar sees them, and what a cursor over them keeps ready.
use Rattle.std.specs.Prelude.{◌≡◌, ℕ, ◌+◌, Bool, true, false, ◌&&◌, List, [], ◌∷◌, map, All, Option, Some, None, Result, Ok, Err}
use denote.Ref.{Bor}
use Rattle.std.specs.Str.{IsCharBoundary}
use Rattle.volt_text.specs.declared.token.Token.{Token}
use Rattle.volt_text.specs.Tokens.{slice_of}
use Rattle.sql_grammar.specs.declared.kind.Kind.{Kind}
use Rattle.sql_grammar.specs.Kinds.{same_kind}
use Rattle.sql_grammar.specs.Grammar.{Tok, next_is, take_tok, parse, guard, tok}
use Rattle.expr_parse.specs.Expressions.{can_nest}
use Rattle.expr_parse.specs.declared.fault.Fault.{Fault}
use Rattle.expr_parse.specs.declared.fault.Fault.TheVariants as fault
use Rattle.sql_grammar.specs.TokenKinds.{kind_of}
use Rattle.expr_parse.specs.declared.cursor.Tokens.TheInside.{Inside}

-- a token of a text as the grammar sees it
abbrev pub tok_of : List ℕ → Token → Tok
tok_of text t = record { kind = kind_of t.kind (slice_of text t); text = slice_of text t }

abbrev pub toks : List ℕ → List Token → List Tok
toks text ts = map (tok_of text) ts

-- the token stands in the text, and begins and ends between characters
abbrev pub Stands : List ℕ → Token → Type 0
Stands text t = IsCharBoundary text t.at × IsCharBoundary text (t.at + t.len)

abbrev pub prefix_kind : List Tok → Option Kind
prefix_kind [] = None
prefix_kind (t ∷ ts) = Some t.kind

-- the tokens that are left
abbrev pub left_of : Inside → List Tok
left_of c = toks c.text.now c.left.now

abbrev pub IsReady : Inside → Type 0
IsReady c = All (Stands c.text.now) c.left.now × (c.next ≡ prefix_kind (left_of c))

-- the next token was of the kind, and is read; or it wasn't, and none is read
abbrev pub Eats : Kind → Bool → List Tok → List Tok → Type 0
Eats kind true old new = (t : Tok) × (old ≡ t ∷ new) × (same_kind t.kind kind ≡ true)
Eats kind false old new = (next_is kind old ≡ false) × (new ≡ old)

-- what a result with a reference shows
abbrev pub seen : {E : Type 0} → Result (Bor (List ℕ)) E → Result (List ℕ) E
seen (Ok text) = Ok text.now
seen (Err fault) = Err fault

-- a token of the kind was read, or the next token isn't of it
abbrev pub Expects : Kind → Result (Unit {0}) Fault → List Tok → List Tok → Type 0
Expects kind (Ok u) old new = (t : Tok) × (old ≡ t ∷ new) × (same_kind t.kind kind ≡ true)
Expects kind (Err fault.Syntax) old new = (next_is kind old ≡ false) × (take_tok kind old ≡ Err old) × (new ≡ old)
Expects kind (Err fault.NoMemory) old new = ⊥

-- a token of the kind was read where so many may still nest, or the next token isn't of it or none may nest
abbrev pub Opens : ℕ → Kind → Result (Unit {0}) Fault → List Tok → List Tok → Type 0
Opens depth kind (Ok u) old new = (t : Tok) × (old ≡ t ∷ new) × (same_kind t.kind kind ≡ true) × (can_nest depth ≡ true)
Opens depth kind (Err fault.Syntax) old new = (parse (guard (can_nest depth) (tok kind)) old ≡ Err old) × (new ≡ old)
Opens depth kind (Err fault.NoMemory) old new = ⊥

-- the next token is of the kind, and something may nest in it
abbrev pub begins : ℕ → Kind → List Tok → Bool
begins depth kind ts = can_nest depth && next_is kind ts
