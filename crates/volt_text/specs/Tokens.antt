-- The tokens of a text. From its beginning on a text is cut into pieces, which are blanks, comments and tokens: at each
-- place stands the longest piece that begins there.
use Rattle.std.specs.Prelude.{◌≡◌, ◌<◌, ◌≤◌, ℕ, ◌+◌, ◌==◌, nat_lt, Bool, true, false, not, ◌&&◌, ◌||◌, if◌then◌else◌, List, [], ◌∷◌, ◌++◌, length, take, drop, codes, IsTrue}
use Rattle.std.specs.Char.{is_ascii_alphabetic, is_ascii_digit}
use Rattle.std.specs.List.{list_all, list_any}
use Rattle.std.specs.Str.{byte}
use Rattle.volt_text.specs.declared.piece.PieceKind.{PieceKind}
use Rattle.volt_text.specs.declared.piece.PieceKind.TheVariants.{Blank, Comment, Lexeme}
use Rattle.volt_text.specs.declared.token.TokenKind.TheVariants.{Word, Number, Text, Sign}
use Rattle.volt_text.specs.declared.token.Token.{Token}

-- Bytes

-- a space, a tab or an LF
abbrev pub is_blank : ℕ → Bool
is_blank b = b == 32 || b == 9 || b == 10

-- an ASCII letter or `_`
abbrev pub is_letter : ℕ → Bool
is_letter b = is_ascii_alphabetic b || b == byte "_"

-- what may stand in a word
abbrev pub is_word_byte : ℕ → Bool
is_word_byte b = is_letter b || is_ascii_digit b

abbrev pub is_quote : ℕ → Bool
is_quote b = b == byte "'"

-- what may stand between quotes: all but U+0000 to U+001F, and U+007F
abbrev pub may_be_quoted : ℕ → Bool
may_be_quoted b = not (nat_lt b 32) && not (b == 127)

-- what may stand in a comment: all but LF
abbrev pub is_in_line : ℕ → Bool
is_in_line b = not (b == 10)

-- the text begins with such a byte
abbrev pub begins : (ℕ → Bool) → List ℕ → Bool
begins p [] = false
begins p (b ∷ bs) = p b

-- Pieces

-- a text with each quote in it doubled
abbrev pub doubled : List ℕ → List ℕ
doubled [] = []
doubled (b ∷ bs) = if is_quote b then byte "'" ∷ byte "'" ∷ doubled bs else b ∷ doubled bs

-- a text within quotes
abbrev pub quoted : List ℕ → List ℕ
quoted inner = byte "'" ∷ (doubled inner ++ byte "'" ∷ [])

-- a sign of one byte: ( ) , ; . * + - / = < > ? :
abbrev pub is_single : ℕ → Bool
is_single b = list_any (λ c. c == b) (codes "(),;.*+-/=<>?:")

-- a sign of two bytes: <> != <= >=
abbrev pub is_pair : ℕ → ℕ → Bool
is_pair b c = (b == byte "<" && c == byte ">") || (c == byte "=" && (b == byte "!" || b == byte "<" || b == byte ">"))

abbrev pub is_sign : List ℕ → Bool
is_sign (b ∷ []) = is_single b
is_sign (b ∷ c ∷ []) = is_pair b c
is_sign _ = false

-- two hyphens, and then anything but an LF
abbrev pub is_comment : List ℕ → Bool
is_comment (b ∷ c ∷ line) = b == byte "-" && c == byte "-" && list_all is_in_line line
is_comment _ = false

-- the bytes are a piece of this kind
abbrev pub IsPiece : PieceKind → List ℕ → Type 0
IsPiece Blank bytes = IsTrue (begins is_blank bytes && list_all is_blank bytes)
IsPiece Comment bytes = IsTrue (is_comment bytes)
IsPiece (Lexeme Word) bytes = IsTrue (begins is_letter bytes && list_all is_word_byte bytes)
IsPiece (Lexeme Number) bytes = IsTrue (begins is_ascii_digit bytes && list_all is_ascii_digit bytes)
IsPiece (Lexeme Text) bytes = (inner : List ℕ) × (bytes ≡ quoted inner) × IsTrue (list_all may_be_quoted inner)
IsPiece (Lexeme Sign) bytes = IsTrue (is_sign bytes)

-- Where pieces stand

-- at the beginning of a text stands a piece of this kind with these bytes, and this follows it
pub record Stands (kind : PieceKind) (bytes after : List ℕ) : Type 0 where
  pub is_piece : IsPiece kind bytes
  -- no longer piece, of whatever kind, begins there
  pub is_longest : (other : PieceKind) (more rest : List ℕ) → after ≡ more ++ rest → IsPiece other (bytes ++ more) → more ≡ []
  -- a quote that is doubled ends no quoted text
  pub is_ended : kind ≡ Lexeme Text → begins is_quote after ≡ false

-- no piece stands at the beginning of the text
abbrev pub HasNone : List ℕ → Type 0
HasNone text = (kind : PieceKind) (bytes after : List ℕ) → text ≡ bytes ++ after → Stands kind bytes after → ⊥

-- the text begins with a quote that no later quote ends: each quote that might end it is doubled
pub record IsOpen (text : List ℕ) : Type 0 where
  pub has_quote : begins is_quote text ≡ true
  pub never_ends : (inner after : List ℕ) → text ≡ quoted inner ++ after → begins is_quote after ≡ true

pub record Piece : Type 0 where
  pub kind : PieceKind
  pub bytes : List ℕ

-- from its beginning on the text has these pieces, and then this rest
abbrev pub Cut : List Piece → List ℕ → List ℕ → Type 0
Cut [] text rest = text ≡ rest
Cut (p ∷ ps) text rest = (after : List ℕ) × (text ≡ p.bytes ++ after) × Stands p.kind p.bytes after × Cut ps after rest

-- Readings

-- a token at this place, where the piece is one, and then these
abbrev pub token_before : ℕ → PieceKind → ℕ → List Token → List Token
token_before at (Lexeme kind) len ts = record { kind = kind; at = at; len = len } ∷ ts
token_before at _ len ts = ts

-- the tokens among pieces, the first of which begins at this place
abbrev pub tokens_at : ℕ → List Piece → List Token
tokens_at at [] = []
tokens_at at (p ∷ ps) = token_before at p.kind (length p.bytes) (tokens_at (at + length p.bytes) ps)

-- what comes of a text: its tokens, or the place at which it can't be cut further. A place is that of a byte, from 0
pub data Reading : Type 0 where
  Tokens : List Token → Reading
  BadChar : ℕ → Reading
  OpenText : ℕ → Reading

-- the text is cut into pieces up to this place, which is one of a byte of it
pub record IsCutTo (text : List ℕ) (at : ℕ) : Type 0 where
  pub pieces : List Piece
  pub is_cut : Cut pieces text (drop at text)
  pub is_within : at < length text

-- this comes of the text
unfoldable pub Reads : List ℕ → Reading → Type 0
Reads text (Tokens ts) = (pieces : List Piece) × Cut pieces text [] × (ts ≡ tokens_at 0 pieces)
Reads text (BadChar at) = IsCutTo text at × HasNone (drop at text) × ¬ IsOpen (drop at text)
Reads text (OpenText at) = IsCutTo text at × IsOpen (drop at text)

-- What follows for tokens

-- the bytes of a token of this text
abbrev pub slice_of : List ℕ → Token → List ℕ
slice_of text t = take t.len (drop t.at text)

-- the bytes of the token are a piece of its kind
abbrev pub IsSlice : List ℕ → Token → Type 0
IsSlice text t = IsPiece (Lexeme t.kind) (slice_of text t)

-- the tokens stand in their order between these places, and none begins before the one before it ends
abbrev pub AreSpans : ℕ → ℕ → List Token → Type 0
AreSpans from to [] = from ≤ to
AreSpans from to (t ∷ ts) = (from ≤ t.at) × (0 < t.len) × AreSpans (t.at + t.len) to ts
