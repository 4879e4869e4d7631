-- The tokens of a text are slices of it, one behind another.
use Rattle.std.proofs.Common.{◌≡◌, ◌<◌, ◌≤◌, ℕ, ◌+◌, List, [], ◌∷◌, ◌++◌, length, take, drop, All, arith, refl, sym, ◌∙◌, ap}
use Rattle.std.proofs.lemmas.List.{length-append, drop-drop, take_at, drop_at}
use Rattle.std.proofs.lemmas.List.Elements.{All-from_recursion}
use Rattle.std.specs.List.{AllByRecursion}
use Rattle.volt_text.specs.declared.piece.PieceKind.{PieceKind}
use Rattle.volt_text.specs.declared.piece.PieceKind.TheVariants.{Blank, Comment, Lexeme}
use Rattle.volt_text.specs.declared.token.Token.{Token}
use Rattle.volt_text.specs.Tokens.{Piece, IsPiece, Cut, token_before, tokens_at, Reads, Tokens, IsSlice, AreSpans}
use Rattle.volt_text.proofs.Pieces.{piece_some}

spans_from : (a b to : ℕ) (ts : List Token) → a ≤ b → AreSpans b to ts → AreSpans a to ts
spans_from a b to [] h s = omega arith
spans_from a b to (t ∷ ts) h s = (omega (arith, s.0), s.1, s.2)

bytes_some : (kind : PieceKind) (bytes : List ℕ) → IsPiece kind bytes → 0 < length bytes
bytes_some kind [] h = absurd (piece_some kind h)
bytes_some kind (b ∷ bs) h = omega arith

spans_before : (at len to : ℕ) (kind : PieceKind) (ts : List Token) → 0 < len → AreSpans (at + len) to ts → AreSpans at to (token_before at kind len ts)
spans_before at len to Blank ts some s = spans_from at (at + len) to ts (omega arith) s
spans_before at len to Comment ts some s = spans_from at (at + len) to ts (omega arith) s
spans_before at len to (Lexeme kind) ts some s = (omega arith, some, s)

spans_of : (ps : List Piece) (text : List ℕ) (at to : ℕ) → Cut ps text [] → at + length text ≡ to → AreSpans at to (tokens_at at ps)
spans_of [] text at to cut e = omega arith
spans_of (p ∷ ps) text at to (after, f, s, cut) e =
    spans_before at (length p.bytes) to p.kind (tokens_at (at + length p.bytes) ps) (bytes_some p.kind p.bytes s.is_piece)
    (spans_of ps after (at + length p.bytes) to cut (omega (arith, ap length f, length-append p.bytes after)))

pub spans : (text : List ℕ) (tokens : List Token) → Reads text (Tokens tokens) → AreSpans 0 (length text) tokens
unfolding Reads
spans text tokens (ps, cut, e) = rw e (spans_of ps text 0 (length text) cut (omega arith))

slices_before : (text : List ℕ) (at len : ℕ) (kind : PieceKind) (ts : List Token) → IsPiece kind (take len (drop at text)) → AllByRecursion (IsSlice text) ts
    → AllByRecursion (IsSlice text) (token_before at kind len ts)
slices_before text at len Blank ts piece h = h
slices_before text at len Comment ts piece h = h
slices_before text at len (Lexeme kind) ts piece h = (piece, h)

slices_of : (ps : List Piece) (text rest : List ℕ) (at : ℕ) → Cut ps rest [] → drop at text ≡ rest → AllByRecursion (IsSlice text) (tokens_at at ps)
slices_of [] text rest at cut e = tt
slices_of (p ∷ ps) text rest at (after, f, s, cut) e =
    let is : drop at text ≡ p.bytes ++ after = e ∙ f in
    let prefix : take (length p.bytes) (drop at text) ≡ p.bytes = rw is (take_at p.bytes after (length p.bytes) refl) in
    let back : drop (at + length p.bytes) text ≡ after = sym (drop-drop (length p.bytes) at text) ∙ (rw is (drop_at p.bytes after (length p.bytes) refl)) in
    slices_before text at (length p.bytes) p.kind (tokens_at (at + length p.bytes) ps) (rw prefix s.is_piece)
    (slices_of ps text after (at + length p.bytes) cut back)

pub slices : (text : List ℕ) (tokens : List Token) → Reads text (Tokens tokens) → All (IsSlice text) tokens
unfolding Reads
slices text tokens (ps, cut, e) = rw e (All-from_recursion (IsSlice text) (tokens_at 0 ps) (slices_of ps text text 0 cut refl))
