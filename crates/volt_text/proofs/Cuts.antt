-- Cuts of a text into pieces, one more piece at their end.
use Rattle.std.proofs.Common.{zero-add, ◌≡◌, ◌<◌, ◌≤◌, ℕ, ◌+◌, List, [], ◌∷◌, ◌++◌, length, take, drop, arith, refl, ◌∙◌}
use Rattle.std.proofs.lemmas.List.{take-append-drop, length-take-le, length-drop, drop-drop, drop_all}
use Rattle.volt_text.specs.declared.piece.PieceKind.{PieceKind}
use Rattle.volt_text.specs.declared.piece.PieceKind.TheVariants.{Blank, Comment, Lexeme}
use Rattle.volt_text.specs.declared.token.Token.{Token}
use Rattle.volt_text.specs.Tokens.{Piece, Stands, Cut, token_before, tokens_at, IsCutTo, Reads, Tokens}

-- how many bytes the pieces have
abbrev pub size : List Piece → ℕ
size [] = 0
size (p ∷ ps) = length p.bytes + size ps

cut_push : (ps : List Piece) (text : List ℕ) (kind : PieceKind) (bytes after : List ℕ) → Cut ps text (bytes ++ after) → Stands kind bytes after
    → Cut (ps ++ record { kind = kind; bytes = bytes } ∷ []) text after
cut_push [] text kind bytes after h s = (after, h, s, refl)
cut_push (p ∷ ps) text kind bytes after (more, e, stands, cut) s = (more, e, stands, cut_push ps more kind bytes after cut s)

token_before-append : (at : ℕ) (kind : PieceKind) (len : ℕ) (ts us : List Token) → token_before at kind len (ts ++ us) ≡ token_before at kind len ts ++ us
token_before-append at Blank len ts us = refl
token_before-append at Comment len ts us = refl
token_before-append at (Lexeme kind) len ts us = refl

tokens_at-push : (at : ℕ) (ps : List Piece) (p : Piece) → tokens_at at (ps ++ p ∷ []) ≡ tokens_at at ps ++ token_before (at + size ps) p.kind (length p.bytes) []
tokens_at-push at [] p = let e : at + 0 ≡ at = omega arith in rw e refl
tokens_at-push at (q ∷ ps) p =
    let e : at + length q.bytes + size ps ≡ at + (length q.bytes + size ps) = omega arith in
    rw (tokens_at-push (at + length q.bytes) ps p, token_before-append at q.kind (length q.bytes), e) refl

-- the text is cut up to this place, and these are its tokens so far
pub record IsRead (text : List ℕ) (at : ℕ) (tokens : List Token) : Type 0 where
  pub pieces : List Piece
  pub is_cut : Cut pieces text (drop at text)
  pub is_place : size pieces ≡ at
  pub are_tokens : tokens ≡ tokens_at 0 pieces
  pub is_within : at ≤ length text

pub read_none : (text : List ℕ) → IsRead text 0 []
read_none text = record { pieces = []; is_cut = refl; is_place = refl; are_tokens = refl; is_within = omega arith }

size-push : (ps : List Piece) (p : Piece) → size (ps ++ p ∷ []) ≡ size ps + length p.bytes
size-push [] p = omega arith
size-push (q ∷ ps) p = omega (arith, size-push ps p)

pub read_more : (text : List ℕ) (at len : ℕ) (kind : PieceKind) (ts us : List Token) → IsRead text at ts → at < length text → len ≤ length (drop at text)
    → Stands kind (take len (drop at text)) (drop len (drop at text)) → us ≡ ts ++ token_before at kind len [] → IsRead text (at + len) us
read_more text at len kind ts us r lt le s e =
    let bytes = take len (drop at text) in
    let size_is : length bytes ≡ len = length-take-le len (drop at text) le in
    let back : bytes ++ drop len (drop at text) ≡ drop at text = take-append-drop len (drop at text) in
    let cut : Cut r.pieces text (bytes ++ drop len (drop at text)) = rw back r.is_cut in
    let next : drop len (drop at text) ≡ drop (at + len) text = drop-drop len at text in
    record {
      pieces = r.pieces ++ record { kind = kind; bytes = bytes } ∷ [];
      is_cut = rw (← next) (cut_push r.pieces text kind bytes (drop len (drop at text)) cut s);
      is_place = rw (size-push r.pieces (record { kind = kind; bytes = bytes }), size_is, r.is_place) refl;
      are_tokens = e ∙ rw (tokens_at-push 0 r.pieces (record { kind = kind; bytes = bytes }), size_is, r.is_place, r.are_tokens, zero-add at) refl;
      is_within = omega (arith, length-drop at text);
    }

pub read_all : (text : List ℕ) (at : ℕ) (ts : List Token) → IsRead text at ts → length text ≤ at → Reads text (Tokens ts)
unfolding Reads
read_all text at ts r h = let none : drop at text ≡ [] = drop_all at text h in (r.pieces, rw none at r.is_cut, r.are_tokens)

pub read_to : (text : List ℕ) (at : ℕ) (ts : List Token) → IsRead text at ts → at < length text → IsCutTo text at
read_to text at ts r h = record { pieces = r.pieces; is_cut = r.is_cut; is_within = h }
