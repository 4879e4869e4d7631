-- One thing alone comes of a text.
use Rattle.std.proofs.Common.{◌≡◌, ◌<◌, ◌⊎◌, inl, inr, ℕ, true, List, [], ◌∷◌, ◌++◌, length, drop, get_or, arith, refl, sym, ◌∙◌, ap}
use Rattle.std.proofs.lemmas.Bool.{false≢true}
use Rattle.std.proofs.lemmas.Bool.Decides.{nat_tests}
use Rattle.std.proofs.lemmas.List.{append-nil, length-drop}
use Rattle.volt_text.specs.declared.piece.PieceKind.{PieceKind}
use Rattle.volt_text.specs.declared.piece.PieceKind.TheVariants.{Blank, Comment, Lexeme}
use Rattle.volt_text.specs.declared.token.TokenKind.TheVariants.{Word, Number, Text, Sign}
use Rattle.volt_text.specs.Tokens.{Piece, IsPiece, Stands, HasNone, Cut, tokens_at, IsCutTo, Reads, Reading, Tokens, BadChar, OpenText}
use Rattle.volt_text.specs.Scan.{begins_comment}
use Rattle.volt_text.proofs.Pieces.{kind_is, piece_some, begins_comment-first, open_none}

-- Pieces

comment_only : (kind : PieceKind) (b : ℕ) (bs : List ℕ) → begins_comment (b ∷ bs) ≡ true → IsPiece kind (b ∷ bs) → kind ≡ Comment
comment_only Blank b bs c h = absurd (let first = begins_comment-first b bs c in grind (arith, nat_tests))
comment_only Comment b bs c h = refl
comment_only (Lexeme Word) b bs c h = absurd (let first = begins_comment-first b bs c in grind (arith, nat_tests))
comment_only (Lexeme Number) b bs c h = absurd (let first = begins_comment-first b bs c in grind (arith, nat_tests))
comment_only (Lexeme Text) b bs c h = absurd (let first : b ≡ 39 = ap (λ xs. get_or xs 0 0) (h.1) in omega (arith, begins_comment-first b bs c))
comment_only (Lexeme Sign) b [] c h = absurd (false≢true c)
comment_only (Lexeme Sign) b (x ∷ []) c h = absurd (grind (arith, nat_tests))
comment_only (Lexeme Sign) b (x ∷ y ∷ ys) c h = absurd (false≢true h)

one_kind : (kind other : PieceKind) (bytes : List ℕ) → IsPiece kind bytes → IsPiece other bytes → kind ≡ other
one_kind kind other [] h k = absurd (piece_some kind h)
one_kind kind other (b ∷ bs) h k = elim (kind_is kind b bs h) [
  | inl c ↦ comment_only kind b bs c h ∙ sym (comment_only other b bs c k)
  | inr from ↦ elim (kind_is other b bs k) [
    | inl c ↦ comment_only kind b bs c h ∙ sym (comment_only other b bs c k)
    | inr other_from ↦ sym from ∙ other_from
  ]
]

-- Of two prefixes of one text one is a prefix of the other.

pub record Extends (short long after rest : List ℕ) : Type 0 where
  pub more : List ℕ
  pub is_longer : long ≡ short ++ more
  pub is_rest : after ≡ more ++ rest

prefixes : (xs ys after rest : List ℕ) → xs ++ after ≡ ys ++ rest → Extends xs ys after rest ⊎ Extends ys xs rest after
prefixes [] ys after rest e = inl (record { more = ys; is_longer = refl; is_rest = e })
prefixes (x ∷ xs) [] after rest e = inr (record { more = x ∷ xs; is_longer = refl; is_rest = sym e })
prefixes (x ∷ xs) (y ∷ ys) after rest e =
    let first : x ≡ y = cc in
    let tail : xs ++ after ≡ ys ++ rest = cc in
    elim (prefixes xs ys after rest tail) [
      | inl k ↦ inl (record { more = k.more; is_longer = rw (first, k.is_longer) refl; is_rest = k.is_rest })
      | inr k ↦ inr (record { more = k.more; is_longer = rw (← first, k.is_longer) refl; is_rest = k.is_rest })
    ]

-- Where pieces stand

pub record Same (kind other : PieceKind) (bytes others after rest : List ℕ) : Type 0 where
  pub kinds : kind ≡ other
  pub pieces : bytes ≡ others
  pub rests : after ≡ rest

longest_once : (kind other : PieceKind) (bytes others after rest : List ℕ) → Stands kind bytes after → Stands other others rest → Extends bytes others after rest
    → Same kind other bytes others after rest
longest_once kind other bytes others after rest s t k =
    let none : k.more ≡ [] = s.is_longest other k.more rest k.is_rest (rw k.is_longer at t.is_piece) in
    let same : bytes ≡ others = sym (k.is_longer ∙ rw none (append-nil bytes)) in
    record {
      kinds = one_kind kind other others (rw same at s.is_piece) t.is_piece;
      pieces = same;
      rests = k.is_rest ∙ rw none refl;
    }

stands_once : (kind other : PieceKind) (bytes others after rest : List ℕ) → Stands kind bytes after → Stands other others rest → bytes ++ after ≡ others ++ rest
    → Same kind other bytes others after rest
stands_once kind other bytes others after rest s t e = elim (prefixes bytes others after rest e) [
  | inl k ↦ longest_once kind other bytes others after rest s t k
  | inr k ↦ let same = longest_once other kind others bytes rest after t s k in record { kinds = sym same.kinds; pieces = sym same.pieces; rests = sym same.rests }
]

none_at_end : (kind : PieceKind) (bytes after : List ℕ) → [] ≡ bytes ++ after → Stands kind bytes after → ⊥
none_at_end kind [] after e s = piece_some kind s.is_piece
none_at_end kind (b ∷ bs) after e s = absurd cc

abbrev piece : PieceKind → List ℕ → Piece
piece kind bytes = record { kind = kind; bytes = bytes }

cut_once : (ps qs : List Piece) (text rest end : List ℕ) → Cut ps text rest → Cut qs text end → HasNone rest → HasNone end → (ps ≡ qs) × (rest ≡ end)
cut_once [] [] text rest end c d none stop = (refl, sym c ∙ d)
cut_once [] (q ∷ qs) text rest end c (after, e, s, d) none stop = absurd (none q.kind q.bytes after (sym c ∙ e) s)
cut_once (p ∷ ps) [] text rest end (after, e, s, c) d none stop = absurd (stop p.kind p.bytes after (sym d ∙ e) s)
cut_once (p ∷ ps) (q ∷ qs) text rest end (after, e, s, c) (back, f, t, d) none stop =
    let same = stands_once p.kind q.kind p.bytes q.bytes after back s t (sym e ∙ f) in
    let more = cut_once ps qs back rest end (rw same.rests at c) d none stop in
    let first : p ≡ q = ap (λ k. piece k p.bytes) same.kinds ∙ ap (piece q.kind) same.pieces in
    (rw (first, more.0) refl, more.1)

-- Readings

same_place : (text : List ℕ) (a b : ℕ) → a < length text → b < length text → drop a text ≡ drop b text → a ≡ b
same_place text a b h k e = omega (arith, ap length e, length-drop a text, length-drop b text)

not_end : (text : List ℕ) (at : ℕ) → at < length text → [] ≡ drop at text → ⊥
not_end text at h e = absurd (omega (arith, ap length e, length-drop at text))

same_stop : (text : List ℕ) (a b : ℕ) (to : IsCutTo text a) (up : IsCutTo text b) → HasNone (drop a text) → HasNone (drop b text) → a ≡ b
same_stop text a b to up none stop =
    same_place text a b to.is_within up.is_within (cut_once to.pieces up.pieces text (drop a text) (drop b text) to.is_cut up.is_cut none stop).1

pub reads_once : (text : List ℕ) (a b : Reading) → Reads text a → Reads text b → a ≡ b
unfolding Reads
reads_once text (Tokens ts) (Tokens us) (ps, c, e) (qs, d, f) = ap Tokens (e ∙ ap (tokens_at 0) ((cut_once ps qs text [] [] c d none_at_end none_at_end).0) ∙ sym f)
reads_once text (Tokens ts) (BadChar b) (ps, c, e) (to, none, closed) = absurd (not_end text b to.is_within (cut_once ps to.pieces text [] (drop b text) c to.is_cut none_at_end none).1)
reads_once text (Tokens ts) (OpenText b) (ps, c, e) (to, quote) = absurd (not_end text b to.is_within (cut_once ps to.pieces text [] (drop b text) c to.is_cut none_at_end (open_none (drop b text) quote)).1)
reads_once text (BadChar a) (Tokens us) (to, none, closed) (qs, d, f) = absurd (not_end text a to.is_within (sym (cut_once to.pieces qs text (drop a text) [] to.is_cut d none none_at_end).1))
reads_once text (BadChar a) (BadChar b) (to, none, closed) (up, stop, ended) = ap BadChar (same_stop text a b to up none stop)
reads_once text (BadChar a) (OpenText b) (to, none, closed) (up, quote) =
    let same = same_stop text a b to up none (open_none (drop b text) quote) in
    absurd (closed (rw same quote))
reads_once text (OpenText a) (Tokens us) (to, quote) (qs, d, f) = absurd (not_end text a to.is_within (sym (cut_once to.pieces qs text (drop a text) [] to.is_cut d (open_none (drop a text) quote) none_at_end).1))
reads_once text (OpenText a) (BadChar b) (to, quote) (up, stop, ended) =
    let same = same_stop text a b to up (open_none (drop a text) quote) stop in
    absurd (ended (rw (← same) quote))
reads_once text (OpenText a) (OpenText b) (to, quote) (up, other) = ap OpenText (same_stop text a b to up (open_none (drop a text) quote) (open_none (drop b text) other))
