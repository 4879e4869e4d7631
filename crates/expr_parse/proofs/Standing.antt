-- The tokens of a text stand in it, and begin and end between characters.
use Rattle.std.proofs.Common.{◌≡◌, ◌<◌, ◌≤◌, ℕ, zero, suc, ◌+◌, ◌-◌, Bool, true, false, ◌&&◌, ◌||◌, List, [], ◌∷◌, length, drop, get_or, nat_lt, All, refl, ap, ◌∙◌, arith, length-append}
use Rattle.std.specs.List.{list_all, list_any}
use Rattle.std.specs.Prelude.{◌==◌, codes}
use Rattle.std.specs.Str.{IsUtf8}
use Rattle.std.proofs.lemmas.Str.{IsCharBoundary-before_ascii, IsCharBoundary-after_ascii}
use Rattle.std.proofs.lemmas.List.{get_or-take, get_or-drop, length-drop, length-take}
use Rattle.std.proofs.lemmas.List.Sums.{AllPass-from_list_all}
use Rattle.std.proofs.lemmas.Bool.{eqb-true}
use Rattle.std.proofs.lemmas.Bool.Decides.{leb_tells}
use Rattle.std.proofs.Math.Seq.{get_or-append_seam}
use borrow.Author.Tests.{ltb-true}
use Rattle.sql_grammar.proofs.Lists.{both}
use Rattle.volt_text.specs.declared.piece.PieceKind.TheVariants.{Lexeme}
use Rattle.volt_text.specs.declared.token.Token.{Token}
use Rattle.volt_text.specs.declared.token.TokenKind.{TokenKind}
use Rattle.volt_text.specs.declared.token.TokenKind.TheVariants as t
use Rattle.volt_text.specs.Tokens.{Reads, Tokens, IsPiece, AreSpans, slice_of, is_word_byte, is_letter, is_single, is_pair, quoted, doubled}
use Rattle.std.specs.Char.{is_ascii_digit}
use Rattle.volt_text.proofs.Spans.{spans, slices}
use Rattle.expr_parse.specs.Cursor.{Stands}

ends_on : (a b : ℕ) (us : List Token) → AreSpans a b us → a ≤ b
ends_on a b [] s = s
ends_on a b (u ∷ us) (x, y, z) = let w : u.at + u.len ≤ b = ends_on (u.at + u.len) b us z in omega (arith, x)

span_at : (from to : ℕ) (ts : List Token) (k : ℕ) (d : Token) → AreSpans from to ts → k < length ts → (0 < (get_or ts k d).len) × ((get_or ts k d).at + (get_or ts k d).len ≤ to)
span_at from to [] k d s lt = absurd (omega (arith, lt))
span_at from to (x ∷ ts) zero d (after, some, rest) lt = (some, ends_on (x.at + x.len) to ts rest)
span_at from to (x ∷ ts) (suc k) d (after, some, rest) lt = span_at (x.at + x.len) to ts k d rest (omega (arith, lt))

few_in : (from to : ℕ) (ts : List Token) → from ≤ to → AreSpans from to ts → length ts + from ≤ to
few_in from to [] h s = omega arith
few_in from to (x ∷ ts) h (after, some, rest) =
    let more : length ts + (x.at + x.len) ≤ to = few_in (x.at + x.len) to ts (ends_on (x.at + x.len) to ts rest) rest in omega arith

pub few : (text : List ℕ) (ts : List Token) → Reads text (Tokens ts) → length ts ≤ length text
few text ts r = let h : length ts + 0 ≤ length text = few_in 0 (length text) ts (omega arith) (spans text ts r) in omega arith

-- the first and the last byte of a token are ASCII
abbrev Ends : List ℕ → Type 0
Ends bytes = (get_or bytes 0 0 < 128) × (get_or bytes (length bytes - 1) 0 < 128)

all_ends : (p : ℕ → Bool) → ((b : ℕ) → p b ≡ true → b < 128) → (bytes : List ℕ) → 0 < length bytes → list_all p bytes ≡ true → Ends bytes
all_ends p small bytes some e =
    (small (get_or bytes 0 0) (AllPass-from_list_all p bytes e 0 0 some), small (get_or bytes (length bytes - 1) 0) (AllPass-from_list_all p bytes e (length bytes - 1) 0 (omega arith)))

or_true : (a b : Bool) → (a || b) ≡ true → (a ≡ true → b ≡ true → b ≡ true) → (P : Type 0) → (a ≡ true → P) → (b ≡ true → P) → P
or_true true b e h P f g = f refl
or_true false b e h P f g = g e

digit_small : (b : ℕ) → is_ascii_digit b ≡ true → b < 128
digit_small b e = grind (arith, leb_tells, e)

letter_small : (b : ℕ) → is_letter b ≡ true → b < 128
letter_small b e = grind (arith, leb_tells, e)

word_small : (b : ℕ) → is_word_byte b ≡ true → b < 128
word_small b e = or_true (is_letter b) (is_ascii_digit b) e (λ x y. y) (b < 128) (letter_small b) (digit_small b)

any_small : (b : ℕ) (cs : List ℕ) → list_all (λ c. nat_lt c 128) cs ≡ true → list_any (λ c. c == b) cs ≡ true → b < 128
any_small b [] all any = absurd cc
any_small b (c ∷ cs) all any =
    or_true (c == b) (list_any (λ x. x == b) cs) any (λ x y. y) (b < 128) (λ e. let is : c ≡ b = eqb-true c b e in let s : c < 128 = ltb-true c 128 (both all).0 in omega arith) (any_small b cs (both all).1)

single_small : (b : ℕ) → is_single b ≡ true → b < 128
single_small b e = any_small b (codes "(),;.*+-/=<>?:") refl e

first_small : (b : ℕ) → (b == 33 || b == 60 || b == 62) ≡ true → b < 128
first_small b e =
    or_true (b == 33 || b == 60) (b == 62) e (λ x y. y) (b < 128)
    (λ h. or_true (b == 33) (b == 60) h (λ x y. y) (b < 128) (λ g. let x : b ≡ 33 = eqb-true b 33 g in omega arith) (λ g. let x : b ≡ 60 = eqb-true b 60 g in omega arith))
    (λ h. let x : b ≡ 62 = eqb-true b 62 h in omega arith)

pair_small : (b c : ℕ) → is_pair b c ≡ true → (b < 128) × (c < 128)
pair_small b c e =
    or_true (b == 60 && c == 62) (c == 61 && (b == 33 || b == 60 || b == 62)) e (λ x y. y) ((b < 128) × (c < 128))
    (λ h. let x : b ≡ 60 = eqb-true b 60 (both h).0 in let y : c ≡ 62 = eqb-true c 62 (both h).1 in (omega arith, omega arith))
    (λ h. let y : c ≡ 61 = eqb-true c 61 (both h).0 in let x : b < 128 = first_small b (both h).1 in (x, omega arith))

quoted_ends : (inner : List ℕ) → Ends (quoted inner)
quoted_ends inner =
    let place : length (quoted inner) - 1 ≡ length (39 ∷ doubled inner) = omega (arith, length-append (doubled inner) (39 ∷ [])) in
    let last : get_or (quoted inner) (length (39 ∷ doubled inner)) 0 ≡ 39 = get_or-append_seam (39 ∷ doubled inner) 39 [] 0 in
    let is : get_or (quoted inner) (length (quoted inner) - 1) 0 ≡ 39 = ap (λ k. get_or (quoted inner) k 0) place ∙ last in
    (omega arith, omega (arith, is))

piece_ends : (kind : TokenKind) (bytes : List ℕ) → IsPiece (Lexeme kind) bytes → 0 < length bytes → Ends bytes
piece_ends t.Word bytes h some = all_ends is_word_byte word_small bytes some (both h).1
piece_ends t.Number bytes h some = all_ends is_ascii_digit digit_small bytes some (both h).1
piece_ends t.Text bytes (inner, e, plain) some = rw e (quoted_ends inner)
piece_ends t.Sign [] h some = absurd cc
piece_ends t.Sign (b ∷ []) h some = (single_small b h, single_small b h)
piece_ends t.Sign (b ∷ c ∷ []) h some = ((pair_small b c h).0, (pair_small b c h).1)
piece_ends t.Sign (b ∷ c ∷ d ∷ bs) h some = absurd cc

stands_one : (text : List ℕ) (x : Token) → IsUtf8 text → x.at + x.len ≤ length text → 0 < x.len → Ends (slice_of text x) → Stands text x
stands_one text x utf8 within some (first, last) =
    let size : length (slice_of text x) ≡ x.len = omega (arith, length-take x.len (drop x.at text), length-drop x.at text) in
    let prefix : get_or (slice_of text x) 0 0 ≡ get_or text (x.at + 0) 0 = get_or-take x.len (drop x.at text) 0 0 some ∙ get_or-drop x.at text 0 0 in
    let back : get_or (slice_of text x) (x.len - 1) 0 ≡ get_or text (x.at + (x.len - 1)) 0 = get_or-take x.len (drop x.at text) (x.len - 1) 0 (omega arith) ∙ get_or-drop x.at text (x.len - 1) 0 in
    let place : x.at + (x.len - 1) + 1 ≡ x.at + x.len = omega arith in
    let zero_on : x.at + 0 ≡ x.at = omega arith in
    let low : get_or text x.at 0 < 128 = rw (prefix, zero_on) at first in
    let high : get_or text (x.at + (x.len - 1)) 0 < 128 = rw (size, back) at last in (
      IsCharBoundary-before_ascii text x.at (omega arith) low,
      rw place at (IsCharBoundary-after_ascii text (x.at + (x.len - 1)) utf8 (omega arith) high),
    )

pub standing : (text : List ℕ) (ts : List Token) → IsUtf8 text → Reads text (Tokens ts) → All (Stands text) ts
standing text ts utf8 r k d lt =
    let span = span_at 0 (length text) ts k d (spans text ts r) lt in
    let x = get_or ts k d in
    let size : length (slice_of text x) ≡ x.len = omega (arith, length-take x.len (drop x.at text), length-drop x.at text, span.1) in
    stands_one text x utf8 span.1 span.0 (piece_ends x.kind (slice_of text x) (slices text ts r k d lt) (omega (arith, span.0)))
