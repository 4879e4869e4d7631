-- Something comes of each text.
use Rattle.std.proofs.Common.{◌≡◌, ◌<◌, ◌≤◌, inl, inr, ℕ, zero, suc, ◌+◌, Bool, true, false, List, [], ◌∷◌, length, drop, get_or, arith, refl, sym}
use Rattle.std.proofs.lemmas.Bool.{cases_Bool, cases_lt, eqb-true}
use Rattle.std.proofs.lemmas.Bool.Decides.{nat_tests}
use Rattle.std.proofs.lemmas.List.{drop_more, drop_all, length-drop}
use Rattle.std.specs.Char.{is_ascii_digit}
use Rattle.volt_text.specs.declared.piece.PieceKind.{PieceKind}
use Rattle.volt_text.specs.declared.token.Token.{Token}
use Rattle.volt_text.specs.Tokens.{is_blank, is_letter, is_quote, begins, HasNone, IsOpen, Reads, Reading, Tokens, BadChar, OpenText}
use Rattle.volt_text.specs.Scan.{IsClosed, begins_comment, sign_len}
use Rattle.volt_text.proofs.Cuts.{IsRead, read_none, read_more, read_all, read_to}
use Rattle.volt_text.proofs.Pieces.{PrefixIs, blank_prefix, word_prefix, number_prefix, comment_prefix, closed_prefix, closed_none, sign_prefix, sign_none}
use Rattle.volt_text.proofs.QuotedTexts.{IsScanned, scan_start, scan_byte, scan_quote, scan_closed, scan_open}

-- what a quote begins
data Quotes (text : List ℕ) : Type 0 where
  closed : (len : ℕ) (is_plain : Bool) → IsClosed text len is_plain → Quotes text
  never : IsOpen text → Quotes text

next_quote : (text : List ℕ) (at : ℕ) → begins is_quote (drop (at + 1) text) ≡ true → (at + 1 < length text) × (get_or text (at + 1) 0 ≡ 39)
next_quote text at h = elim (cases_lt (at + 1) (length text)) [
  | inl lt ↦ (lt, let q = rw (drop_more text (at + 1) 0 lt) at h in grind (arith, nat_tests))
  | inr le ↦ absurd (let q = rw (drop_all (at + 1) text le) at h in cc)
]

scan : (fuel : ℕ) (text : List ℕ) (at : ℕ) (is_plain : Bool) → length text ≤ at + fuel → IsScanned text at is_plain → Quotes text
scan zero text at is_plain enough s = never (scan_open text at is_plain s (omega arith))
scan (suc fuel) text at is_plain enough s = elim (cases_lt at (length text)) [
  | inr le ↦ never (scan_open text at is_plain s le)
  | inl lt ↦ elim (cases_Bool (is_quote (get_or text at 0))) [
    | inr other ↦ scan fuel text (at + 1) _ (omega arith) (scan_byte text at (get_or text at 0) is_plain s lt refl other)
    | inl is ↦ elim (cases_Bool (begins is_quote (drop (at + 1) text))) [
      | inl twice ↦
          let next = next_quote text at twice in
          scan fuel text (at + 2) is_plain (omega arith) (scan_quote text at is_plain s next.0 (eqb-true (get_or text at 0) 39 is) next.1)
      | inr once ↦ closed (at + 1) is_plain (scan_closed text at is_plain s lt (eqb-true (get_or text at 0) 39 is) once)
    ]
  ]
]

-- what stands at the beginning of a text
data FirstPiece (text : List ℕ) : Type 0 where
  some : (kind : PieceKind) (len : ℕ) → PrefixIs text kind len → FirstPiece text
  bad : HasNone text → ¬ IsOpen text → FirstPiece text
  opened : IsOpen text → FirstPiece text

quoted_piece : (text : List ℕ) → Quotes text → FirstPiece text
quoted_piece text (closed len true c) = some _ len (closed_prefix text len c)
quoted_piece text (closed len false c) = let none = closed_none text len c in bad none.0 none.1
quoted_piece text (never o) = opened o

first_quote : (text : List ℕ) → is_quote (get_or text 0 0) ≡ true → begins is_quote text ≡ true
first_quote [] h = absurd cc
first_quote (b ∷ bs) h = h

sign_or_none : (text : List ℕ) (len : ℕ) → len ≡ sign_len text → is_letter (get_or text 0 0) ≡ false → is_blank (get_or text 0 0) ≡ false → is_ascii_digit (get_or text 0 0) ≡ false
    → is_quote (get_or text 0 0) ≡ false → begins_comment text ≡ false → FirstPiece text
sign_or_none text zero e letter blank digit quote comment =
    let none = sign_none text letter blank digit (grind (arith, nat_tests)) comment (sym e) in bad none.0 none.1
sign_or_none text (suc n) e letter blank digit quote comment = some _ (suc n) (sign_prefix text (suc n) e (λ z. absurd cc) comment)

first_piece-of : (text : List ℕ) → 0 < length text → FirstPiece text
first_piece-of text h = elim (cases_Bool (is_letter (get_or text 0 0))) [
  | inl letter ↦ some _ _ (word_prefix text h letter)
  | inr no_letter ↦ elim (cases_Bool (is_blank (get_or text 0 0))) [
    | inl blank ↦ some _ _ (blank_prefix text h blank)
    | inr no_blank ↦ elim (cases_Bool (is_ascii_digit (get_or text 0 0))) [
      | inl digit ↦ some _ _ (number_prefix text h digit)
      | inr no_digit ↦ elim (cases_Bool (is_quote (get_or text 0 0))) [
        | inl quote ↦ quoted_piece text (scan (length text) text 1 true (omega arith) (scan_start text (first_quote text quote)))
        | inr no_quote ↦ elim (cases_Bool (begins_comment text)) [
          | inl comment ↦ some _ _ (comment_prefix text comment)
          | inr no_comment ↦ sign_or_none text (sign_len text) refl no_letter no_blank no_digit no_quote no_comment
        ]
      ]
    ]
  ]
]

abbrev Some : List ℕ → Type 0
Some text = (r : Reading) × Reads text r

go : (fuel : ℕ) (text : List ℕ) (at : ℕ) (ts : List Token) → length text ≤ at + fuel → IsRead text at ts → Some text
unfolding Reads
go zero text at ts enough r = (Tokens ts, read_all text at ts r (omega arith))
go (suc fuel) text at ts enough r = elim (cases_lt at (length text)) [
  | inr le ↦ (Tokens ts, read_all text at ts r le)
  | inl lt ↦ elim (first_piece-of (drop at text) (omega (arith, length-drop at text))) [
    | some kind len f ↦ go fuel text (at + len) _ (let one = f.0 in omega arith) (read_more text at len kind ts _ r lt f.1 f.2 refl)
    | bad none ended ↦ (BadChar at, (read_to text at ts r lt, none, ended))
    | opened o ↦ (OpenText at, (read_to text at ts r lt, o))
  ]
]

pub reads_some : (text : List ℕ) → (r : Reading) × Reads text r
reads_some text = go (length text) text 0 [] (omega arith) (read_none text)
