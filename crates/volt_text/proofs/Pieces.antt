-- What pieces begin with, and which are the longest.
use Rattle.std.proofs.Common.{◌≡◌, ◌<◌, ◌≤◌, ◌⊎◌, inl, inr, ℕ, ◌+◌, Bool, true, false, cond, List, [], ◌∷◌, ◌++◌, length, take, drop, get_or, arith, refl, sym, ◌∙◌, ap, subst, zero, suc, IsTrue}
use Rattle.std.proofs.lemmas.Bool.{false≢true, cases_Bool}
use Rattle.std.proofs.lemmas.Bool.Decides.{nat_tests}
use Rattle.std.proofs.lemmas.List.{append_assoc, take-append-drop}
use Rattle.std.specs.Char.{is_ascii_digit}
use Rattle.std.specs.List.{list_all, prefix_len}
use Rattle.volt_text.specs.declared.piece.PieceKind.{PieceKind}
use Rattle.volt_text.specs.declared.piece.PieceKind.TheVariants.{Blank, Comment, Lexeme}
use Rattle.volt_text.specs.declared.token.TokenKind.TheVariants.{Word, Number, Text, Sign}
use Rattle.volt_text.specs.Tokens.{is_blank, is_letter, is_word_byte, is_quote, is_single, is_pair, is_sign, may_be_quoted, begins, is_in_line, doubled, quoted, IsPiece, Stands, HasNone, IsOpen}
use Rattle.volt_text.specs.Scan.{IsClosed, begins_comment, sign_len}
use Rattle.volt_text.proofs.QuotedTexts.{ends_once}
use Rattle.volt_text.proofs.Runs.{run, one_more}

-- the kind of a piece that begins with this byte, where it is no comment
abbrev pub kind_from : ℕ → PieceKind
kind_from b = cond (is_blank b) Blank (cond (is_letter b) (Lexeme Word) (cond (is_ascii_digit b) (Lexeme Number) (cond (is_quote b) (Lexeme Text) (Lexeme Sign))))

single-kind : (b : ℕ) → is_single b ≡ true → kind_from b ≡ Lexeme Sign
single-kind b h = grind (arith, nat_tests)

pair-kind : (b c : ℕ) → is_pair b c ≡ true → kind_from b ≡ Lexeme Sign
pair-kind b c h = grind (arith, nat_tests)

-- a piece is a comment, or of the kind that its first byte tells
pub kind_is : (kind : PieceKind) (b : ℕ) (bs : List ℕ) → IsPiece kind (b ∷ bs) → (begins_comment (b ∷ bs) ≡ true) ⊎ (kind_from b ≡ kind)
kind_is Blank b bs h = inr (grind (arith, nat_tests))
kind_is Comment b [] h = absurd cc
kind_is Comment b (c ∷ cs) h = inl (grind (arith, nat_tests))
kind_is (Lexeme Word) b bs h = inr (grind (arith, nat_tests))
kind_is (Lexeme Number) b bs h = inr (grind (arith, nat_tests))
kind_is (Lexeme Text) b bs h = inr (let first : b ≡ 39 = cc (h.1) in rw first refl)
kind_is (Lexeme Sign) b [] h = inr (single-kind b h)
kind_is (Lexeme Sign) b (c ∷ []) h = inr (pair-kind b c h)
kind_is (Lexeme Sign) b (c ∷ d ∷ ds) h = absurd cc

pub begins_comment-first : (b : ℕ) (bs : List ℕ) → begins_comment (b ∷ bs) ≡ true → b ≡ 45
begins_comment-first b [] h = absurd cc
begins_comment-first b (c ∷ cs) h = grind (arith, nat_tests)

-- the piece of this kind and length stands at the beginning of the text
abbrev pub PrefixIs : List ℕ → PieceKind → ℕ → Type 0
PrefixIs text kind len = (0 < len) × (len ≤ length text) × Stands kind (take len text) (drop len text)

list_all-after : (p : ℕ → Bool) (xs : List ℕ) (m : ℕ) (ms : List ℕ) → list_all p (xs ++ m ∷ ms) ≡ true → p m ≡ true
list_all-after p [] m ms h = grind arith
list_all-after p (x ∷ xs) m ms h = grind (arith, list_all-after p xs m ms)

-- no byte more belongs to a run, where none that follows it passes
run_longest : (kind : PieceKind) (p : ℕ → Bool) (b : ℕ) (bs after : List ℕ) → kind_from b ≡ kind → (b ≡ 45 → ⊥)
    → ((xs : List ℕ) → IsPiece kind xs → list_all p xs ≡ true) → begins p after ≡ false
    → (other : PieceKind) (more rest : List ℕ) → after ≡ more ++ rest → IsPiece other (b ∷ (bs ++ more)) → more ≡ []
run_longest kind p b bs after from hyphen only stops other [] rest e h = refl
run_longest kind p b bs after from hyphen only stops other (m ∷ ms) rest e h =
    let no : p m ≡ false = rw e at stops in
    elim (kind_is other b (bs ++ m ∷ ms) h) [
      | inl c ↦ absurd (hyphen (begins_comment-first b (bs ++ m ∷ ms) c))
      | inr k ↦
          let piece = subst (λ (o : PieceKind). IsPiece o (b ∷ (bs ++ m ∷ ms))) (sym k ∙ from) h in
          let yes = list_all-after p (b ∷ bs) m ms (only (b ∷ (bs ++ m ∷ ms)) piece) in
          absurd cc
    ]

-- the run at the beginning of the text is the piece that stands there
run_prefix : (kind : PieceKind) (p : ℕ → Bool) (b : ℕ) (bs : List ℕ) → p b ≡ true → kind_from b ≡ kind → (b ≡ 45 → ⊥) → (kind ≡ Lexeme Text → ⊥)
    → ((xs : List ℕ) → IsPiece kind xs → list_all p xs ≡ true) → ((xs : List ℕ) → list_all p (b ∷ xs) ≡ true → IsPiece kind (b ∷ xs))
    → PrefixIs (b ∷ bs) kind (prefix_len p (b ∷ bs))
run_prefix kind p b bs first from hyphen text only made =
    let r = run p bs in
    rw (first, one_more) (
      omega arith,
      omega (arith, r.within),
      record {
        is_piece = made (take (prefix_len p bs) bs) (rw first r.all);
        is_longest = run_longest kind p b (take (prefix_len p bs) bs) (drop (prefix_len p bs) bs) from hyphen only r.stops;
        is_ended = λ e. absurd (text e);
      },
    )

pub blank_prefix : (text : List ℕ) → 0 < length text → is_blank (get_or text 0 0) ≡ true → PrefixIs text Blank (prefix_len is_blank text)
blank_prefix [] some h = absurd (omega arith)
blank_prefix (b ∷ bs) some h = run_prefix Blank is_blank b bs h (grind (arith, nat_tests)) (grind (arith, nat_tests)) (λ e. cc) (λ xs k. grind (arith, nat_tests)) (λ xs k. grind (arith, nat_tests))

pub word_prefix : (text : List ℕ) → 0 < length text → is_letter (get_or text 0 0) ≡ true → PrefixIs text (Lexeme Word) (prefix_len is_word_byte text)
word_prefix [] some h = absurd (omega arith)
word_prefix (b ∷ bs) some h = run_prefix (Lexeme Word) is_word_byte b bs (grind (arith, nat_tests)) (grind (arith, nat_tests)) (grind (arith, nat_tests)) (λ e. cc) (λ xs k. grind (arith, nat_tests)) (λ xs k. grind (arith, nat_tests))

pub number_prefix : (text : List ℕ) → 0 < length text → is_ascii_digit (get_or text 0 0) ≡ true → PrefixIs text (Lexeme Number) (prefix_len is_ascii_digit text)
number_prefix [] some h = absurd (omega arith)
number_prefix (b ∷ bs) some h = run_prefix (Lexeme Number) is_ascii_digit b bs h (grind (arith, nat_tests)) (grind (arith, nat_tests)) (λ e. cc) (λ xs k. grind (arith, nat_tests)) (λ xs k. grind (arith, nat_tests))

-- Comments

comment_longest : (line after : List ℕ) → begins is_in_line after ≡ false
    → (other : PieceKind) (more rest : List ℕ) → after ≡ more ++ rest → IsPiece other (45 ∷ 45 ∷ (line ++ more)) → more ≡ []
comment_longest line after stops other [] rest e h = refl
comment_longest line after stops Blank (m ∷ ms) rest e h = absurd cc
comment_longest line after stops Comment (m ∷ ms) rest e h =
    let no : is_in_line m ≡ false = rw e at stops in
    let yes = list_all-after is_in_line line m ms h in
    absurd cc
comment_longest line after stops (Lexeme Word) (m ∷ ms) rest e h = absurd cc
comment_longest line after stops (Lexeme Number) (m ∷ ms) rest e h = absurd cc
comment_longest line after stops (Lexeme Text) (m ∷ ms) rest e h = absurd (let no : 45 ≡ 39 = ap (λ xs. get_or xs 0 0) (h.1) in omega arith)
comment_longest [] after stops (Lexeme Sign) (m ∷ ms) rest e h = absurd cc
comment_longest (l ∷ ls) after stops (Lexeme Sign) (m ∷ ms) rest e h = absurd cc

comment_prefix_by : (line : List ℕ) → PrefixIs (45 ∷ 45 ∷ line) Comment (1 + (1 + prefix_len is_in_line line))
comment_prefix_by line =
    let r = run is_in_line line in
    rw (one_more (1 + prefix_len is_in_line line), one_more (prefix_len is_in_line line)) (
      omega arith,
      omega (arith, r.within),
      record {
        is_piece = r.all;
        is_longest = comment_longest (take (prefix_len is_in_line line) line) (drop (prefix_len is_in_line line) line) r.stops;
        is_ended = λ e. absurd cc;
      },
    )

pub comment_prefix : (text : List ℕ) → begins_comment text ≡ true → PrefixIs text Comment (prefix_len is_in_line text)
comment_prefix [] h = absurd cc
comment_prefix (b ∷ []) h = absurd cc
comment_prefix (b ∷ c ∷ line) h =
    let first : b ≡ 45 = grind (arith, nat_tests) in
    let second : c ≡ 45 = grind (arith, nat_tests) in
    rw (first, second) (comment_prefix_by line)

-- Quoted texts

pub piece_some : (kind : PieceKind) → IsPiece kind [] → ⊥
piece_some Blank h = absurd cc
piece_some Comment h = absurd cc
piece_some (Lexeme Word) h = absurd cc
piece_some (Lexeme Number) h = absurd cc
piece_some (Lexeme Text) h = absurd (cc (h.1))
piece_some (Lexeme Sign) h = absurd cc

text_only : (kind : PieceKind) (b : ℕ) (bs : List ℕ) → b ≡ 39 → IsPiece kind (b ∷ bs) → kind ≡ Lexeme Text
text_only kind b bs e h = elim (kind_is kind b bs h) [
  | inl c ↦ absurd (omega (arith, begins_comment-first b bs c))
  | inr k ↦ sym k ∙ ap kind_from e
]

text_longest : (inner after : List ℕ) → begins is_quote after ≡ false
    → (other : PieceKind) (more rest : List ℕ) → after ≡ more ++ rest → IsPiece other (quoted inner ++ more) → more ≡ []
text_longest inner after stops other [] rest e h = refl
text_longest inner after stops other (m ∷ ms) rest e h =
    let kind = text_only other 39 ((doubled inner ++ 39 ∷ []) ++ m ∷ ms) refl h in
    let piece = subst (λ (o : PieceKind). IsPiece o (39 ∷ ((doubled inner ++ 39 ∷ []) ++ m ∷ ms))) kind h in
    let same : doubled inner ++ 39 ∷ m ∷ ms ≡ doubled piece.0 ++ 39 ∷ [] = sym (append_assoc (doubled inner) (39 ∷ []) (m ∷ ms)) ∙ cc (piece.1) in
    (ends_once inner piece.0 (m ∷ ms) [] same (rw e at stops) refl).1

some_quoted : (text inner : List ℕ) (len : ℕ) → take len text ≡ quoted inner → 0 < len
some_quoted text inner zero e = absurd cc
some_quoted text inner (suc n) e = omega arith

pub closed_prefix : (text : List ℕ) (len : ℕ) → IsClosed text len true → PrefixIs text (Lexeme Text) len
closed_prefix text len c = (
  some_quoted text c.inner len c.is_quoted,
  c.is_within,
  record {
    is_piece = (c.inner, c.is_quoted, sym c.says_plain);
    is_longest = λ other more rest e h. text_longest c.inner (drop len text) c.is_ended other more rest e (rw c.is_quoted at h);
    is_ended = λ e. c.is_ended;
  },
)

-- what follows a quoted text at the beginning
closed_text : (text : List ℕ) (len : ℕ) (is_plain : Bool) (c : IsClosed text len is_plain) → text ≡ 39 ∷ (doubled c.inner ++ 39 ∷ drop len text)
closed_text text len is_plain c =
    sym (take-append-drop len text) ∙ ap (λ xs. xs ++ drop len text) c.is_quoted ∙ ap (λ xs. 39 ∷ xs) (append_assoc (doubled c.inner) (39 ∷ []) (drop len text))

control_none : (inner rest bytes after : List ℕ) → list_all may_be_quoted inner ≡ false → begins is_quote rest ≡ false → begins is_quote after ≡ false
    → 39 ∷ (doubled inner ++ 39 ∷ rest) ≡ bytes ++ after → IsPiece (Lexeme Text) bytes → ⊥
control_none inner rest bytes after control ended stops e (found, is, plain) =
    let whole : 39 ∷ (doubled inner ++ 39 ∷ rest) ≡ 39 ∷ (doubled found ++ 39 ∷ after) =
    e ∙ ap (λ xs. xs ++ after) is ∙ ap (λ xs. 39 ∷ xs) (append_assoc (doubled found) (39 ∷ []) after) in
    let same : doubled inner ++ 39 ∷ rest ≡ doubled found ++ 39 ∷ after = cc in
    let inner_is = (ends_once inner found rest after same ended stops).0 in
    false≢true (sym control ∙ ap (list_all may_be_quoted) inner_is ∙ plain)

first_is : (b x : ℕ) (bs after xs : List ℕ) → x ∷ xs ≡ (b ∷ bs) ++ after → b ≡ x
first_is b x bs after xs e = cc

closed_none_by : (text : List ℕ) (len : ℕ) (c : IsClosed text len false) (kind : PieceKind) (bytes after : List ℕ) → text ≡ bytes ++ after → Stands kind bytes after → ⊥
closed_none_by text len c kind [] after e s = piece_some kind s.is_piece
closed_none_by text len c kind (b ∷ bs) after e s =
    let whole = sym (closed_text text len false c) ∙ e in
    let is_text = text_only kind b bs (first_is b 39 bs after (doubled c.inner ++ 39 ∷ drop len text) whole) s.is_piece in
    control_none c.inner (drop len text) (b ∷ bs) after (sym c.says_plain) c.is_ended (s.is_ended is_text) whole
    (subst (λ (k : PieceKind). IsPiece k (b ∷ bs)) is_text s.is_piece)

pub closed_none : (text : List ℕ) (len : ℕ) → IsClosed text len false → HasNone text × ¬ IsOpen text
closed_none text len c = (
  closed_none_by text len c,
  λ o.
      let ends = o.never_ends c.inner (drop len text) (closed_text text len false c ∙ ap (λ xs. 39 ∷ xs) (sym (append_assoc (doubled c.inner) (39 ∷ []) (drop len text)))) in
      false≢true (sym c.is_ended ∙ ends),
)

-- where a quote is open no piece stands
open_none_by : (text : List ℕ) → IsOpen text → (kind : PieceKind) (bytes after : List ℕ) → text ≡ bytes ++ after → Stands kind bytes after → ⊥
open_none_by text o kind [] after e s = piece_some kind s.is_piece
open_none_by text o kind (b ∷ bs) after e s =
    let first : is_quote b ≡ true = rw e at o.has_quote in
    let is_text = text_only kind b bs (grind (arith, nat_tests)) s.is_piece in
    let found = subst (λ (k : PieceKind). IsPiece k (b ∷ bs)) is_text s.is_piece in
    let ends = o.never_ends found.0 after (e ∙ ap (λ xs. xs ++ after) (found.1)) in
    false≢true (sym (s.is_ended is_text) ∙ ends)

pub open_none : (text : List ℕ) → IsOpen text → HasNone text
open_none text o = open_none_by text o

-- Signs

no_more : (more rest : List ℕ) → [] ≡ more ++ rest → more ≡ []
no_more [] rest e = refl
no_more (m ∷ ms) rest e = absurd cc

-- a piece that begins as a sign does, and no comment does, is a sign
sign_only : (kind : PieceKind) (b : ℕ) (bs : List ℕ) → kind_from b ≡ Lexeme Sign → begins_comment (b ∷ bs) ≡ false → IsPiece kind (b ∷ bs) → IsTrue (is_sign (b ∷ bs))
sign_only kind b bs from comment h = elim (kind_is kind b bs h) [
  | inl c ↦ absurd (false≢true (sym comment ∙ c))
  | inr k ↦ subst (λ (o : PieceKind). IsPiece o (b ∷ bs)) (sym k ∙ from) h
]

single_longest : (b c : ℕ) (bs : List ℕ) → is_single b ≡ true → is_pair b c ≡ false → begins_comment (b ∷ c ∷ bs) ≡ false
    → (other : PieceKind) (more rest : List ℕ) → c ∷ bs ≡ more ++ rest → IsPiece other (b ∷ more) → more ≡ []
single_longest b c bs single pair comment other [] rest e h = refl
single_longest b c bs single pair comment other (m ∷ []) rest e h =
    let next : m ≡ c = cc in
    let sign = sign_only other b (m ∷ []) (single-kind b single) (rw next comment) h in
    absurd (false≢true (sym pair ∙ (rw next at sign)))
single_longest b c bs single pair comment other (m ∷ n ∷ ns) rest e h =
    let next : m ≡ c = cc in
    absurd (false≢true (sign_only other b (m ∷ n ∷ ns) (single-kind b single) (rw next comment) h))

pair_longest : (b c : ℕ) (bs : List ℕ) → is_pair b c ≡ true → begins_comment (b ∷ c ∷ bs) ≡ false
    → (other : PieceKind) (more rest : List ℕ) → bs ≡ more ++ rest → IsPiece other (b ∷ c ∷ more) → more ≡ []
pair_longest b c bs pair comment other [] rest e h = refl
pair_longest b c bs pair comment other (m ∷ ms) rest e h = absurd (false≢true (sign_only other b (c ∷ m ∷ ms) (pair-kind b c pair) comment h))

pub sign_prefix : (text : List ℕ) (len : ℕ) → len ≡ sign_len text → (len ≡ 0 → ⊥) → begins_comment text ≡ false → PrefixIs text (Lexeme Sign) len
sign_prefix [] len e some comment = absurd (some e)
sign_prefix (b ∷ []) len e some comment = elim (cases_Bool (is_single b)) [
  | inl single ↦ rw (e, single) (omega arith, omega arith, record { is_piece = single; is_longest = λ other more rest from h. no_more more rest from; is_ended = λ k. absurd cc })
  | inr none ↦ absurd (some (rw (e, none) refl))
]
sign_prefix (b ∷ c ∷ bs) len e some comment = elim (cases_Bool (is_pair b c)) [
  | inl pair ↦ rw (e, pair) (omega arith, omega arith, record { is_piece = pair; is_longest = pair_longest b c bs pair comment; is_ended = λ k. absurd cc })
  | inr no_pair ↦ elim (cases_Bool (is_single b)) [
    | inl single ↦ rw (e, no_pair, single) (omega arith, omega arith, record { is_piece = single; is_longest = single_longest b c bs single no_pair comment; is_ended = λ k. absurd cc })
    | inr none ↦ absurd (some (rw (e, no_pair, none) refl))
  ]
]

no_sign : (xs after : List ℕ) → is_sign xs ≡ true → sign_len (xs ++ after) ≡ 0 → ⊥
no_sign [] after h e = false≢true h
no_sign (b ∷ []) [] h e = absurd (grind (arith, nat_tests))
no_sign (b ∷ []) (c ∷ cs) h e = absurd (grind (arith, nat_tests))
no_sign (b ∷ c ∷ []) after h e = absurd (grind (arith, nat_tests))
no_sign (b ∷ c ∷ d ∷ ds) after h e = false≢true h

sign_none_by : (text : List ℕ) → kind_from (get_or text 0 0) ≡ Lexeme Sign → begins_comment text ≡ false → sign_len text ≡ 0
    → (kind : PieceKind) (bytes after : List ℕ) → text ≡ bytes ++ after → Stands kind bytes after → ⊥
sign_none_by text from comment none kind [] after e s = piece_some kind s.is_piece
sign_none_by text from comment none kind (b ∷ []) after e s =
    no_sign (b ∷ []) after (sign_only kind b [] (rw e at from) refl s.is_piece) (rw e at none)
sign_none_by text from comment none kind (b ∷ c ∷ cs) after e s =
    no_sign (b ∷ c ∷ cs) after (sign_only kind b (c ∷ cs) (rw e at from) (rw e at comment) s.is_piece) (rw e at none)

-- what is known of a byte that begins no blank, word, number or text
pub kind_from_sign : (b : ℕ) → is_letter b ≡ false → is_blank b ≡ false → is_ascii_digit b ≡ false → (b ≡ 39 → ⊥) → kind_from b ≡ Lexeme Sign
kind_from_sign b letter blank digit no_quote = grind (arith, nat_tests)

not_open : (text : List ℕ) → (get_or text 0 0 ≡ 39 → ⊥) → IsOpen text → ⊥
not_open [] h o = false≢true o.has_quote
not_open (b ∷ bs) h o = h (let k = o.has_quote in grind (arith, nat_tests))

pub sign_none : (text : List ℕ) → is_letter (get_or text 0 0) ≡ false → is_blank (get_or text 0 0) ≡ false → is_ascii_digit (get_or text 0 0) ≡ false → (get_or text 0 0 ≡ 39 → ⊥)
    → begins_comment text ≡ false → sign_len text ≡ 0 → HasNone text × ¬ IsOpen text
sign_none text letter blank digit no_quote comment none =
    (sign_none_by text (kind_from_sign (get_or text 0 0) letter blank digit no_quote) comment none, not_open text no_quote)
