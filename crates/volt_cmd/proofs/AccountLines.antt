-- Each row of the accounts prints as one line.
use Rattle.std.proofs.Common.{◌≡◌, ℕ, zero, suc, ◌+◌, ◌/◌, ◌%◌, ◌==◌, ℤ, pos, negsuc, Bool, true, false, cond, List, [], ◌∷◌, ◌++◌, length, refl, ap, ◌∙◌, zero-add, arith}
use Rattle.std.specs.Prelude.{count_by, decimal, nat_lt}
use Rattle.std.specs.List.{flat_map}
use Rattle.std.specs.Fmt.{signed_decimal, digits, digits_onto, digit_glyph}
use Rattle.std.proofs.lemmas.Bool.{ne_eqb}
use Rattle.std.proofs.lemmas.List.Sums.{sum_by-append, sum_by-cons}
use Rattle.volt_report.specs.Spelling.{table_line, newline}
use Rattle.account_engine.specs.Accounts.{line_of_row, row_lines}
use Rattle.volt_cmd.specs.Prints.{AreLines}

-- how many lines a text ends
abbrev is_end : ℕ → Bool
is_end b = b == 10

abbrev one_if_end : ℕ → ℕ
one_if_end b = cond (is_end b) 1 0

abbrev ends : List ℕ → ℕ
ends text = count_by is_end text

ends-append : (s t : List ℕ) → ends (s ++ t) ≡ ends s + ends t
ends-append s t = sum_by-append one_if_end s t

-- a byte that ends none
ends-cons : (b : ℕ) (text : List ℕ) → is_end b ≡ false → ends (b ∷ text) ≡ ends text
ends-cons b text none =
    let here : one_if_end b ≡ 0 = ap (λ (t : Bool). let n : ℕ = cond t 1 0 in n) none in
    sum_by-cons one_if_end b text ∙ ap (λ (n : ℕ). n + ends text) here ∙ zero-add (ends text)

-- no digit ends one
is_end-glyph : (small : Bool) (d : ℕ) → is_end (cond small (48 + d) (87 + d)) ≡ false
is_end-glyph true d = ne_eqb (48 + d) 10 (λ e. omega arith)
is_end-glyph false d = ne_eqb (87 + d) 10 (λ e. omega arith)

-- so the digits of a number end none
ends-chosen : (last : Bool) (more once : List ℕ) (n : ℕ) → ends more ≡ n → ends once ≡ n → ends (cond last once more) ≡ n
ends-chosen true more once n in_more in_once = in_once
ends-chosen false more once n in_more in_once = in_more

ends-onto : (k n : ℕ) (text : List ℕ) → ends (digits_onto k 10 false n text) ≡ ends text
ends-onto zero n text = refl
ends-onto (suc k) n text =
    let digit : ℕ = digit_glyph false (n % 10) in
    let once : ends (digit ∷ text) ≡ ends text = ends-cons digit text (is_end-glyph (nat_lt (n % 10) 10) (n % 10)) in
    ends-chosen (n / 10 == 0) _ _ (ends text) (ends-onto k (n / 10) (digit ∷ text) ∙ once) once

ends-decimal : (n : ℕ) → ends (decimal n) ≡ 0
unfolding digits
ends-decimal n = ends-onto 64 n []

ends-signed : (z : ℤ) → ends (signed_decimal z) ≡ 0
ends-signed (pos n) = ends-decimal n
ends-signed (negsuc n) = ends-decimal (suc n)

-- a row's line ends one
ends-row : (row : ℤ × ℤ) → ends (table_line (line_of_row row)) ≡ 1
ends-row row =
    let id : List ℕ = signed_decimal row.0 in
    let balance : List ℕ = signed_decimal row.1 in
    let whole : ends ((id ++ 32 ∷ (balance ++ [])) ++ newline) ≡ ends (id ++ 32 ∷ (balance ++ [])) + 1 = ends-append (id ++ 32 ∷ (balance ++ [])) newline in
    let both : ends (id ++ 32 ∷ (balance ++ [])) ≡ ends id + ends (balance ++ []) = ends-append id (32 ∷ (balance ++ [])) in
    let last : ends (balance ++ []) ≡ ends balance + 0 = ends-append balance [] in
    let id_none : ends id ≡ 0 = ends-signed row.0 in
    let balance_none : ends balance ≡ 0 = ends-signed row.1 in
    let total : ends ((id ++ 32 ∷ (balance ++ [])) ++ newline) ≡ 1 = omega arith in
    total

pub AreLines-rows : (rows : List (ℤ × ℤ)) → AreLines (row_lines rows)
AreLines-rows [] = refl
AreLines-rows (row ∷ rows) =
    let whole : ends (table_line (line_of_row row) ++ flat_map table_line (row_lines rows)) ≡ ends (table_line (line_of_row row)) + ends (flat_map table_line (row_lines rows)) = ends-append (table_line (line_of_row row)) (flat_map table_line (row_lines rows)) in
    let here : ends (table_line (line_of_row row)) ≡ 1 = ends-row row in
    let later : ends (flat_map table_line (row_lines rows)) ≡ length (row_lines rows) = AreLines-rows rows in
    let total : ends (table_line (line_of_row row) ++ flat_map table_line (row_lines rows)) ≡ suc (length (row_lines rows)) = omega arith in
    total
