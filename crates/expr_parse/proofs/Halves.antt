-- Doubled quotes as one, from the left.
use Rattle.std.proofs.Common.{◌≡◌, ◌<◌, ◌≤◌, ℕ, ◌+◌, true, List, [], ◌∷◌, ◌++◌, length, take, drop, get_or, refl, ap, ◌∙◌, arith}
use Rattle.std.proofs.lemmas.List.{take-append-drop, length-drop}
use Rattle.std.proofs.lemmas.Str.{lead_after_ascii}
use Rattle.std.specs.Str.{IsUtf8}
use Rattle.sql_grammar.proofs.Lists.{both}
use borrow.Author.Tests.{ltb-true}
use Rattle.std.proofs.lemmas.Bool.{eqb-true}
use Rattle.expr_parse.specs.Words.{halved, is_quoted}

short : (bs : List ℕ) → length bs ≤ 1 → halved bs ≡ bs
short [] h = refl
short (b ∷ []) h = refl
short (b ∷ c ∷ bs) h = absurd (omega (arith, h))

pub none : (bs : List ℕ) (at : ℕ) → length bs ≤ at + 1 → halved bs ≡ take at bs ++ halved (drop at bs) → halved bs ≡ bs
none bs at done so_far = so_far ∙ ap (λ us. take at bs ++ us) (short (drop at bs) (omega (arith, length-drop at bs))) ∙ take-append-drop at bs

pub quoted_some : (bs : List ℕ) → is_quoted bs ≡ true → 1 < length bs
quoted_some bs e = ltb-true 1 (length bs) (both (both e).0).0

pub quoted_first : (bs : List ℕ) → is_quoted bs ≡ true → get_or bs 0 0 ≡ 39
quoted_first bs e = eqb-true (get_or bs 0 0) 39 (both (both e).0).1

pub lead_after_pair : (bs : List ℕ) (at : ℕ) → IsUtf8 bs → get_or bs (at + 1) 0 ≡ 39 → at + 2 < length bs → 128 ≤ get_or bs (at + 2) 0 → 192 ≤ get_or bs (at + 2) 0
lead_after_pair bs at utf8 quote =
    let two : at + 1 + 1 ≡ at + 2 = omega arith in
    let h : at + 1 + 1 < length bs → 128 ≤ get_or bs (at + 1 + 1) 0 → 192 ≤ get_or bs (at + 1 + 1) 0 = lead_after_ascii bs (at + 1) utf8 (omega arith) in
    rw two at h
