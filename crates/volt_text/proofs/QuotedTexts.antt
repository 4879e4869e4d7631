-- Where quoted texts end.
use Rattle.std.proofs.Common.{◌≡◌, ◌<◌, ◌≤◌, ℕ, ◌+◌, Bool, true, false, ◌&&◌, List, [], ◌∷◌, ◌++◌, length, take, drop, get_or, arith, refl, sym, ◌∙◌}
use Rattle.std.proofs.lemmas.Bool.Decides.{nat_tests}
use Rattle.std.proofs.lemmas.Grind.{common_steps}
use Rattle.std.proofs.lemmas.List.{take_more, take_all}
use Rattle.std.specs.List.{list_all}
use Rattle.volt_text.specs.Tokens.{begins, is_quote, doubled, may_be_quoted, IsOpen}
use Rattle.volt_text.specs.Scan.{IsClosed}

-- where a quote that isn't doubled follows doubled quotes, it is the first that isn't doubled
pub ends_once : (x y a b : List ℕ) → doubled x ++ 39 ∷ a ≡ doubled y ++ 39 ∷ b → begins is_quote a ≡ false → begins is_quote b ≡ false → (x ≡ y) × (a ≡ b)
ends_once [] [] a b e h k = grind arith
ends_once [] (d ∷ ds) a b e h k = grind (arith, nat_tests)
ends_once (c ∷ cs) [] a b e h k = grind (arith, nat_tests)
ends_once (c ∷ cs) (d ∷ ds) a b e h k = grind (arith, nat_tests, ends_once cs ds a b)

-- in a text whose quotes are all doubled, a quote after doubled ones is doubled
pub all_doubled : (x y a : List ℕ) → doubled x ≡ doubled y ++ 39 ∷ a → begins is_quote a ≡ true
all_doubled [] [] a e = grind arith
all_doubled [] (d ∷ ds) a e = grind (arith, nat_tests)
all_doubled (c ∷ cs) [] a e = grind (arith, nat_tests)
all_doubled (c ∷ cs) (d ∷ ds) a e = grind (arith, nat_tests, all_doubled cs ds a)

doubled_other : (x : List ℕ) (b : ℕ) → is_quote b ≡ false → doubled (x ++ b ∷ []) ≡ doubled x ++ b ∷ []
doubled_other [] b h = grind (arith, nat_tests)
doubled_other (c ∷ cs) b h = grind (arith, nat_tests, doubled_other cs b h)

doubled_quote : (x : List ℕ) → doubled (x ++ 39 ∷ []) ≡ doubled x ++ 39 ∷ 39 ∷ []
doubled_quote [] = refl
doubled_quote (c ∷ cs) = grind (arith, nat_tests, doubled_quote cs)

list_all_push : (p : ℕ → Bool) (x : List ℕ) (b : ℕ) → list_all p (x ++ b ∷ []) ≡ (list_all p x && p b)
list_all_push p [] b = grind arith
list_all_push p (c ∷ cs) b = grind (arith, list_all_push p cs b)

-- up to this place the text is a quote and then a text with its quotes doubled
pub record IsScanned (text : List ℕ) (at : ℕ) (is_plain : Bool) : Type 0 where
  pub inner : List ℕ
  pub is_within : at ≤ length text
  pub is_doubled : take at text ≡ 39 ∷ doubled inner
  pub says_plain : is_plain ≡ list_all may_be_quoted inner

pub scan_start : (text : List ℕ) → begins is_quote text ≡ true → IsScanned text 1 true
scan_start [] h = absurd cc
scan_start (b ∷ bs) h = record {
  inner = [];
  is_within = grind (arith, nat_tests);
  is_doubled = grind (arith, nat_tests);
  says_plain = refl;
}

pub scan_byte : (text : List ℕ) (at b : ℕ) (is_plain : Bool) → IsScanned text at is_plain → at < length text → b ≡ get_or text at 0 → is_quote b ≡ false
    → IsScanned text (at + 1) (is_plain && may_be_quoted b)
scan_byte text at b is_plain s h e n = record {
  inner = s.inner ++ b ∷ [];
  is_within = omega arith;
  is_doubled = rw (take_more text at 0 h, s.is_doubled, ← e, doubled_other s.inner b n) refl;
  says_plain = rw (list_all_push may_be_quoted s.inner b, s.says_plain) refl;
}

pub scan_quote : (text : List ℕ) (at : ℕ) (is_plain : Bool) → IsScanned text at is_plain → at + 1 < length text → get_or text at 0 ≡ 39 → get_or text (at + 1) 0 ≡ 39
    → IsScanned text (at + 2) is_plain
scan_quote text at is_plain s h e f =
    let first : take (at + 1) text ≡ 39 ∷ (doubled s.inner ++ 39 ∷ []) = rw (take_more text at 0 (omega arith), s.is_doubled, e) refl in
    let second : take (at + 2) text ≡ take (at + 1) text ++ 39 ∷ [] = grind (arith, take_more text (at + 1) 0 h) in
    record {
      inner = s.inner ++ 39 ∷ [];
      is_within = omega arith;
      is_doubled = rw (second, first, doubled_quote s.inner) (grind (arith, common_steps));
      says_plain = rw (list_all_push may_be_quoted s.inner 39, s.says_plain) (grind (arith, nat_tests));
    }

pub scan_closed : (text : List ℕ) (at : ℕ) (is_plain : Bool) → IsScanned text at is_plain → at < length text → get_or text at 0 ≡ 39 → begins is_quote (drop (at + 1) text) ≡ false
    → IsClosed text (at + 1) is_plain
scan_closed text at is_plain s h e n = record {
  inner = s.inner;
  is_within = omega arith;
  is_quoted = rw (take_more text at 0 h, s.is_doubled, e) refl;
  is_ended = n;
  says_plain = s.says_plain;
}

pub scan_open : (text : List ℕ) (at : ℕ) (is_plain : Bool) → IsScanned text at is_plain → length text ≤ at → IsOpen text
scan_open text at is_plain s h =
    let whole : text ≡ 39 ∷ doubled s.inner = sym (take_all at text h) ∙ s.is_doubled in
    record {
      has_quote = rw whole refl;
      never_ends = λ inner after e. all_doubled s.inner inner after (grind (arith, common_steps));
    }
