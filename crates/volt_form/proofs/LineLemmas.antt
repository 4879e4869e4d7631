-- Texts, cut at a byte and into lines.
use Rattle.std.proofs.Common.{◌++◌, ◌≢◌, All, flat_map, ◌≡◌, ◌==◌, ℕ, ◌+◌, ◌-◌, take, drop, take_all, ◌<◌, ◌≤◌, Bool, not, List, [], ◌∷◌, length, Some, None, position, arith, refl, ◌∙◌}
use Rattle.std.proofs.lemmas.Bool.{cond_both}
use Rattle.std.proofs.lemmas.List.Elements.{All-from_recursion}
use Rattle.std.proofs.lemmas.Bool.Decides.{nat_tests}
use Rattle.std.proofs.lemmas.Grind.{common_steps}
use Rattle.std.proofs.lemmas.List.{drop-drop}
use Rattle.std.proofs.lemmas.List.Sums.{prefix_len-le-length}
use Rattle.std.specs.List.{AllByRecursion, position_or_len, before_first, after_first}
use Rattle.volt_form.specs.Form.{Lines, lines_of, onto_first}

-- where no element passes, the first place that does is past the end
pub cut_none : (p : ℕ → Bool) (xs : List ℕ) → position p xs ≡ None → position_or_len p xs ≡ length xs
cut_none p xs h = grind (arith, nat_tests, prefix_len-le-length (λ x. not (p x)) xs)

-- else it is the place of an element
pub cut_some : (p : ℕ → Bool) (xs : List ℕ) (k : ℕ) → position p xs ≡ Some k → (k ≡ position_or_len p xs) × (k < length xs)
cut_some p xs k h = grind (arith, nat_tests)

-- what `&ys[1..]` is, of what stands from place k on
pub rest_after : (xs ys : List ℕ) (k n : ℕ) → ys ≡ drop k xs → k ≡ n → take (length ys - 1) (drop 1 ys) ≡ drop (n + 1) xs
rest_after xs ys k n e same = rw (e, same) (let short : length (drop 1 (drop n xs)) ≤ length (drop n xs) - 1 = grind (arith, common_steps) in take_all _ _ short ∙ drop-drop 1 n xs)

-- a text without LF has no line that one ends
pub lines_none : (text : List ℕ) → position_or_len (λ b. b == 10) text ≡ length text → lines_of text ≡ record { ended = []; rest = text }
lines_none [] h = refl
lines_none (b ∷ bs) h = grind (arith, nat_tests, lines_none bs)

-- else its first line ends at the first LF, and the other lines are those of what follows it
pub lines_some : (text : List ℕ) → position_or_len (λ b. b == 10) text < length text → lines_of text ≡ record {
  ended = before_first (λ b. b == 10) text ∷ (lines_of (after_first (λ b. b == 10) text)).ended;
  rest = (lines_of (after_first (λ b. b == 10) text)).rest;
}
lines_some [] h = absurd (omega arith)
lines_some (b ∷ bs) h = grind (arith, nat_tests, lines_some bs)

-- the text that lines and what follows them make
abbrev text_of : Lines → List ℕ
text_of l = flat_map (λ line. line ++ 10 ∷ []) l.ended ++ l.rest

text_of-onto : (b : ℕ) (lines : List (List ℕ)) (rest : List ℕ) → text_of (onto_first b lines rest) ≡ b ∷ text_of (record { ended = lines; rest = rest })
text_of-onto b [] rest = refl
text_of-onto b (line ∷ lines) rest = refl

-- the lines of a text make the text again
pub text_of-lines : (text : List ℕ) → text_of (lines_of text) ≡ text
text_of-lines [] = refl
text_of-lines (b ∷ bs) = grind (arith, nat_tests, text_of-lines bs, text_of-onto b (lines_of bs).ended (lines_of bs).rest)

-- neither the lines nor what follows them has an LF in it
pub record HaveNoLf (l : Lines) : Type 0 where
  ended : AllByRecursion (AllByRecursion (λ b. b ≢ 10)) l.ended
  rest : AllByRecursion (λ b. b ≢ 10) l.rest

no_lf-onto : (b : ℕ) (lines : List (List ℕ)) (rest : List ℕ) → b ≢ 10 → HaveNoLf (record { ended = lines; rest = rest }) → HaveNoLf (onto_first b lines rest)
no_lf-onto b [] rest h k = record { ended = tt; rest = (h, k.rest) }
no_lf-onto b (line ∷ lines) rest h k = record { ended = ((h, k.ended.0), k.ended.1); rest = k.rest }

pub no_lf-lines : (text : List ℕ) → HaveNoLf (lines_of text)
no_lf-lines [] = record { ended = tt; rest = tt }
no_lf-lines (b ∷ bs) =
    let more = no_lf-lines bs in
    cond_both (b == 10) (record { ended = [] ∷ (lines_of bs).ended; rest = (lines_of bs).rest }) (onto_first b (lines_of bs).ended (lines_of bs).rest) HaveNoLf
    (λ _. record { ended = (tt, more.ended); rest = more.rest })
    (λ e. no_lf-onto b (lines_of bs).ended (lines_of bs).rest (grind (arith, nat_tests)) more)

all_no_lf : (lines : List (List ℕ)) → AllByRecursion (AllByRecursion (λ b. b ≢ 10)) lines → AllByRecursion (All (λ b. b ≢ 10)) lines
all_no_lf [] h = tt
all_no_lf (line ∷ lines) h = (All-from_recursion (λ b. b ≢ 10) line h.0, all_no_lf lines h.1)

pub ended_no_lf : (text : List ℕ) → All (All (λ b. b ≢ 10)) (lines_of text).ended
ended_no_lf text = All-from_recursion (All (λ b. b ≢ 10)) (lines_of text).ended (all_no_lf (lines_of text).ended (no_lf-lines text).ended)

pub rest_no_lf : (text : List ℕ) → All (λ b. b ≢ 10) (lines_of text).rest
rest_no_lf text = All-from_recursion (λ b. b ≢ 10) (lines_of text).rest (no_lf-lines text).rest
