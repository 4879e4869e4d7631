-- A text is of the form exactly where no line of it is wrong.
use Rattle.std.proofs.Common.{◌≡◌, ◌==◌, ℕ, ◌+◌, ◌<◌, ◌≤◌, false, ◌&&◌, List, [], ◌∷◌, length, Option, Some, None, is_some, is_none, nat_le, arith, refl, ap, ◌∙◌}
use Rattle.std.proofs.lemmas.Bool.Decides.{nat_tests}
use Rattle.volt_form.specs.declared.call.ScriptCall.{ScriptCall}
use Rattle.volt_form.specs.Form.{Lines, head, head_size, most_calls, longest_input, lines_of, calls_of_lines, after_lines, calls_in, calls_of_text, wrong_call, wrong_from, first_wrong_line}

-- the head has as many lines as is said
pub length-head : length head ≡ head_size
unfolding head
length-head = refl

-- after the head no line is wrong exactly where all are calls, few enough, and nothing follows them
pub wrong_call_is : (number : ℕ) (lines : List (List ℕ)) (rest : List ℕ) → number ≤ head_size + most_calls + 1
    → is_none (wrong_call number lines rest)
    ≡ ((length rest == 0) && nat_le (number + length lines) (head_size + most_calls + 1) && is_some (calls_of_lines lines))
wrong_call_is number [] rest h = grind (arith, nat_tests)
wrong_call_is number (line ∷ lines) rest h = grind (arith, nat_tests, wrong_call_is (number + 1) lines rest)

-- where the lines begin with the first ones, the first wrong line is that of the others
pub wrong_from-some : (number : ℕ) (first lines more : List (List ℕ)) (rest : List ℕ) → after_lines first lines ≡ Some more
    → wrong_from number first lines rest ≡ wrong_call (number + length first) more rest
wrong_from-some number [] lines more rest h = grind arith
wrong_from-some number (wanted ∷ first) [] more rest h = grind arith
wrong_from-some number (wanted ∷ first) (line ∷ lines) more rest h = grind (arith, nat_tests, wrong_from-some (number + 1) first lines more rest)

-- where they don't, one of them is wrong
pub wrong_from-none : (number : ℕ) (first lines : List (List ℕ)) (rest : List ℕ) → after_lines first lines ≡ None
    → is_none (wrong_from number first lines rest) ≡ false
wrong_from-none number [] lines rest h = grind arith
wrong_from-none number (wanted ∷ first) [] rest h = refl
wrong_from-none number (wanted ∷ first) (line ∷ lines) rest h = grind (arith, nat_tests, wrong_from-none (number + 1) first lines rest)

-- no line of a text is wrong exactly where its lines have calls
wrong_lines_by : (l : Lines) (more : Option (List (List ℕ))) → after_lines head l.ended ≡ more
    → is_none (wrong_from 1 head l.ended l.rest) ≡ is_some (calls_in l)
wrong_lines_by l None h =
    let wrong = wrong_from-none 1 head l.ended l.rest h in
    grind (arith, nat_tests)
wrong_lines_by l (Some more) h =
    let wrong = wrong_from-some 1 head l.ended more l.rest h in
    let calls = wrong_call_is (head_size + 1) more l.rest (omega arith) in
    let same : wrong_from 1 head l.ended l.rest ≡ wrong_call (head_size + 1) more l.rest = wrong ∙ ap (λ n. wrong_call n more l.rest) (omega (arith, length-head)) in
    grind (arith, nat_tests)

pub wrong_lines : (l : Lines) → is_none (wrong_from 1 head l.ended l.rest) ≡ is_some (calls_in l)
wrong_lines l = wrong_lines_by l (after_lines head l.ended) refl

-- a text has a first wrong line exactly where it isn't of the form
pub wrong_text : (text : List ℕ) → is_some (first_wrong_line text) ≡ is_none (calls_of_text text)
unfolding calls_of_text first_wrong_line
wrong_text text = grind (arith, nat_tests, wrong_lines (lines_of text))

-- a text that is too long is wrong from its first line on
pub wrong_text-long : (text : List ℕ) → longest_input < length text → (calls_of_text text ≡ None) × (first_wrong_line text ≡ Some 1)
unfolding calls_of_text first_wrong_line
wrong_text-long text h = (grind (arith, nat_tests), grind (arith, nat_tests))

-- else its first wrong line is that of its lines, and makes it no text of the form
pub wrong_text-line : (text : List ℕ) (line : ℕ) → length text ≤ longest_input → wrong_from 1 head (lines_of text).ended (lines_of text).rest ≡ Some line
    → (calls_of_text text ≡ None) × (first_wrong_line text ≡ Some line)
unfolding calls_of_text first_wrong_line
wrong_text-line text line h e =
    let wrong = wrong_lines (lines_of text) in
    (grind (arith, nat_tests), grind (arith, nat_tests))

-- a text whose lines after the head are calls, few enough, with nothing after them, has these calls
pub calls_of_text_is : (text : List ℕ) (after : Lines) (calls : List ScriptCall) → length text ≤ longest_input
    → after_lines head (lines_of text).ended ≡ Some after.ended → (lines_of text).rest ≡ after.rest
    → calls_of_lines after.ended ≡ Some calls → wrong_call (head_size + 1) after.ended after.rest ≡ None
    → calls_of_text text ≡ Some calls
unfolding calls_of_text
calls_of_text_is text after calls short lines rest are none =
    let right = wrong_call_is (head_size + 1) after.ended after.rest (omega arith) in
    grind (arith, nat_tests)
