-- What a text of the form says is within bounds.
use Rattle.std.proofs.Common.{◌≡◌, ◌==◌, codes, ℕ, ◌≤◌, Bool, true, false, cond, leb, List, [], ◌∷◌, length, Option, Some, None, ℤ, pos, neg_ℤ, option_map, IfSome, All, arith, refl}
use Rattle.std.proofs.lemmas.Bool.Decides.{nat_tests}
use Rattle.std.proofs.lemmas.Int.{ints}
use Rattle.std.proofs.lemmas.List.Elements.{All-from_recursion}
use Rattle.std.proofs.lemmas.Option.{IfSome_then}
use Rattle.std.specs.List.{AllByRecursion, before_first, after_first}
use Rattle.std.specs.Option.{option_or}
use Rattle.volt_base.specs.Reading.{◌>>=◌}
use Rattle.volt_form.specs.declared.call.ScriptCall.{ScriptCall}
use Rattle.volt_form.specs.declared.call.ScriptCall.TheVariants.{Put, Get}
use Rattle.volt_value.specs.Values.{greatest}
use Rattle.volt_form.specs.Form.{Lines, IsBigint, HasBigints, magnitude_of, number_of_word, put_of_numbers, get_of_number, after_prefix, call_of_line, calls_of_lines, most_calls, head, lines_of, after_lines, calls_in, calls_of_text}

-- what holds of the value of each of two options holds of the value of the one that is chosen
chosen : {A : Type 0} (b : Bool) (x y : Option A) (P : A → Type 0) → (b ≡ true → IfSome x P) → IfSome y P → IfSome (cond b x y) P
chosen true x y P h k = h refl
chosen false x y P h k = k

first : {A : Type 0} (x y : Option A) (P : A → Type 0) → IfSome x P → IfSome y P → IfSome (option_or x y) P
first None y P h k = k
first (Some x) y P h k = h

-- what holds of the value of each step holds at the end
then : {A B : Type 0} (o : Option A) (f : A → Option B) (P : A → Type 0) (Q : B → Type 0) → IfSome o P → ((x : A) → P x → IfSome (f x) Q) → IfSome (o >>= f) Q
then None f P Q h k = tt
then (Some x) f P Q h k = k x h

always : {A B : Type 0} (o : Option A) (f : A → Option B) (Q : B → Type 0) → ((x : A) → IfSome (f x) Q) → IfSome (o >>= f) Q
always None f Q k = tt
always (Some x) f Q k = k x

-- no digits write more than the greatest BIGINT
magnitude_small : (digits : List ℕ) → IfSome (magnitude_of digits) (λ n. n ≤ greatest)
unfolding magnitude_of
magnitude_small digits = grind (arith, nat_tests)

minus : (o : Option ℕ) → IfSome o (λ n. n ≤ greatest) → IfSome (option_map (λ n. neg_ℤ (pos n)) o) IsBigint
minus None h = tt
minus (Some n) h = (grind (arith, ints), grind (arith, ints))

plain : (o : Option ℕ) → IfSome o (λ n. n ≤ greatest) → IfSome (option_map pos o) IsBigint
plain None h = tt
plain (Some n) h = (grind (arith, ints), grind (arith, ints))

-- nor does a word, and its number isn't below the least
number_small : (word : List ℕ) → IfSome (number_of_word word) IsBigint
unfolding number_of_word
number_small [] = tt
number_small (c ∷ cs) = chosen (c == 45) _ _ IsBigint (λ _. minus (magnitude_of cs) (magnitude_small cs)) (plain (magnitude_of (c ∷ cs)) (magnitude_small (c ∷ cs)))

-- nor do the words of a line
put_small : (numbers : List ℕ) → IfSome (put_of_numbers numbers) HasBigints
unfolding put_of_numbers
put_small numbers =
    let first = before_first (λ b. b == 32) numbers in
    let second = after_first (λ b. b == 32) numbers in
    then (number_of_word first) (λ id. number_of_word second >>= λ balance. Some (Put id balance)) IsBigint HasBigints (number_small first) (λ id h.
    then (number_of_word second) (λ balance. Some (Put id balance)) IsBigint HasBigints (number_small second) (λ balance k. (h, k)))

got : (o : Option ℤ) → IfSome o IsBigint → IfSome (option_map (λ id. Get id) o) HasBigints
got None h = tt
got (Some id) h = h

get_small : (number : List ℕ) → IfSome (get_of_number number) HasBigints
unfolding get_of_number
get_small number = got (number_of_word number) (number_small number)

call_small : (line : List ℕ) → IfSome (call_of_line line) HasBigints
unfolding call_of_line
call_small line =
    let put = after_prefix (codes "client 1 call Put ") line in
    let get = after_prefix (codes "client 1 call Get ") line in
    first (put >>= put_of_numbers) (get >>= get_of_number) HasBigints (always put put_of_numbers HasBigints put_small) (always get get_of_number HasBigints get_small)

-- there are as many calls as lines
pub record AreOf (lines : List (List ℕ)) (calls : List ScriptCall) : Type 0 where
  many : length calls ≡ length lines
  small : AllByRecursion HasBigints calls

calls_small : (lines : List (List ℕ)) → IfSome (calls_of_lines lines) (AreOf lines)
calls_small [] = record { many = refl; small = tt }
calls_small (line ∷ lines) =
    then (call_of_line line) (λ call. calls_of_lines lines >>= λ calls. Some (call ∷ calls)) HasBigints (AreOf (line ∷ lines)) (call_small line) (λ call h.
    then (calls_of_lines lines) (λ calls. Some (call ∷ calls)) (AreOf lines) (AreOf (line ∷ lines)) (calls_small lines) (λ calls k.
    record { many = omega (arith, k.many); small = (h, k.small) }))

-- and so in a text, whose lines are few enough
pub record AreBounded (calls : List ScriptCall) : Type 0 where
  few : length calls ≤ most_calls
  small : AllByRecursion HasBigints calls

lines_bounded : (l : Lines) → IfSome (calls_in l) AreBounded
lines_bounded l =
    chosen (length l.rest == 0) _ None AreBounded
    (λ _. always (after_lines head l.ended) (λ lines. cond (leb (length lines) most_calls) (calls_of_lines lines) None) AreBounded (λ lines.
    chosen (leb (length lines) most_calls) (calls_of_lines lines) None AreBounded
    (λ e. IfSome_then (calls_of_lines lines) (calls_small lines) (λ calls k. record { few = grind (arith, nat_tests); small = k.small })) tt)) tt

pub text_bounded : (text : List ℕ) → IfSome (calls_of_text text) AreBounded
unfolding calls_of_text
text_bounded text = chosen _ _ None AreBounded (λ _. lines_bounded (lines_of text)) tt

pub text_few : (text : List ℕ) → IfSome (calls_of_text text) (λ calls. length calls ≤ most_calls)
text_few text = IfSome_then (calls_of_text text) (text_bounded text) (λ calls h. h.few)

pub text_bigints : (text : List ℕ) → IfSome (calls_of_text text) (All HasBigints)
text_bigints text = IfSome_then (calls_of_text text) (text_bounded text) (λ calls h. All-from_recursion HasBigints calls h.small)
