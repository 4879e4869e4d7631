-- What a text of the form says is asked for, and what the world is given for it.
use Rattle.std.proofs.Common.{◌≡◌, ◌+◌, ◌&&◌, ℕ, ◌<◌, ◌≤◌, Bool, true, false, nat_le, min, List, [], ◌∷◌, length, map, take, Option, Some, None, Result, Ok, Err, IfOk, ℤ, pos, negsuc, IfSome, All, arith, refl, ap, subst, sym, ◌∙◌}
use Rattle.std.proofs.lemmas.Bool.Decides.{nat_tests}
use Rattle.std.proofs.lemmas.Int.{ints}
use Rattle.std.proofs.lemmas.List.{length-take}
use Rattle.std.proofs.lemmas.List.Elements.{All-from_recursion, recursion_from_All}
use Rattle.std.specs.List.{AllByRecursion}
use Rattle.volt_io.specs.States.{SourceState, SourceGives}
use Rattle.volt_form.specs.declared.call.ScriptCall.{ScriptCall}
use Rattle.volt_form.specs.declared.call.ScriptCall.TheVariants as script
use Rattle.volt_form.specs.Form.{longest_input, most_calls, IsBigint, HasBigints, calls_of_text, first_wrong_line}
use Rattle.one_host_model.specs.declared.input.WorldCall.{WorldCall}
use Rattle.account_engine.specs.declared.call.AccountCall.{AccountCall}
use Rattle.account_engine.specs.declared.call.AccountCall.TheVariants as account
use Rattle.volt_value.specs.Values.{is_bigint}
use Rattle.account_engine.specs.Calls.{ValidCall, is_valid}
use Rattle.account_engine.specs.Spelling.{body_of}
use Rattle.volt_cmd.specs.Script.{Asks, IsAsked, given_calls, script_call}
use Rattle.volt_cmd.specs.Headline.{ReadsAll, IsWrongAt}

-- Texts that are longer than they may be

-- a text of the form is short enough
short : (text : List ℕ) (calls : List ScriptCall) → calls_of_text text ≡ Some calls → length text ≤ longest_input
unfolding calls_of_text
short text calls is = grind (arith, nat_tests)

-- of a longer one line 1 is wrong
long : (text : List ℕ) → longest_input < length text → first_wrong_line text ≡ Some 1
unfolding first_wrong_line
long text h = grind (arith, nat_tests)

-- what was read: all that there is, or one byte more than there may be
pub record IsRead (before after : SourceState) (text : List ℕ) : Type 0 where
  pub gives : SourceGives before after text
  pub to_end : length text ≤ longest_input → after.ended ≡ true
  pub prefix : IfSome before.rest (λ left. text ≡ take (longest_input + 1) left)
  pub whole : IfSome before.rest (λ left. length text ≤ longest_input → text ≡ left)

-- and so it is where the length is known by another name
prefix_of : (rest : Option (List ℕ)) (text read : List ℕ) → text ≡ read
    → IfSome rest (λ left. read ≡ take (longest_input + 1) left) → IfSome rest (λ left. text ≡ take (longest_input + 1) left)
prefix_of None text read same prefix = tt
prefix_of (Some left) text read same prefix = same ∙ prefix

whole_of : (rest : Option (List ℕ)) (text read : List ℕ) (size : ℕ) → text ≡ read → length text ≡ size
    → IfSome rest (λ left. size ≤ longest_input → read ≡ left) → IfSome rest (λ left. length text ≤ longest_input → text ≡ left)
whole_of None text read size same len whole = tt
whole_of (Some left) text read size same len whole = λ h. same ∙ whole (omega arith)

pub is_read : (before after : SourceState) (text read : List ℕ) (size : ℕ) → text ≡ read → length text ≡ size
    → SourceGives before after read
    → (size ≤ longest_input → after.ended ≡ true)
    → IfSome before.rest (λ left. read ≡ take (longest_input + 1) left)
    → IfSome before.rest (λ left. size ≤ longest_input → read ≡ left) → IsRead before after text
is_read before after text read size same len gives to_end prefix whole = record {
  gives = subst (λ (t : List ℕ). SourceGives before after t) (sym same) gives;
  to_end = λ h. to_end (omega arith);
  prefix = prefix_of before.rest text read same prefix;
  whole = whole_of before.rest text read size same len whole;
}

-- where it is short enough it is all
all_of : (rest : Option (List ℕ)) (text : List ℕ) → length text ≤ longest_input
    → IfSome rest (λ left. length text ≤ longest_input → text ≡ left) → IfSome rest (λ left. text ≡ left)
all_of None text few whole = tt
all_of (Some left) text few whole = whole few

-- a text of the form that was read is all
pub reads_all : (before after : SourceState) (text : List ℕ) (calls : List ScriptCall) → IsRead before after text
    → calls_of_text text ≡ Some calls → ReadsAll before after text
reads_all before after text calls read is =
    let few = short text calls is in record { gives = read.gives; to_end = read.to_end few; told = all_of before.rest text few read.whole }

pub calls_read : {A E : Type 0} (items : A → List ScriptCall) (before after : SourceState) (text : List ℕ) → IsRead before after text
    → (r : Result A E) → IfOk r (λ a. calls_of_text text ≡ Some (items a))
    → IfOk r (λ a. (bytes : List ℕ) × ReadsAll before after bytes × (calls_of_text bytes ≡ Some (items a)))
calls_read items before after text read (Ok a) is = (text, reads_all before after text (items a) read is, is)
calls_read items before after text read (Err e) is = tt

-- the first wrong line of what was read is that of all
wrong_by : (left text : List ℕ) (line : ℕ)
    → text ≡ take (longest_input + 1) left
    → (length text ≤ longest_input → text ≡ left)
    → first_wrong_line text ≡ Some line → (b : Bool) → nat_le (length text) longest_input ≡ b → first_wrong_line left ≡ Some line
wrong_by left text line prefix whole is true e = subst (λ (t : List ℕ). first_wrong_line t ≡ Some line) (whole (grind (arith, nat_tests))) is
wrong_by left text line prefix whole is false e =
    let over : longest_input < length text = grind (arith, nat_tests) in
    let size : length text ≡ min (longest_input + 1) (length left) = ap length prefix ∙ length-take (longest_input + 1) left in
    long left (omega arith) ∙ sym (long text over) ∙ is

wrong_of_rest : (rest : Option (List ℕ)) (text : List ℕ) (line : ℕ)
    → IfSome rest (λ left. text ≡ take (longest_input + 1) left)
    → IfSome rest (λ left. length text ≤ longest_input → text ≡ left)
    → first_wrong_line text ≡ Some line → IfSome rest (λ left. first_wrong_line left ≡ Some line)
wrong_of_rest None text line prefix whole is = tt
wrong_of_rest (Some left) text line prefix whole is = wrong_by left text line prefix whole is (nat_le (length text) longest_input) refl

pub wrong_read : (before after : SourceState) (text : List ℕ) (line : ℕ) → IsRead before after text
    → first_wrong_line text ≡ Some line → IsWrongAt before after line
wrong_read before after text line read is = record {
  bytes = text;
  gives = read.gives;
  enough = read.to_end;
  wrong = is;
  told = wrong_of_rest before.rest text line read.prefix read.whole is;
}

-- Calls within bounds

-- what two tests that pass make
both : (a b : Bool) → a ≡ true → b ≡ true → (a && b) ≡ true
both a b p q = rw (p, q) refl

-- a BIGINT is a value
bigint_is_value : (z : ℤ) → IsBigint z → is_bigint z ≡ true
bigint_is_value (pos n) h = grind (arith, ints, nat_tests)
bigint_is_value (negsuc n) h = grind (arith, ints, nat_tests)

-- the call of the engine that a script's call means, and says
abbrev pub meant : ScriptCall → AccountCall
meant (script.Put id balance) = account.Put id balance
meant (script.Get id) = account.Get id

script_call-meant : (c : ScriptCall) → script_call (meant c) ≡ c
script_call-meant (script.Put id balance) = refl
script_call-meant (script.Get id) = refl

pub meant-script_call : (c : AccountCall) → meant (script_call c) ≡ c
meant-script_call (account.Put id balance) = refl
meant-script_call (account.Get id) = refl

-- it is valid where its numbers are BIGINTs
meant_is_valid : (c : ScriptCall) → HasBigints c → is_valid (meant c) ≡ true
meant_is_valid (script.Put id balance) h = both _ _ (bigint_is_value id h.0) (bigint_is_value balance h.1)
meant_is_valid (script.Get id) h = bigint_is_value id h

-- the valid calls that a script within bounds means: they are its calls, and as many
meant_calls : (script : List ScriptCall) → AllByRecursion HasBigints script → List ValidCall
meant_calls [] h = []
meant_calls (c ∷ cs) h = record { call = meant c; valid = meant_is_valid c h.0 } ∷ meant_calls cs h.1

meant_calls_same : (script : List ScriptCall) (h : AllByRecursion HasBigints script) → script ≡ map (λ c. script_call c.call) (meant_calls script h)
unfolding meant_calls
meant_calls_same [] h = refl
meant_calls_same (c ∷ cs) h = ap (λ (x : ScriptCall). x ∷ cs) (sym (script_call-meant c)) ∙ ap (λ (xs : List ScriptCall). script_call (meant c) ∷ xs) (meant_calls_same cs h.1)

meant_calls_length : (script : List ScriptCall) (h : AllByRecursion HasBigints script) → length (meant_calls script h) ≡ length script
unfolding meant_calls
meant_calls_length [] h = refl
meant_calls_length (c ∷ cs) h = grind (arith, meant_calls_length cs h.1)

-- calls within bounds are asked for
pub is_asked : (calls : List ScriptCall) → length calls ≤ most_calls → All HasBigints calls → IsAsked calls
is_asked calls few small =
    let h = recursion_from_All HasBigints calls small in
    (meant_calls calls h, record { same = meant_calls_same calls h; few = omega (arith, meant_calls_length calls h) })

-- and so those of a text are, since they are within bounds
pub asked_of_text : (text : List ℕ) (calls : List ScriptCall)
    → ((t : List ℕ) → IfSome (calls_of_text t) (λ cs. length cs ≤ most_calls))
    → ((t : List ℕ) → IfSome (calls_of_text t) (All HasBigints))
    → calls_of_text text ≡ Some calls → IsAsked calls
asked_of_text text calls few small is = is_asked calls
    (subst (λ (o : Option (List ScriptCall)). IfSome o (λ cs. length cs ≤ most_calls)) is (few text))
    (subst (λ (o : Option (List ScriptCall)). IfSome o (All HasBigints)) is (small text))

-- What the world is given

-- what the world is given for a script's call
abbrev pub world_call_of : ScriptCall → WorldCall
world_call_of c = record { client = 1; part = Some 0; body = body_of (meant c) }

-- whichever call of the engine this one says, it is valid
abbrev pub MeansValid : ScriptCall → Type 0
MeansValid c = (a : AccountCall) → script_call a ≡ c → is_valid a ≡ true

-- what is said as a valid call is, is valid
valid_by : (a : AccountCall) (v : ValidCall) → script_call a ≡ script_call v.call → is_valid a ≡ true
valid_by a v e =
    let same : a ≡ v.call = sym (meant-script_call a) ∙ ap meant e ∙ meant-script_call v.call in
    ap is_valid same ∙ v.valid

valid_of_asked : (asked : List ValidCall) → AllByRecursion MeansValid (map (λ c. script_call c.call) asked)
valid_of_asked [] = tt
valid_of_asked (v ∷ vs) = (λ a e. valid_by a v e, valid_of_asked vs)

-- each call of the script means a valid one
pub all_valid : (script : List ScriptCall) → IsAsked script → All MeansValid script
all_valid script asked = All-from_recursion MeansValid script
    (subst (λ (cs : List ScriptCall). AllByRecursion MeansValid cs) (sym asked.1.same) (valid_of_asked asked.0))

-- what the world is given for the calls that are asked for
given_one : (v : ValidCall) (made : List WorldCall) → world_call_of (script_call v.call) ∷ made ≡ record { client = 1; part = Some 0; body = body_of v.call } ∷ made
given_one v made = rw (meant-script_call v.call) refl

given_is : (asked : List ValidCall) → map world_call_of (map (λ c. script_call c.call) asked) ≡ given_calls asked
given_is [] = refl
given_is (v ∷ vs) = rw (given_is vs) (given_one v (given_calls vs))

pub given_of : (script : List ScriptCall) (asked : List ValidCall) → Asks script asked → map world_call_of script ≡ given_calls asked
given_of script asked h = ap (map world_call_of) h.same ∙ given_is asked

-- all of it is client 1's
ones_of : (script : List ScriptCall) → AllByRecursion (λ w. w.client ≡ 1) (map world_call_of script)
ones_of [] = tt
ones_of (c ∷ cs) = (refl, ones_of cs)

pub all_ones : (script : List ScriptCall) → All (λ w. w.client ≡ 1) (map world_call_of script)
all_ones script = All-from_recursion (λ w. w.client ≡ 1) (map world_call_of script) (ones_of script)
