-- The one form of an input's text: a deployment of one site, the starter catalog, and a script of calls.
use Rattle.std.specs.Prelude.{ℕ, ◌+◌, ◌&&◌, ◌==◌, nat_lt, nat_le, if◌then◌else◌, List, [], ◌∷◌, length, take, drop, ℤ, pos, neg_ℤ, ◌≤ℤ◌, Option, Some, None, option_map, is_some, codes, bytes_eq}
use Rattle.std.specs.List.{before_first, after_first}
use Rattle.std.specs.Option.{option_or}
use Rattle.std.specs.Str.{all_ascii_digits, byte}
use Rattle.std.specs.Str.Parse.{digits_value}
use Rattle.volt_base.specs.Reading.{◌>>=◌}
use Rattle.volt_value.specs.Values.{greatest}
use Rattle.volt_form.specs.declared.call.ScriptCall.{ScriptCall}
use Rattle.volt_form.specs.declared.call.ScriptCall.TheVariants.{Put, Get}

-- Texts and their lines

-- a text cut at its LFs: the lines that an LF ends, and what follows the last LF
pub record Lines : Type 0 where
  pub ended : List (List ℕ)
  pub rest : List ℕ

-- a byte before lines is the first byte of the first of them
abbrev pub onto_first : ℕ → List (List ℕ) → List ℕ → Lines
onto_first b [] rest = record { ended = []; rest = b ∷ rest }
onto_first b (line ∷ lines) rest = record { ended = (b ∷ line) ∷ lines; rest = rest }

-- the lines of a text
abbrev pub lines_of : List ℕ → Lines
lines_of [] = record { ended = []; rest = [] }
lines_of (b ∷ bs) = let after = lines_of bs in
    if b == 10 then record { ended = [] ∷ after.ended; rest = after.rest } else onto_first b after.ended after.rest

-- what follows the prefix, where the text begins with it
abbrev pub after_prefix : List ℕ → List ℕ → Option (List ℕ)
after_prefix prefix text = if bytes_eq (take (length prefix) text) prefix then Some (drop (length prefix) text) else None

-- Numbers and calls

-- the number that digits write: one or more of them, with a value that isn't above the greatest
unfoldable pub magnitude_of : List ℕ → Option ℕ
magnitude_of digits = if nat_lt 0 (length digits) && all_ascii_digits digits && nat_le (digits_value 10 digits) greatest
    then Some (digits_value 10 digits) else None

-- the number that a word writes: digits, with or without a minus sign directly before them
unfoldable pub number_of_word : List ℕ → Option ℤ
number_of_word [] = None
number_of_word (c ∷ cs) = if c == byte "-" then option_map (λ n. neg_ℤ (pos n)) (magnitude_of cs) else option_map pos (magnitude_of (c ∷ cs))

-- a Put of two numbers, with one space between them
unfoldable pub put_of_numbers : List ℕ → Option ScriptCall
put_of_numbers numbers = do
  id ← number_of_word (before_first (λ b. b == byte " ") numbers)
  balance ← number_of_word (after_first (λ b. b == byte " ") numbers)
  Some (Put id balance)

-- a Get of one number
unfoldable pub get_of_number : List ℕ → Option ScriptCall
get_of_number number = option_map (λ id. Get id) (number_of_word number)

-- the call of a script's line, where it is one
unfoldable pub call_of_line : List ℕ → Option ScriptCall
call_of_line line = option_or (after_prefix (codes "client 1 call Put ") line >>= put_of_numbers) (after_prefix (codes "client 1 call Get ") line >>= get_of_number)

-- the calls of lines that all are a call's
abbrev pub calls_of_lines : List (List ℕ) → Option (List ScriptCall)
calls_of_lines [] = Some []
calls_of_lines (line ∷ lines) = do
  call ← call_of_line line
  calls ← calls_of_lines lines
  Some (call ∷ calls)

-- the number is within a BIGINT's range
abbrev pub IsBigint : ℤ → Type 0
IsBigint z = (neg_ℤ (pos greatest) ≤ℤ z) × (z ≤ℤ pos greatest)

-- the numbers of a call are within a BIGINT's range
abbrev pub HasBigints : ScriptCall → Type 0
HasBigints (Put id balance) = IsBigint id × IsBigint balance
HasBigints (Get id) = IsBigint id

-- The whole text

-- the greatest length of a text, in bytes
abbrev pub longest_input : ℕ
longest_input = 67108864

-- how many calls a script may have
abbrev pub most_calls : ℕ
most_calls = 100000

-- how many lines the head has
abbrev pub head_size : ℕ
head_size = 28

-- the head: the lines before the calls
unfoldable pub head : List (List ℕ)
head =
    codes "%deployment"
    ∷ codes "hosts = 1"
    ∷ codes "sites = 1"
    ∷ codes "k = 0"
    ∷ codes "clients = 1"
    ∷ codes "%ddl"
    ∷ codes "CREATE TABLE acct (id BIGINT NOT NULL, bal BIGINT NOT NULL, PRIMARY KEY (id));"
    ∷ codes "PARTITION TABLE acct ON COLUMN id;"
    ∷ codes "CREATE PROCEDURE Put PARTITION ON TABLE acct COLUMN id PARAMETER 0 AS INSERT INTO acct VALUES (?, ?);"
    ∷ codes "CREATE PROCEDURE Get PARTITION ON TABLE acct COLUMN id PARAMETER 0 AS SELECT bal FROM acct WHERE id = ?;"
    ∷ codes "CREATE PROCEDURE Add PARTITION ON TABLE acct COLUMN id PARAMETER 0 AS PROGRAM (id BIGINT, n BIGINT) BEGIN"
    ∷ codes "  SQL r = SELECT bal FROM acct WHERE id = :id;"
    ∷ codes "  IF ROWS(r) = 0 THEN ABORT 'no account'; END;"
    ∷ codes "  LET b = FIRST(r.bal) + :n;"
    ∷ codes "  IF :b < 0 THEN ABORT 'below zero'; END;"
    ∷ codes "  SQL UPDATE acct SET bal = :b WHERE id = :id;"
    ∷ codes "  RETURN :b;"
    ∷ codes "END;"
    ∷ codes "CREATE PROCEDURE Move AS PROGRAM (src BIGINT, dst BIGINT, n BIGINT) BEGIN"
    ∷ codes "  SQL r = SELECT bal FROM acct WHERE id = :src;"
    ∷ codes "  SQL t = SELECT bal FROM acct WHERE id = :dst;"
    ∷ codes "  IF ROWS(r) = 0 OR ROWS(t) = 0 OR FIRST(r.bal) < :n THEN ABORT 'cannot move'; END;"
    ∷ codes "  SQL UPDATE acct SET bal = bal - :n WHERE id = :src;"
    ∷ codes "  SQL UPDATE acct SET bal = bal + :n WHERE id = :dst;"
    ∷ codes "  RETURN FIRST(r.bal) - :n;"
    ∷ codes "END;"
    ∷ codes "CREATE PROCEDURE Total AS SELECT SUM(bal) FROM acct;"
    ∷ codes "%script"
    ∷ []

-- the lines that follow these first ones, where they stand first
abbrev pub after_lines : List (List ℕ) → List (List ℕ) → Option (List (List ℕ))
after_lines [] lines = Some lines
after_lines (wanted ∷ first) [] = None
after_lines (wanted ∷ first) (line ∷ lines) = if bytes_eq line wanted then after_lines first lines else None

-- the calls of a text's lines: the head, then calls, and nothing after the last LF
abbrev pub calls_in : Lines → Option (List ScriptCall)
calls_in text = if length text.rest == 0 then after_lines head text.ended >>= (λ lines.
    if nat_le (length lines) most_calls then calls_of_lines lines else None) else None

-- the calls of a text of the form, and None of any other text
unfoldable pub calls_of_text : List ℕ → Option (List ScriptCall)
calls_of_text text = if nat_le (length text) longest_input then calls_in (lines_of text) else None

-- the first wrong line from this number on, after the head: no call, or one too many, or not ended by an LF
abbrev pub wrong_call : ℕ → List (List ℕ) → List ℕ → Option ℕ
wrong_call number [] rest = if length rest == 0 then None else Some number
wrong_call number (line ∷ lines) rest = if nat_le number (head_size + most_calls) && is_some (call_of_line line)
    then wrong_call (number + 1) lines rest else Some number

-- the first wrong line from this number on, where these lines of the head come first
abbrev pub wrong_from : ℕ → List (List ℕ) → List (List ℕ) → List ℕ → Option ℕ
wrong_from number [] lines rest = wrong_call number lines rest
wrong_from number (wanted ∷ first) [] rest = Some number
wrong_from number (wanted ∷ first) (line ∷ lines) rest = if bytes_eq line wanted
    then wrong_from (number + 1) first lines rest else Some number

-- the number of the first line that isn't of the form, from 1, where one isn't; 1 of a text that is too long
unfoldable pub first_wrong_line : List ℕ → Option ℕ
first_wrong_line text = if nat_lt longest_input (length text) then Some 1
    else wrong_from 1 head (lines_of text).ended (lines_of text).rest
