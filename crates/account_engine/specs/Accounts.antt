-- The table acct (id BIGINT NOT NULL, bal BIGINT NOT NULL, PRIMARY KEY (id)), and what calls do to it.
use Rattle.std.specs.Prelude.{ℕ, ℤ, pos, ◌==◌, Bool, false, if◌then◌else◌, List, [], ◌∷◌, ◌++◌, map, Option, Some, None, codes, is_some, fold}
use Rattle.std.specs.List.{flat_map}
use Rattle.std.specs.Str.{bytes_eq}
use Rattle.std.specs.Ordering.{int_cmp}
use Rattle.std.specs.Map.{lookup}
use Rattle.std.specs.BTreeMap.{is_at, insert_entry}
use Rattle.volt_base.specs.Semantics.{Semantics}
use Rattle.volt_base.specs.declared.entry.Applied.{Applied}
use Rattle.volt_base.specs.Replies.{replied}
use Rattle.volt_base.specs.declared.entry.Entry.{Entry}
use Rattle.volt_base.specs.declared.entry.LastReply.{LastReply}
use Rattle.volt_base.specs.declared.entry.Entry.TheVariants.{Sp, Frag, Done}
use Rattle.volt_value.specs.declared.value.Value.{Value}
use Rattle.volt_value.specs.declared.value.Value.TheVariants.{Int}
use Rattle.volt_report.specs.Report.{RowLine, ReportEnd, Kept, Fault}
use Rattle.volt_report.specs.Spelling.{table_line}
use Rattle.soundness.specs.Meaning.{Meaning}
use Rattle.account_engine.specs.declared.call.AccountCall.{AccountCall}
use Rattle.account_engine.specs.declared.call.AccountCall.TheVariants.{Put, Get}
use Rattle.account_engine.specs.Calls.{ValidCall}
use Rattle.account_engine.specs.Spelling.{reply_bytes}
use Rattle.account_engine.specs.Reading.{call_of_body}

-- the rows of the table, each an id and its balance, by rising ids
abbrev pub Rows : Type 0
Rows = List (ℤ × ℤ)

-- the balance of an id, if the table has it
abbrev pub balance_of : Rows → ℤ → Option ℤ
balance_of rows id = lookup (is_at (int_cmp id)) rows

-- the rows with one more
abbrev pub with_row : Rows → ℤ → ℤ → Rows
with_row rows id balance = insert_entry int_cmp rows id balance

-- ---- what calls mean

-- Put adds a row where the id isn't there yet. Get changes nothing.
abbrev pub rows_after : Rows → AccountCall → Rows
rows_after rows (Put id balance) = if is_some (balance_of rows id) then rows else with_row rows id balance
rows_after rows (Get id) = rows

-- the fault of a key that is there already
abbrev pub duplicate : ReportEnd
duplicate = Fault 7

-- the end that gives one row of one integer
abbrev pub one_integer : ℤ → ReportEnd
one_integer z = Kept ((Int z ∷ []) ∷ [])

-- the balance that was found
abbrev pub found : Option ℤ → ReportEnd
found None = Kept []
found (Some balance) = one_integer balance

-- Put answers the number of rows that it added, 1, or the fault. Get answers the balance, or no row.
abbrev pub reply : Rows → AccountCall → ReportEnd
reply rows (Put id balance) = if is_some (balance_of rows id) then duplicate else one_integer (pos 1)
reply rows (Get id) = found (balance_of rows id)

-- ---- rows as a report has them

-- the table's name, and the line of a row and of each row
abbrev pub table_name : List ℕ
table_name = codes "acct"

abbrev pub line_of_row : ℤ × ℤ → RowLine
line_of_row row = record { table = table_name; row = Int row.0 ∷ Int row.1 ∷ [] }

abbrev pub row_lines : Rows → List RowLine
row_lines rows = map line_of_row rows

-- a row of two integers is added, and any other is passed over
abbrev pub with_values : Rows → List Value → Rows
with_values rows (Int id ∷ Int balance ∷ []) = with_row rows id balance
with_values rows _ = rows

-- a line of another table is passed over
abbrev pub with_line : Rows → RowLine → Rows
with_line rows line = if bytes_eq line.table table_name then with_values rows line.row else rows

-- the rows of these lines
abbrev pub rows_of : List RowLine → Rows
rows_of lines = fold with_line [] lines

-- What calls mean on the plain table. There is one partition, which has all rows.
abbrev pub accounts : Meaning
accounts = record {
  Database = Rows;
  Call = ValidCall;
  database = rows_of;
  after = λ rows c. rows_after rows c.call;
  reply = λ rows c. reply rows c.call;
  parts = 1;
  is_call_of = λ part c. part == 0;
  part = λ part rows. if part == 0 then row_lines rows else [];
}

-- ---- the engine

-- the rows, the calls that were applied, and the last reply to each client
pub record AccountsState : Type 0 where
  pub rows : Rows
  pub applied : List Applied
  pub replies : List LastReply

-- the state after a call that comes at this point: it is noted, aborted or not
abbrev pub carried_out : AccountsState → ℕ → ℕ → ℕ → Option AccountCall → AccountsState
carried_out s call client point None = s
carried_out s call client point (Some c) =
    record {
      rows = rows_after s.rows c;
      applied = s.applied ++ record { call = call; point = point } ∷ [];
      replies = replied client call (reply_bytes (reply s.rows c)) s.replies;
    }

-- the state after an entry: one that is no whole call changes nothing
abbrev pub after : AccountsState → Entry → AccountsState
after s (Sp call client point body) = carried_out s call client point (call_of_body body)
after s (Frag m round body) = s
after s (Done m outcome) = s

-- the reply to a call
abbrev pub answer_to : AccountsState → Option AccountCall → List ℕ
answer_to s None = []
answer_to s (Some c) = reply_bytes (reply s.rows c)

-- what an entry answers: one that is no whole call has no reply
abbrev pub answer : AccountsState → Entry → List ℕ
answer s (Sp call client point body) = answer_to s (call_of_body body)
answer s (Frag m round body) = []
answer s (Done m outcome) = []

-- an entry fits where it is a whole call whose body spells one
abbrev pub fits : Entry → Bool
fits (Sp call client point body) = is_some (call_of_body body)
fits (Frag m round body) = false
fits (Done m outcome) = false

-- the engine, which opens with no rows
abbrev pub accounts_semantics : Semantics
accounts_semantics = record {
  State = AccountsState;
  opening = λ part. record { rows = []; applied = []; replies = [] };
  fits = λ s e. fits e;
  after = after;
  answer = answer;
  rows = λ s. flat_map table_line (row_lines s.rows);
  applied = λ s. s.applied;
  replies = λ s. s.replies;
}
