-- The engine carries out the calls on accounts.
use Rattle.std.proofs.Common.{◌≡◌, ℤ, Bool, true, false, Option, Some, None, refl, ap}
use Rattle.std.specs.Prelude.{is_some}
use Rattle.soundness.specs.Carries.{Carries}
use Rattle.soundness.specs.Sound.{is_answer}
use Rattle.account_engine.specs.declared.call.AccountCall.{AccountCall}
use Rattle.account_engine.specs.declared.call.AccountCall.TheVariants.{Put, Get}
use Rattle.account_engine.specs.Spelling.{body_of, reply_bytes}
use Rattle.account_engine.specs.Accounts.{Rows, balance_of, duplicate, one_integer, found, reply, accounts, carried_out, answer_to, accounts_semantics}
use Rattle.account_engine.specs.Again.{call_again}
use Rattle.std.specs.Prelude.{pos, if◌then◌else◌}

-- the balance or no row, and 1 or the fault, are answers
is_answer-found : (o : Option ℤ) → is_answer (found o) ≡ true
is_answer-found None = refl
is_answer-found (Some balance) = refl

is_answer-added : (there : Bool) → is_answer (if there then duplicate else one_integer (pos 1)) ≡ true
is_answer-added true = refl
is_answer-added false = refl

-- each reply is an answer
pub is_answer-reply : (rows : Rows) (c : AccountCall) → is_answer (reply rows c) ≡ true
is_answer-reply rows (Put id balance) = is_answer-added (is_some (balance_of rows id))
is_answer-reply rows (Get id) = is_answer-found (balance_of rows id)

-- states stand for their rows, and calls and replies are spelled as the engine reads and writes them
abbrev pub carried : Carries accounts_semantics accounts
carried = record {
  body = λ c. body_of c.call;
  reply_bytes = reply_bytes;
  database = λ s. s.rows;
  opens = refl;
  after = λ s call client point c. ap (λ (o : Option AccountCall). (carried_out s call client point o).rows) (call_again c.call c.valid);
  answers = λ s call client point c. ap (answer_to s) (call_again c.call c.valid);
  is_answer = λ rows c. is_answer-reply rows c.call;
  opens_applied = refl;
  applied = λ s call client point c. ap (λ (o : Option AccountCall). (carried_out s call client point o).applied) (call_again c.call c.valid);
  rows = λ s. refl;
  one_part = refl;
  all_calls = λ c. refl;
}
