-- An example: a database of one number, calls that add to it and answer what it was, and an engine that does so.
use Rattle.std.specs.Prelude.{ℕ, ◌+◌, ◌==◌, true, List, [], ◌∷◌, ◌++◌, pos, refl}
use Rattle.std.specs.List.{flat_map}
use Rattle.volt_base.specs.Semantics.{Semantics}
use Rattle.volt_base.specs.Replies.{replied}
use Rattle.volt_base.specs.declared.entry.Applied.{Applied}
use Rattle.volt_base.specs.declared.entry.Entry.{Entry}
use Rattle.volt_base.specs.declared.entry.LastReply.{LastReply}
use Rattle.volt_base.specs.declared.entry.Entry.TheVariants.{Sp}
use Rattle.volt_value.specs.declared.value.Value.TheVariants.{Int}
use Rattle.volt_report.specs.Report.{RowLine, Kept}
use Rattle.volt_report.specs.Spelling.{table_line, end_text}
use Rattle.soundness.specs.Meaning.{Meaning}
use Rattle.soundness.specs.Carries.{Carries}

-- the one row of the one table
abbrev pub total_rows : ℕ → List RowLine
total_rows total = record { table = []; row = Int (pos total) ∷ [] } ∷ []

abbrev pub adding : Meaning
adding =
    record {
      Database = ℕ;
      Call = ℕ;
      database = λ rows. 0;
      after = λ total n. total + n;
      reply = λ total n. Kept ((Int (pos total) ∷ []) ∷ []);
      parts = 1;
      is_call_of = λ p n. p == 0;
      part = λ p total. total_rows total;
    }

-- the number, the calls that were applied, and the last replies
pub record AddingState : Type 0 where
  pub total : ℕ
  pub applied : List Applied
  pub replies : List LastReply

-- what a body says to add
abbrev pub amount : List ℕ → ℕ
amount [] = 0
amount (n ∷ body) = n

abbrev pub tally_after : AddingState → Entry → AddingState
tally_after s (Sp call client point body) =
    record {
      total = s.total + amount body;
      applied = s.applied ++ record { call = call; point = point } ∷ [];
      replies = replied client call (end_text (Kept ((Int (pos s.total) ∷ []) ∷ []))) s.replies;
    }
tally_after s e = s

abbrev pub adding_engine : Semantics
adding_engine =
    record {
      State = AddingState;
      opening = λ p. record { total = 0; applied = []; replies = [] };
      fits = λ s e. true;
      after = tally_after;
      answer = λ s e. end_text (Kept ((Int (pos s.total) ∷ []) ∷ []));
      rows = λ s. flat_map table_line (total_rows s.total);
      applied = λ s. s.applied;
      replies = λ s. s.replies;
    }

abbrev pub adding_carried : Carries adding_engine adding
adding_carried =
    record {
      body = λ n. n ∷ [];
      reply_bytes = end_text;
      database = λ s. s.total;
      opens = refl;
      after = λ s call client point n. refl;
      answers = λ s call client point n. refl;
      is_answer = λ total n. refl;
      opens_applied = refl;
      applied = λ s call client point n. refl;
      rows = λ s. refl;
      one_part = refl;
      all_calls = λ n. refl;
    }
