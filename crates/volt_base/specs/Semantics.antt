-- What the entries of a log mean to an engine.
use Rattle.std.specs.Prelude.{ℕ, Bool, List}
use Rattle.volt_base.specs.declared.entry.Entry.{Entry}
use Rattle.volt_base.specs.declared.entry.Applied.{Applied}
use Rattle.volt_base.specs.declared.entry.LastReply.{LastReply}

-- An abstract engine: the tables of one partition, of which the cluster knows these functions alone.
pub record Semantics : Type 1 where
  -- the tables, the applied list, and what an open transaction may take back
  pub State : Type 0
  -- a partition with nothing in it
  pub opening : ℕ → State
  -- whether an entry may come in this state
  pub fits : State → Entry → Bool
  -- the state after an entry
  pub after : State → Entry → State
  -- what the entry answers: the reply to a call
  pub answer : State → Entry → List ℕ
  -- the rows as a report prints them
  pub rows : State → List ℕ
  -- the calls that were applied, in their order
  pub applied : State → List Applied
  -- the last reply to each client, by rising client
  pub replies : State → List LastReply
