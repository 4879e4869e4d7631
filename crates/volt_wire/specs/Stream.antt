-- What a leader tells a joiner before it streams its tables.
use Rattle.std.specs.Prelude.{ℕ, List, Option}
use Rattle.volt_base.specs.declared.entry.Applied.{Applied}
use Rattle.volt_base.specs.declared.entry.LastReply.{LastReply}
use Rattle.volt_base.specs.declared.entry.Outcome.{Outcome}

pub record StreamHead : Type 0 where
  -- the position at which the tables are read out
  pub stream_start : ℕ
  -- the mark that the joiner's base gets
  pub mark : ℕ
  -- the calls that were applied up to that position
  pub applied : List Applied
  -- the last multi-partition transaction that was done by then
  pub last : Option (ℕ × Outcome)
  -- the last reply to each client by then, by rising client
  pub replies : List LastReply
