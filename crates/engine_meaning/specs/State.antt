-- The state of an engine over SQL.
use Rattle.std.specs.Prelude.{ℕ, List, [], ◌∷◌, ◌++◌, map, Option, Some, None}
use Rattle.volt_base.specs.declared.entry.Applied.{Applied}
use Rattle.volt_base.specs.declared.entry.LastReply.{LastReply}
use Rattle.volt_base.specs.Replies.{replied}
use Rattle.sql_plan.specs.declared.plan.Plan.{Plan}
use Rattle.sql_meaning.specs.Database.{Database}

-- A transaction on all partitions that is under way: its number, the round that it ran last, and the tables as they were
-- before its first.
pub record Open : Type 0 where
  pub transaction : ℕ
  pub round : ℕ
  pub before : Database

pub record SqlState : Type 0 where
  -- the number of the partition
  pub part : ℕ
  -- its share of the database
  pub tables : Database
  pub under_way : Option Open
  -- the last transaction on all partitions that was done, 0 where none was
  pub done : ℕ
  -- the calls that were applied, in their order
  pub applied : List Applied
  -- the last reply to each client, by rising client
  pub replies : List LastReply

-- a partition with nothing in it
abbrev pub nothing_in : Plan → ℕ → SqlState
nothing_in plan part =
    record {
      part = part;
      tables = map (λ table. []) plan.catalog.tables;
      under_way = None;
      done = 0;
      applied = [];
      replies = [];
    }

-- the tables as they were before the open transaction
abbrev pub before_open : Database → Option Open → Database
before_open tables None = tables
before_open tables (Some transaction) = transaction.before

abbrev pub tables_before : SqlState → Database
tables_before s = before_open s.tables s.under_way

-- a call is noted at its point, with its reply, aborted or not
abbrev pub noted : ℕ → ℕ → ℕ → List ℕ → SqlState → SqlState
noted call client point reply s =
    record s {
      applied = s.applied ++ record { call = call; point = point } ∷ [];
      replies = replied client call reply s.replies;
    }
