-- A call on all partitions that runs in rounds.
use Rattle.std.specs.Prelude.{◌≡◌, ℕ, ◌<◌}
use Rattle.sql_plan.specs.declared.plan.Plan.{Plan}
use Rattle.sql_meaning.specs.Calls.{Call, call}
use Rattle.sql_meaning.specs.Rounds.{call_in_rounds}
use Rattle.sql_meaning.specs.Database.{Database, share}

-- the share of each partition
abbrev pub shares_of : Plan → Database → ℕ → Database
shares_of plan db part = share plan.parts plan.catalog part db

pub record InRounds (plan : Plan) (db : Database) (c : Call) : Type 0 where
  pub reply : (call_in_rounds plan (shares_of plan db) c).1 ≡ (call plan db c).1
  pub shares : (part : ℕ) → part < plan.parts → (call_in_rounds plan (shares_of plan db) c).0 part ≡ share plan.parts plan.catalog part (call plan db c).0
