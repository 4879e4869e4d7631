-- Calls one after another, where each partition has its share and nothing has the whole database.
use Rattle.std.specs.Prelude.{◌≡◌, ℕ, ◌<◌, List}
use Rattle.sql_plan.specs.declared.plan.Plan.{Plan}
use Rattle.sql_meaning.specs.Calls.{Call, serial}
use Rattle.sql_meaning.specs.Rounds.{serial_on_shares}
use Rattle.sql_meaning.specs.Database.{Database, share}
use Rattle.sql_laws.specs.InRounds.{shares_of}

pub record OnShares (plan : Plan) (db : Database) (calls : List Call) : Type 0 where
  pub replies : (serial_on_shares plan (shares_of plan db) calls).1 ≡ (serial plan db calls).1
  pub shares : (part : ℕ) → part < plan.parts → (serial_on_shares plan (shares_of plan db) calls).0 part ≡ share plan.parts plan.catalog part (serial plan db calls).0
