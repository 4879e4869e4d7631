-- A call on one partition.
use Rattle.std.specs.Prelude.{◌≡◌, ℕ}
use Rattle.sql_plan.specs.declared.plan.Plan.{Plan}
use Rattle.sql_meaning.specs.Calls.{Call, call, own_call}
use Rattle.sql_meaning.specs.Database.{Database, share}

pub record OnOnePart (plan : Plan) (db : Database) (c : Call) (part : ℕ) : Type 0 where
  pub reply : (call plan db c).1 ≡ (own_call plan part (share plan.parts plan.catalog part db) c).1
  pub own : share plan.parts plan.catalog part (call plan db c).0 ≡ (own_call plan part (share plan.parts plan.catalog part db) c).0
  pub others : (q : ℕ) → (q ≡ part → ⊥) → share plan.parts plan.catalog q (call plan db c).0 ≡ share plan.parts plan.catalog q db
