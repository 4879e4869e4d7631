-- What the instances speak of: the accounts, in three partitions.
use Rattle.std.specs.Prelude.{ℕ, [], ◌∷◌}
use Rattle.sql_plan.specs.declared.reply.ProcReply.{ProcReply}
use Rattle.sql_plan.specs.declared.reply.ProcReply.TheVariants as reply
use Rattle.sql_meaning.specs.Calls.{Call}
use Rattle.sql_meaning.specs.Database.{share}
use Rattle.sql_meaning.specs.Starter.{catalog, plan}
use Rattle.sql_scenarios.specs.Builders.{ids}
use Rattle.sql_instances.specs.Instances.{three}
use Rattle.sql_wire.specs.declared.bodies.StatementBody.{StatementBody}
use Rattle.engine_meaning.specs.State.{SqlState, nothing_in}
use Rattle.engine_meaning.specs.Rounds.{behind, entry_of}

-- each partition with its share
abbrev pub shared : ℕ → SqlState
shared part = record (nothing_in (plan 3) part) { tables = share 3 catalog part three }

-- the call of Total, and the statement that it asks
abbrev pub total : Call
total = record { proc = 4; args = [] }

abbrev pub sum_of_all : StatementBody
sum_of_all = record { procedure = 4; statement = 0; args = [] }

-- the partitions behind its one round, as transaction 1
abbrev pub summed : ℕ → SqlState
summed = behind (plan 3) (entry_of 1 1 sum_of_all) shared

-- the greatest integer is the sum
abbrev pub greatest : ProcReply
greatest = reply.Ok (record { rows = ids (9223372036854775807 ∷ []) })
