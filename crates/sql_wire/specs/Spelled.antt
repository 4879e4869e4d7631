-- What has a spelling: each number and each length fits the bytes that hold it, and each value is one. And what is asked
-- of that which is to be spelled, besides what its type says.
use Rattle.std.specs.Prelude.{ℕ, ◌<◌, ◌^◌, List, Option, Some, None, Result, Ok, Err}
use Rattle.byte_codec.specs.Exactness.{FitsIn, IsWide}
use Rattle.volt_value.specs.declared.value.Value.TheVariants.{Text}
use Rattle.volt_value.specs.Values.{HasSpelling, IsValue}
use Rattle.sql_plan.specs.Rows.{Cells}
use Rattle.sql_plan.specs.declared.fault.Fault.{Fault}
use Rattle.sql_plan.specs.declared.partial.Gathered.{Gathered}
use Rattle.sql_plan.specs.declared.partial.Gathered.TheVariants as gathered
use Rattle.sql_plan.specs.declared.partial.Group.{Group}
use Rattle.sql_plan.specs.declared.partial.KeyedRow.{KeyedRow}
use Rattle.sql_plan.specs.declared.partial.Partial.{Partial}
use Rattle.sql_plan.specs.declared.partial.Partial.TheVariants as partial
use Rattle.sql_plan.specs.declared.reply.Cause.{Cause}
use Rattle.sql_plan.specs.declared.reply.Cause.TheVariants as cause
use Rattle.sql_plan.specs.declared.reply.ProcReply.{ProcReply}
use Rattle.sql_plan.specs.declared.reply.ProcReply.TheVariants as reply
use Rattle.sql_plan.specs.declared.row_key.Directed.{Directed}
use Rattle.sql_plan.specs.declared.row_key.Directed.TheVariants as directed
use Rattle.sql_wire.specs.declared.answers.Answer.{Answer}
use Rattle.sql_wire.specs.declared.answers.Answer.TheVariants as answer
use Rattle.sql_wire.specs.declared.bodies.CallBody.{CallBody}
use Rattle.sql_wire.specs.declared.bodies.StatementBody.{StatementBody}
use Rattle.sql_wire.specs.declared.bodies.RoundBody.{RoundBody}
use Rattle.sql_wire.specs.declared.bodies.RoundBody.TheVariants as round

-- ---- rows of replies, and arguments: 255 values at most

abbrev pub RowFits : Cells → Type 0
RowFits row = FitsIn (2 ^ 8) IsValue row

abbrev pub CanSpellRow : Cells → Type 0
CanSpellRow row = FitsIn (2 ^ 8) HasSpelling row

-- ---- calls and rounds

abbrev pub CallFits : CallBody → Type 0
CallFits call = (call.procedure < 2 ^ 16) × RowFits call.args

abbrev pub StatementFits : StatementBody → Type 0
StatementFits s = (s.procedure < 2 ^ 16) × ((s.statement < 2 ^ 16) × RowFits s.args)

abbrev pub RoundFits : RoundBody → Type 0
RoundFits round.Nothing = Unit {0}
RoundFits (round.Statement s) = StatementFits s

abbrev pub CanSpellRound : RoundBody → Type 0
CanSpellRound round.Nothing = Unit {0}
CanSpellRound (round.Statement s) = CanSpellRow s.args

-- ---- replies

abbrev pub CauseFits : Cause → Type 0
CauseFits (cause.User text) = IsValue (Text text)
CauseFits _ = Unit {0}

abbrev pub CanSpellCause : Cause → Type 0
CanSpellCause (cause.User text) = HasSpelling (Text text)
CanSpellCause _ = Unit {0}

abbrev pub ReplyFits : ProcReply → Type 0
ReplyFits (reply.Ok rows) = FitsIn (2 ^ 32) RowFits rows.rows
ReplyFits (reply.Abort why) = CauseFits why

abbrev pub CanSpellReply : ProcReply → Type 0
CanSpellReply (reply.Ok rows) = FitsIn (2 ^ 32) CanSpellRow rows.rows
CanSpellReply (reply.Abort why) = CanSpellCause why

-- ---- parts

abbrev pub DirectedFits : Directed → Type 0
DirectedFits (directed.Ascending x) = IsValue x
DirectedFits (directed.Descending x) = IsValue x

abbrev pub CanSpellDirected : Directed → Type 0
CanSpellDirected (directed.Ascending x) = HasSpelling x
CanSpellDirected (directed.Descending x) = HasSpelling x

abbrev pub KeyedFits : KeyedRow → Type 0
KeyedFits r = FitsIn (2 ^ 32) DirectedFits r.key × FitsIn (2 ^ 32) IsValue r.row

abbrev pub CanSpellKeyed : KeyedRow → Type 0
CanSpellKeyed r = FitsIn (2 ^ 32) CanSpellDirected r.key × FitsIn (2 ^ 32) HasSpelling r.row

abbrev pub LimitFits : Option ℕ → Type 0
LimitFits None = Unit {0}
LimitFits (Some n) = n < 2 ^ 64

abbrev pub GatheredFits : Gathered → Type 0
GatheredFits (gathered.Count n) = n < 2 ^ 64
GatheredFits (gathered.Sum None) = Unit {0}
GatheredFits (gathered.Sum (Some z)) = IsWide z
GatheredFits (gathered.Min x) = IsValue x
GatheredFits (gathered.Max x) = IsValue x

abbrev pub CanSpellGathered : Gathered → Type 0
CanSpellGathered (gathered.Min x) = HasSpelling x
CanSpellGathered (gathered.Max x) = HasSpelling x
CanSpellGathered _ = Unit {0}

abbrev pub GroupFits : Group → Type 0
GroupFits g = FitsIn (2 ^ 32) IsValue g.key × FitsIn (2 ^ 32) GatheredFits g.gathered

abbrev pub CanSpellGroup : Group → Type 0
CanSpellGroup g = FitsIn (2 ^ 32) HasSpelling g.key × FitsIn (2 ^ 32) CanSpellGathered g.gathered

abbrev pub PartFits : Partial → Type 0
PartFits (partial.Count n) = n < 2 ^ 64
PartFits (partial.Rows rows limit) = LimitFits limit × FitsIn (2 ^ 32) KeyedFits rows
PartFits (partial.Groups groups limit) = LimitFits limit × FitsIn (2 ^ 32) GroupFits groups

abbrev pub CanSpellPart : Partial → Type 0
CanSpellPart (partial.Count n) = Unit {0}
CanSpellPart (partial.Rows rows limit) = FitsIn (2 ^ 32) CanSpellKeyed rows
CanSpellPart (partial.Groups groups limit) = FitsIn (2 ^ 32) CanSpellGroup groups

abbrev pub OutcomeFits : Result Partial Fault → Type 0
OutcomeFits (Ok part) = PartFits part
OutcomeFits (Err fault) = Unit {0}

abbrev pub CanSpellOutcome : Result Partial Fault → Type 0
CanSpellOutcome (Ok part) = CanSpellPart part
CanSpellOutcome (Err fault) = Unit {0}

abbrev pub AnswerFits : Answer → Type 0
AnswerFits answer.Nothing = Unit {0}
AnswerFits (answer.Outcome outcome) = OutcomeFits outcome

abbrev pub CanSpellAnswer : Answer → Type 0
CanSpellAnswer answer.Nothing = Unit {0}
CanSpellAnswer (answer.Outcome outcome) = CanSpellOutcome outcome
