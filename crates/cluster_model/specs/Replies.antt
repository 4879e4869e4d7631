-- By the last reply to its client a call that is asked again isn't run again.
use Rattle.std.specs.Prelude.{ℕ, zero, ◌==◌, nat_lt, if◌then◌else◌, List, [], ◌∷◌, Option, Some, None}
use Rattle.volt_base.specs.declared.entry.Entry.{Entry}
use Rattle.volt_base.specs.declared.entry.LastReply.{LastReply}
use Rattle.volt_wire.specs.declared.end.End.{End}
use Rattle.volt_wire.specs.declared.end.End.TheVariants as end
use Rattle.cluster_model.specs.Engine.{Database}
pub use Rattle.volt_base.specs.Replies.{with_reply, with_replies, last_reply_to, replied, replied_by, replies_after, replies_from}
use Rattle.cluster_model.specs.declared.known.Known.{Known}
use Rattle.cluster_model.specs.declared.known.Known.TheVariants.{IsNew, IsAnswered, IsPast}

-- the last reply to each client in a partition, by rising client
abbrev pub last_replies : (E : Database) → ℕ → List Entry → List LastReply
last_replies E part log = replies_from E.tables (E.opening part) log []

-- ---- what a call ends with

-- a reply whose first byte is 0 is that of a call that went through
abbrev pub end_of_reply : List ℕ → End
end_of_reply (zero ∷ bytes) = end.Ok (zero ∷ bytes)
end_of_reply reply = end.Abort reply

-- what the last reply to its client says of a call
abbrev pub known_by : ℕ → Option LastReply → Known
known_by call None = IsNew
known_by call (Some r) =
    if nat_lt r.call call then IsNew else if r.call == call then IsAnswered (end_of_reply r.reply) else IsPast
