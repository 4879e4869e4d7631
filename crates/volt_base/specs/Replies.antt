-- The last reply to each client of a partition, as lists by rising client.
use Rattle.std.specs.Prelude.{ℕ, ◌==◌, nat_lt, if◌then◌else◌, List, [], ◌∷◌, Option, Some, None}
use Rattle.volt_base.specs.Semantics.{Semantics}
use Rattle.volt_base.specs.declared.entry.Entry.{Entry}
use Rattle.volt_base.specs.declared.entry.Entry.TheVariants.{Sp, Frag, Done}
use Rattle.volt_base.specs.declared.entry.LastReply.{LastReply}
use Rattle.volt_base.specs.declared.entry.Outcome.{Outcome}
use Rattle.volt_base.specs.declared.entry.Outcome.TheVariants.{Dropped, Kept, Aborted, Snapshot}

-- ---- lists of last replies

-- One reply more, of the lists by rising client: of each client's calls the greatest counts.
abbrev pub with_reply : LastReply → List LastReply → List LastReply
with_reply r [] = r ∷ []
with_reply r (x ∷ xs) =
    if r.client == x.client then (if nat_lt x.call r.call then r ∷ xs else x ∷ xs)
    else if nat_lt r.client x.client then r ∷ x ∷ xs else x ∷ with_reply r xs

abbrev pub with_replies : List LastReply → List LastReply → List LastReply
with_replies [] replies = replies
with_replies (r ∷ rs) replies = with_replies rs (with_reply r replies)

-- the last reply to a client, if there was one
abbrev pub last_reply_to : ℕ → List LastReply → Option LastReply
last_reply_to client [] = None
last_reply_to client (r ∷ rs) = if r.client == client then Some r else last_reply_to client rs

-- ---- that of a log

-- the reply to a client's call; client 0 is none
abbrev pub replied : ℕ → ℕ → List ℕ → List LastReply → List LastReply
replied client call reply replies =
    if client == 0 then replies else with_reply (record { client = client; call = call; reply = reply }) replies

-- the end of a transaction carries the reply
abbrev pub replied_by : Outcome → List LastReply → List LastReply
replied_by (Kept call client point reply) replies = replied client call reply replies
replied_by (Aborted call client point reply) replies = replied client call reply replies
replied_by _ replies = replies

-- a call on one partition is replied to by what its entry answers
abbrev pub replies_after : Entry → List ℕ → List LastReply → List LastReply
replies_after (Sp call client point body) answer replies = replied client call answer replies
replies_after (Frag m round body) answer replies = replies
replies_after (Done m outcome) answer replies = replied_by outcome replies

abbrev pub replies_from : (S : Semantics) → S.State → List Entry → List LastReply → List LastReply
replies_from S state [] replies = replies
replies_from S state (e ∷ es) replies = replies_from S (S.after state e) es (replies_after e (S.answer state e) replies)
