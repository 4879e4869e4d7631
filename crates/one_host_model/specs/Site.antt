-- A site keeps the log of its copy, and the tables that the log leads to.
use Rattle.std.specs.Prelude.{ℕ, Bool, List, [], ◌∷◌, ◌++◌, length, nat_lt}
use Rattle.volt_base.specs.Semantics.{Semantics}
use Rattle.volt_base.specs.declared.entry.Entry.{Entry}
use Rattle.volt_base.specs.declared.entry.Entry.TheVariants.{Sp}
use Rattle.volt_wire.specs.declared.actor.Actor.{Actor}
use Rattle.volt_wire.specs.declared.actor.Actor.TheVariants.{Agent}
use Rattle.one_host_model.specs.declared.message.Msg.{Msg}
use Rattle.one_host_model.specs.declared.message.Msg.TheVariants as msg
use Rattle.one_host_model.specs.declared.state.Waiting.{Waiting}
use Rattle.one_host_model.specs.Actors.{Sends, only}

-- the state after these entries
abbrev pub replay : (S : Semantics) → S.State → List Entry → S.State
replay S state [] = state
replay S state (e ∷ es) = replay S (S.after state e) es

pub record SiteState : Type 0 where
  -- all entries since the boot
  pub log : List Entry
  -- how many of them are on disk
  pub on_disk : ℕ
  -- the replies to entries that aren't firm yet, in order of the log
  pub waiting : List Waiting

-- what the log of site i has led to. The site of slot i has the copy of partition i.
abbrev pub tables : (S : Semantics) → ℕ → SiteState → S.State
tables S i s = replay S (S.opening i) s.log

-- SpCall from an agent: the leader appends the call with this stamp as its point, and applies it. The
-- reply is what the entry answers at its place in the log, and waits.
abbrev pub site_after : (S : Semantics) → ℕ → ℕ → SiteState → Actor → Msg → SiteState
site_after S stamp i s (Agent h) (msg.SpCall call start client body) =
    record s {
      log = s.log ++ Sp call client stamp body ∷ [];
      waiting = s.waiting ++ record { host = h; start = start; call = call; reply = S.answer (tables S i s) (Sp call client stamp body) } ∷ [];
    }
site_after S stamp i s from m = s

-- a site owes its disk an entry
abbrev pub owes : SiteState → Bool
owes s = nat_lt s.on_disk (length s.log)

-- Sync: all entries are on disk. The leader has no copies to wait for, so they are firm, and each reply
-- that waited is sent.
abbrev pub synced : SiteState → SiteState
synced s = record s { on_disk = length s.log; waiting = [] }

-- the replies that wait, each to the agent that asked for it
abbrev pub replies : List Waiting → Sends
replies [] b = []
replies (w ∷ later) b = only (Agent w.host) (msg.Reply w.call w.start w.reply) b ++ replies later b

abbrev pub sync_sends : SiteState → Sends
sync_sends s = replies s.waiting
