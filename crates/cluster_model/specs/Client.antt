-- A client submits its calls one after another, and notes how each ended.
use Rattle.std.specs.Prelude.{ℕ, ◌+◌, ◌%◌, ◌==◌, ◌&&◌, Bool, false, if◌then◌else◌, List, [], ◌∷◌, ◌++◌, map, find, Option, Some, None, is_some, unwrap_or}
use Rattle.std.specs.List.{range_with_len}
use Rattle.volt_wire.specs.declared.actor.Actor.{Actor}
use Rattle.volt_wire.specs.declared.actor.Actor.TheVariants.{Director, Agent}
use Rattle.volt_wire.specs.declared.end.End.{End}
use Rattle.volt_wire.specs.declared.end.End.TheVariants as end
use Rattle.volt_wire.specs.declared.message.Msg.{Msg}
use Rattle.volt_wire.specs.declared.message.Msg.TheVariants as msg
use Rattle.cluster_model.specs.Words.{Deployment}
use Rattle.cluster_model.specs.Letters.{Blocks, Letter, Turn, becomes, sending, open_letter, only}

-- a call that the client has still to submit
pub record Due : Type 0 where
  pub call : ℕ
  -- the partition on which it runs, or none for a call on all
  pub part : Option ℕ
  pub body : List ℕ

-- a call that was submitted and hasn't ended: when first, and to the agent of which host and start it went last
pub record Submitted : Type 0 where
  pub due : Due
  pub at : ℕ
  pub host : ℕ
  pub start : ℕ

-- a call that ended
pub record Ended : Type 0 where
  pub call : ℕ
  pub client : ℕ
  pub submitted : ℕ
  pub ended : ℕ
  pub end : End

pub record ClientState : Type 0 where
  -- the calls that it has still to submit, in order
  pub left : List Due
  pub pending : Option Submitted
  -- the agents that it knows and that aren't closed: the start of each host's
  pub known : ℕ → Option ℕ
  -- the host to which it sends its calls at present
  pub present : ℕ
  -- the calls that ended, in that order
  pub ended : List Ended

-- ---- Submit

-- the host to which it sends: the present one, or the next after it, host 0 after the last, whose agent is known and
-- isn't closed
abbrev pub target : Deployment → ClientState → Option ℕ
target D c =
    find (λ h. is_some (c.known h)) (map (λ i. (c.present + i) % D.layout.hosts) (range_with_len 0 D.layout.hosts))

-- it may submit: a call is left, none is pending, and it knows an agent that isn't closed
abbrev pub may_submit : Deployment → ClientState → List Due → Option Submitted → Bool
may_submit D c (due ∷ left) None = is_some (target D c)
may_submit D c _ _ = false

-- the call, to an agent of this start
abbrev pub call_of : Due → ℕ → Msg Blocks
call_of due start = msg.Call due.call start due.part due.body

-- the next call goes to that agent, and the director is told
abbrev pub submit_to : ℕ → ClientState → Due → List Due → Option ℕ → Turn ClientState
submit_to stamp c due left None = becomes c
submit_to stamp c due left (Some h) =
    let start = unwrap_or (c.known h) 0 in
    sending
    (record c {
      left = left;
      present = h;
      pending = Some (record { due = due; at = stamp; host = h; start = start });
    })
    (λ b. only Director (open_letter msg.Told) b ++ only (Agent h) (open_letter (call_of due start)) b)

abbrev pub submits : Deployment → ℕ → ClientState → List Due → Turn ClientState
submits D stamp c [] = becomes c
submits D stamp c (due ∷ left) = submit_to stamp c due left (target D c)

-- ---- what it does with each message

-- the pending call ends at this stamp
abbrev pub ends : ℕ → ℕ → ClientState → Submitted → End → ClientState
ends stamp n c p e =
    record c {
      pending = None;
      ended = c.ended ++ record { call = p.due.call; client = n; submitted = p.at; ended = stamp; end = e } ∷ [];
    }

-- Answer: if that call is pending, it ends.
abbrev pub on_answer : ℕ → ℕ → ClientState → Option Submitted → ℕ → End → ClientState
on_answer stamp n c None call e = c
on_answer stamp n c (Some p) call e = if p.due.call == call then ends stamp n c p e else c

-- a call that is pending at an agent which has closed goes to the next one that it knows; without one it ends lost
abbrev pub asks_again : ℕ → ℕ → ClientState → Submitted → Option ℕ → Turn ClientState
asks_again stamp n c p None = becomes (ends stamp n c p end.Lost)
asks_again stamp n c p (Some h) =
    let start = unwrap_or (c.known h) 0 in
    sending (record c { present = h; pending = Some (record p { host = h; start = start }) })
    (only (Agent h) (open_letter (call_of p.due start)))

abbrev pub loses : Deployment → ℕ → ℕ → ClientState → Option Submitted → ℕ → ℕ → Turn ClientState
loses D stamp n c None host start = becomes c
loses D stamp n c (Some p) host start =
    if p.host == host && p.start == start then asks_again stamp n c p (target D c) else becomes c

abbrev pub without_agent : (ℕ → Option ℕ) → ℕ → ℕ → ℕ → Option ℕ
without_agent known host start h = if h == host && is_some (known h) && unwrap_or (known h) 0 == start then None else known h

-- Closed: that agent is closed. A call that is pending there is asked again.
abbrev pub on_closed : Deployment → ℕ → ℕ → ClientState → ℕ → ℕ → Turn ClientState
on_closed D stamp n c host start =
    let d = record c { known = without_agent c.known host start } in loses D stamp n d d.pending host start

-- Opened: that agent is known with this start.
abbrev pub on_opened : ClientState → ℕ → ℕ → ClientState
on_opened c host start = record c { known = λ h. if h == host then Some start else c.known h }

-- client n after a message, and what it sends
abbrev pub client_takes : Deployment → ℕ → ℕ → ClientState → Actor → Letter → Turn ClientState
client_takes D stamp n c (Agent h) l = elim l.body as (λ _. Turn ClientState) [
  | msg.Answer call e ↦ becomes (on_answer stamp n c c.pending call e)
  | msg.Closed start ↦ on_closed D stamp n c h start
  | msg.Opened start ↦ becomes (on_opened c h start)
  | _ ↦ becomes c
]
client_takes D stamp n c from l = becomes c
