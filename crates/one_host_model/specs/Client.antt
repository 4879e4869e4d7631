-- A client submits its calls one after another, and notes how each ended.
use Rattle.std.specs.Prelude.{ℕ, ◌==◌, Bool, true, false, List, [], ◌∷◌, ◌++◌, Option, Some, None}
use Rattle.volt_wire.specs.declared.actor.Actor.TheVariants.{Director, Agent}
use Rattle.one_host_model.specs.declared.message.Msg.{Msg}
use Rattle.one_host_model.specs.declared.message.Msg.TheVariants as msg
use Rattle.one_host_model.specs.declared.input.Ended.{Ended}
use Rattle.one_host_model.specs.declared.state.Due.{Due}
use Rattle.one_host_model.specs.Actors.{Sends, only}

pub record ClientState : Type 0 where
  -- the calls that it has still to submit, in order
  pub left : List Due
  -- the call that waits for its answer, and the stamp of its submission
  pub pending : Option (ℕ × ℕ)
  -- the calls that ended, in that order
  pub ended : List Ended

-- it may submit: a call is left, and none waits for its answer
abbrev pub may_submit : List Due → Option (ℕ × ℕ) → Bool
may_submit (due ∷ left) None = true
may_submit _ _ = false

-- Submit: the next call is sent to the agent of the one host, whose start is 1, and the director is told
abbrev pub submitted : ℕ → ClientState → List Due → ClientState
submitted stamp c [] = c
submitted stamp c (due ∷ left) = record c { left = left; pending = Some (due.call, stamp) }

abbrev pub submit_sends : List Due → Sends
submit_sends [] b = []
submit_sends (due ∷ left) b = only Director msg.Told b ++ only (Agent 0) (msg.Call due.call 1 due.part due.body) b

-- the call ends at this stamp, if it is the one that waits
abbrev pub ends : Bool → ℕ → ℕ → ClientState → ℕ → ℕ → List ℕ → ClientState
ends true stamp n c call since reply =
    record c {
      pending = None;
      ended = c.ended ++ record { submitted = since; ended = stamp; reply = reply; call = call; client = n } ∷ [];
    }
ends false stamp n c call since reply = c

abbrev pub answered : ℕ → ℕ → ClientState → Option (ℕ × ℕ) → ℕ → List ℕ → ClientState
answered stamp n c None call reply = c
answered stamp n c (Some pending) call reply = ends (pending.0 == call) stamp n c call pending.1 reply

-- Client n after a message. It sends nothing.
abbrev pub client_after : ℕ → ℕ → ClientState → Msg → ClientState
client_after stamp n c (msg.Answer call reply) = answered stamp n c c.pending call reply
client_after stamp n c m = c
