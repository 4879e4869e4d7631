-- What an outbox holds for an actor.
use Rattle.std.specs.Prelude.{◌≡◌, if◌then◌else◌, List, [], ◌∷◌, ◌++◌}
use Rattle.volt_wire.specs.declared.actor.Actor.{Actor}
use Rattle.one_host_model.specs.declared.message.Msg.{Msg}
use Rattle.one_host_model.specs.Actors.{same, Sends}

-- the messages to one actor, in order
abbrev pub sent_to : Actor → List (Actor × Msg) → List Msg
sent_to b [] = []
sent_to b (m ∷ ms) = if same m.0 b then m.1 ∷ sent_to b ms else sent_to b ms

-- the new outbox has besides what the old one had these messages for each actor
abbrev pub SendsMore : List (Actor × Msg) → List (Actor × Msg) → Sends → Type 0
SendsMore old new sends = (b : Actor) → sent_to b new ≡ sent_to b old ++ sends b
