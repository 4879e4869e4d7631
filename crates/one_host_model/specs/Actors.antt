-- Actors, and what they send.
use Rattle.std.specs.Prelude.{◌==◌, Bool, true, false, if◌then◌else◌, List, [], ◌∷◌}
use Rattle.volt_wire.specs.declared.actor.Actor.{Actor}
use Rattle.volt_wire.specs.declared.actor.Actor.TheVariants.{Director, Client, Agent, Site, Scanner}
use Rattle.one_host_model.specs.declared.message.Msg.{Msg}

-- whether two actors are one
abbrev pub same : Actor → Actor → Bool
same Director Director = true
same (Client a) (Client b) = a == b
same (Agent a) (Agent b) = a == b
same (Site a) (Site b) = a == b
same (Scanner a) (Scanner b) = a == b
same _ _ = false

-- What an event sends: to each actor, its messages in order.
abbrev pub Sends : Type 0
Sends = Actor → List Msg

-- nothing is sent
abbrev pub nothing : Sends
nothing b = []

-- one message is sent, to this actor
abbrev pub only : Actor → Msg → Sends
only to m b = if same to b then m ∷ [] else []
