-- When the code's world stands for a world.
use Rattle.std.specs.Prelude.{◌≡◌, Bool, true, false, List, [], ◌∷◌}
use Rattle.volt_base.specs.Semantics.{Semantics}
use Rattle.volt_wire.specs.declared.actor.Actor.{Actor}
use Rattle.volt_wire.specs.declared.event.Event.{Event}
use Rattle.one_host_model.specs.World as model
use Rattle.one_host_model.specs.Runs.{is_event_of_them}
use Rattle.cluster_core.specs.declared.world.World.{World}
use Rattle.cluster_core.specs.Channels.{queue_of}
use Rattle.cluster_core.specs.Site.{StandsForSite}

-- Actor by actor and channel by channel. The engine's states are seen by `state`.
pub record StandsFor (S : Semantics) {M E : Type 0} (state : E → S.State) (code : World M E) (w : model.World) : Type 0 where
  pub told : code.director.told ≡ w.told
  pub client : code.client ≡ w.clients 1
  pub agent : code.agent ≡ w.agents 0
  pub slot : code.site.slot ≡ 0
  pub site : StandsForSite S 0 code.site.log (state code.site.engine) (w.sites 0)
  pub channels : (from to : Actor) → queue_of code.channels from to ≡ w.channel from to
  -- nothing is left to be sent
  pub outbox : code.outbox ≡ []
  pub trace : code.trace.items ≡ w.trace

-- no event may happen but those of the actors of this world
abbrev pub HasThemAlone : model.World → Type 0
HasThemAlone w = (e : Event) → model.can w e ≡ true → is_event_of_them e ≡ true

-- an event, where it may happen
abbrev pub if_it_may : Bool → Event → List Event
if_it_may true e = e ∷ []
if_it_may false e = []
