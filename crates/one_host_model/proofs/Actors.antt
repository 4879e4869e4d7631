-- Actors that are the same.
use Rattle.std.proofs.Common.{◌≡◌, true, refl, ap}
use Rattle.std.proofs.lemmas.Bool.{false≢true, eqb-true}
use Rattle.volt_wire.specs.declared.actor.Actor.{Actor}
use Rattle.volt_wire.specs.declared.actor.Actor.TheVariants.{Director, Client, Agent, Site, Scanner}
use Rattle.one_host_model.specs.Actors.{same}

-- they are equal
pub same-true : (a b : Actor) → same a b ≡ true → a ≡ b
same-true Director Director e = refl
same-true (Client a) (Client b) e = ap Client (eqb-true a b e)
same-true (Agent a) (Agent b) e = ap Agent (eqb-true a b e)
same-true (Site a) (Site b) e = ap Site (eqb-true a b e)
same-true (Scanner a) (Scanner b) e = ap Scanner (eqb-true a b e)
same-true _ _ e = absurd (false≢true e)
