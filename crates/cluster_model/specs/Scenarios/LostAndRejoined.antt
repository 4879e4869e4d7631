-- Two hosts with a copy each: one is lost and comes back while calls are served.
use Rattle.std.specs.Prelude.{ℕ, true, List, [], ◌∷◌, Some}
use Rattle.volt_base.specs.declared.entry.Entry.TheVariants.{Sp}
use Rattle.volt_wire.specs.declared.end.End.TheVariants as end
use Rattle.volt_wire.specs.declared.item.Item.TheVariants as item
use Rattle.cluster_model.specs.Disk.{Shown}
use Rattle.cluster_model.specs.World.{World, Input}
use Rattle.cluster_model.specs.Runs.{by_first}
use Rattle.cluster_model.specs.Toy.{toy, put, gives}
use Rattle.cluster_model.specs.SiteState.{is_joiner}
use Rattle.cluster_model.specs.Scenarios.{until, Stampless, deployed, blank, begins, calls_on, shows, at_once, after_calls}

abbrev pub input : Input
input =
    blank (deployed 2 1 1 2) (calls_on 2 0 (put 1 10) ∷ calls_on 2 0 (put 2 20) ∷ [])
    (after_calls 1 (item.Lose 0) ∷ at_once (item.Rejoin 0) ∷ after_calls 2 (item.Look 0) ∷ [])

abbrev pub start : World
start = begins input

abbrev pub last : World
last = by_first toy 90 start

-- the world when its site runs again as a joiner, and what its disk shows then: what it showed when it stopped
abbrev pub joining : World
joining = until (λ w. is_joiner (w.sites 0)) 90 start

abbrev pub contents : List Shown
contents = Some (record { mark = 1; base = 0; log = Sp 1 2 4 (put 1 10) ∷ [] }) ∷ []

abbrev pub rows : List ℕ
rows = 1 ∷ 10 ∷ 2 ∷ 20 ∷ []

abbrev pub shown : Stampless
shown =
    record {
      ends = (1, end.Ok (gives 1)) ∷ (2, end.Ok (gives 1)) ∷ [];
      serial = 1 ∷ 2 ∷ [];
      copies = shows 0 2 rows ∷ shows 1 2 rows ∷ [];
      looks = shows 0 2 rows ∷ [];
      enabled = [];
      serves = true;
    }
