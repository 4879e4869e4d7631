-- A site takes a message, or syncs: all holds after it.
use Rattle.log_laws.proofs.Names.{◌≡◌, ◌<◌, Bool, true, false, List, [], ◌∷◌, ◌++◌, refl, sym, subst, ap, ◌==◌, arith, inl, eqb-true, nat_tests, ℕ, take, if◌then◌else◌, Actor, Agent, Site, Msg, Database, host_of_slot, after_parts, after_failure, Blocks, Letter, Turn, becomes, ◌▸◌, arrival, Arrival, Taken, Refused, Waits, SiteState, settles, ordered, site_handler, site_runs, site_takes, written, after_sync, syncs, parts_of_message, parts_of_sync, site_turn, sync_turn, Environment, NoFault, DiskFails, NoMemory, DisksShow, LogState, LogsHold, IsSlot, ForeignOk, site_start, term_at}
use Rattle.volt_wire.specs.declared.message.Msg.TheVariants as msg
use Rattle.cluster_model.specs.Site.{takes_waiting, on_start}
use Rattle.cluster_model.specs.Sync.{start_after}
use Rattle.log_laws.proofs.Kept.{site_popped, LogsGo, goes-same, goes-turns, power-goes}
use Rattle.log_laws.proofs.Messages.Pops.{pops-kind, pops-refused, pops-stopped, waits-goes}
use Rattle.log_laws.proofs.Firmness.Syncs.{sync-goes}
use Rattle.log_laws.proofs.Messages.Stops.{AfterTurn, stops_so-after, stops_so-message, on_stop-after, on_start-after}
use Rattle.log_laws.proofs.Runs.SiteTurns.{taken-after, settled-after}

-- ---- a site takes a message

goes-after : (S : LogState) (i : ℕ) (t : Turn SiteState) → LogsGo S i t → AfterTurn S i t
goes-after S i t g = (g.logs, g.holds, g.grown, g.enters, inl g.start)

module _ (E : Database) (stamp : ℕ) (S : LogState) (H : LogsHold S) (i : ℕ) (slot : IsSlot S i) (none : S.pending i ≡ []) (from : Actor) (l : Letter) (ls : List Letter)
    (is : S.words.channel from (Site i) ≡ l ∷ ls) where
  abbrev T : LogState
  T = site_popped S from i

  -- one that runs
  runs-after : (site_start S i == 0) ≡ false → AfterTurn T i (site_runs E S.words.deployment stamp i (S.sites i) from l)
  runs-after up = choice (arrival (site_start S i) (term_at S i) l) refl
    where
      runs : 0 < site_start S i
      runs = grind (arith, nat_tests, up)

      choice : (a : Arrival) → arrival (site_start S i) (term_at S i) l ≡ a → AfterTurn T i (elim a as (λ _. Turn SiteState) [
        | Taken ↦ ordered (site_handler E S.words.deployment stamp i (S.sites i) from l ▸ takes_waiting E S.words.deployment stamp i ▸ settles E S.words.deployment i)
        | Waits ↦ becomes (record (S.sites i) { waiting = (S.sites i).waiting ++ record { from = from; letter = l } ∷ [] })
        | Refused ↦ becomes (S.sites i)
      ])
      choice Taken e = taken-after E stamp S H i runs none from l ls is e
      choice Waits e = goes-after T i _ (waits-goes S H from i l ls is runs e)
      choice Refused e = goes-after T i _ (goes-same T i (pops-refused S H from i l ls is e))

  -- one that doesn't drops what comes
  running-after : (b : Bool) → (site_start S i == 0) ≡ b → AfterTurn T i (if b then becomes (S.sites i) else site_runs E S.words.deployment stamp i (S.sites i) from l)
  running-after true e = goes-after T i _ (goes-same T i (pops-stopped S H from i l ls is (eqb-true (site_start S i) 0 e)))
  running-after false e = runs-after e

-- a start comes from the agent of the slot's host
start-from : (S : LogState) → LogsHold S → (from : Actor) (i : ℕ) (l : Letter) (ls : List Letter) (a : ℕ) → S.words.channel from (Site i) ≡ record l { body = msg.Start a } ∷ ls
    → from ≡ Agent (host_of_slot S.words.deployment i)
start-from S H from i l ls a is = each from (rw is at (H.foreign from i)).0
  where
    each : (b : Actor) → ForeignOk S i b (record l { body = msg.Start a }) → b ≡ Agent (host_of_slot S.words.deployment i)
    each (Agent h) k = ap Agent k
    each from k = absurd k

module _ (E : Database) (stamp : ℕ) (S : LogState) (H : LogsHold S) (i : ℕ) (slot : IsSlot S i) (none : S.pending i ≡ []) (from : Actor) where
  -- All holds after a site has taken a message.
  takes-after : (l : Letter) (ls : List Letter) (m : Msg Blocks) → S.words.channel from (Site i) ≡ record l { body = m } ∷ ls
      → AfterTurn (site_popped S from i) i (site_takes E S.words.deployment stamp i (S.sites i) from (record l { body = m }))
  takes-after l ls m = elim m as (λ m. S.words.channel from (Site i) ≡ record l { body = m } ∷ ls
      → AfterTurn (site_popped S from i) i (site_takes E S.words.deployment stamp i (S.sites i) from (record l { body = m }))) [
        | msg.Start a ↦ λ is.
            let own = start-from S H from i l ls a is in
            subst (λ b. AfterTurn (site_popped S b i) i (on_start i (S.sites i) a)) (sym own) (on_start-after S H i l ls a (rw own at is) slot none)
        | msg.Stop a ↦ λ is. on_stop-after S H from i l ls a is none
        | msg.Power call choice ↦ λ is.
            goes-after (site_popped S from i) i _ (power-goes (site_popped S from i) i call choice (pops-kind S H from i (record l { body = msg.Power call choice }) ls is tt))
        | m ↦ λ is. running-after E stamp S H i slot none from (record l { body = m }) ls is (site_start S i == 0) refl
      ]

  -- So it does where its disk fails, or it finds no memory.
  pub turn-after : (l : Letter) (ls : List Letter) (o : Environment) → S.words.channel from (Site i) ≡ l ∷ ls
      → AfterTurn (site_popped S from i) i (site_turn E S.words.deployment stamp i (S.sites i) from l o)
  turn-after l ls NoFault is = takes-after l ls l.body is
  turn-after l ls (DisksShow shown failed) is = takes-after l ls l.body is
  turn-after l ls (DiskFails answered) is =
      stops_so-message S H from i l ls is none S.words.deployment (site_start S i) (after_failure (S.sites i).contents (parts_of_message (S.sites i) l) answered)
  turn-after l ls (NoMemory answered) is =
      stops_so-message S H from i l ls is none S.words.deployment (start_after (S.sites i) l) (after_parts (S.sites i).contents (take answered (parts_of_message (S.sites i) l)))

-- ---- a site syncs

syncs-after : (E : Database) (S : LogState) → LogsHold S → (i : ℕ) → 0 < site_start S i → AfterTurn S i (syncs E S.words.deployment i (S.sites i))
syncs-after E S H i up =
    let b = record (written (S.sites i) (S.sites i).joining) { contents = after_parts (S.sites i).contents (parts_of_sync (S.sites i) (S.sites i).joining) } in
    let t = after_sync S.words.deployment i b b.joining in
    settled-after E S i t up (goes-turns S i t (sync-goes S H i up b.contents))

-- All holds after a site has written what it owes, or has failed to.
pub sync-after : (E : Database) (S : LogState) → LogsHold S → (i : ℕ) → S.pending i ≡ [] → 0 < site_start S i → (o : Environment) → AfterTurn S i (sync_turn E S.words.deployment i (S.sites i) o)
sync-after E S H i none up NoFault = syncs-after E S H i up
sync-after E S H i none up (DisksShow shown failed) = syncs-after E S H i up
sync-after E S H i none up (DiskFails answered) =
    stops_so-after S H i none S.words.deployment (site_start S i) (after_failure (S.sites i).contents (parts_of_sync (S.sites i) (S.sites i).joining) answered)
sync-after E S H i none up (NoMemory answered) =
    stops_so-after S H i none S.words.deployment (site_start S i) (after_parts (S.sites i).contents (take answered (parts_of_sync (S.sites i) (S.sites i).joining)))
