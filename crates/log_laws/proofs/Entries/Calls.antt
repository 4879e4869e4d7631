-- A leader runs the calls that wait, and takes rounds and ends of transactions.
use Rattle.log_laws.proofs.Names.{◌≡◌, ◌<◌, true, List, [], ◌∷◌, ◌++◌, refl, sym, subst, and_parts, ℕ, ◌&&◌, ◌+◌, length, Option, Some, None, Entry, Sp, Frag, Done, Outcome, Agent, Msg, Database, nothing_open, answer_behind, Deployment, part_of_slot, Blocks, Letter, Turn, becomes, letter_to, letter_in, SiteState, AskedCall, site_term, leads, leads_with, holds, holds_for, initiator_in, runs_call, runs_calls, works_calls, on_sp_call, on_frag, on_done, end_of_reply, all-append, cond_both, LogState, HeldOk, HeldFor, LogsHold, site_start}
use Rattle.volt_wire.specs.declared.message.Msg.TheVariants as msg
use Rattle.volt_wire.specs.declared.end.End.{End}
use Rattle.std.specs.List.{AllByRecursion}
use Rattle.std.specs.Prelude.{filter, nat_lt}
use Rattle.cluster_model.specs.SiteState.{Held}
use Rattle.cluster_steps.proofs.Lists.{all-filter}
use Rattle.cluster_model.specs.declared.known.Known.{Known}
use Rattle.cluster_model.specs.declared.known.Known.TheVariants.{IsNew, IsAnswered, IsPast}
use Rattle.cluster_model.specs.Site.{answers_held, holds_at, known_to, reply_to, runs_anew, runs_known, sends_firm}
use Rattle.log_laws.proofs.Kept.Rests.{SiteRests, site-same, reach-same, rests-goes}
use Rattle.log_laws.proofs.Firmness.Firm.{answers-rest}
use Rattle.log_laws.proofs.Kept.{LogsGo, GoesFrom, goes-then, goes-same, inert-becomes, calls-goes, part-from}
use Rattle.log_laws.proofs.Entries.Leads.{leads-goes, leads-on}

-- ---- one part behind another

-- of a part that is shown for each state in which the site leads
authoritative-from : (S : LogState) (i : ℕ) (s : SiteState) (part : Deployment → SiteState → Turn SiteState)
    → ((T : LogState) → LogsHold T → 0 < site_start T i → leads T.words.deployment i (T.sites i) ≡ true → LogsGo T i (part T.words.deployment (T.sites i)))
    → 0 < s.start → leads S.words.deployment i s ≡ true → GoesFrom S i s (part S.words.deployment s)
authoritative-from S i s part goes up authoritative T here same pending H =
    subst (λ D. LogsGo T i (part D s)) same (subst (λ x. LogsGo T i (part T.words.deployment x)) here
    (goes T H (subst (λ x. 0 < x.start) (sym here) up) (subst (λ D. leads D i (T.sites i) ≡ true) (sym same) (subst (λ x. leads S.words.deployment i x ≡ true) (sym here) authoritative))))

-- ---- answers that are held

-- an answer to an agent
held-goes : (S : LogState) (i h : ℕ) (l : Letter) → HeldFor (Agent h) l → LogsHold S → LogsGo S i (becomes (holds (S.sites i) (Agent h) l))
held-goes S i h l k H = inert-becomes S i (holds (S.sites i) (Agent h) l) H
    (record {
      same = refl;
      held = λ old. all-append HeldOk (S.sites i).held (record { position = length (S.sites i).log + 1; to = Agent h; letter = l } ∷ []) old (k, tt);
    })

-- ---- calls

-- a call that is new
anew-goes : (E : Database) (stamp : ℕ) (c : AskedCall) (T : LogState) (i : ℕ) → LogsHold T → 0 < site_start T i → leads T.words.deployment i (T.sites i) ≡ true
    → LogsGo T i (runs_anew E T.words.deployment i stamp c (T.sites i))
anew-goes E stamp c T i H up authoritative =
    let e = Sp c.call c.client stamp c.body in
    let reply = letter_to c.start (msg.Reply c.call c.start (end_of_reply (answer_behind E (part_of_slot T.words.deployment i) (T.sites i).log e))) in
    goes-then T i (becomes (holds (T.sites i) (Agent c.host) reply)) (leads_with E T.words.deployment i e) (held-goes T i c.host reply tt H)
    (authoritative-from T i (holds (T.sites i) (Agent c.host) reply) (λ D. leads_with E D i e) (λ S. leads-goes E S i e) up authoritative)

-- one that was run already is answered again, at whatever position the answer is held
again-goes : (T : LogState) (i : ℕ) (c : AskedCall) (e : End) (position : ℕ) → LogsHold T → 0 < site_start T i
    → LogsGo T i (sends_firm (holds_at position (T.sites i) (Agent c.host) (reply_to c e)))
again-goes T i c e position H up = rests-goes T H i (record s { held = filter (λ d. nat_lt s.firm d.position) held }) (answers_held s.firm held) T.logs.reach rests (reach-same T H)
    (answers-rest T i s.firm held (ok up))
  where
    s : SiteState
    s = T.sites i

    held : List Held
    held = s.held ++ record { position = position; to = Agent c.host; letter = reply_to c e } ∷ []

    rested : SiteRests T T.logs.reach i s
    rested = site-same T H i T.logs.reach i

    ok : 0 < site_start T i → AllByRecursion HeldOk held
    ok u = all-append HeldOk s.held (record { position = position; to = Agent c.host; letter = reply_to c e } ∷ []) (rested.held u) (tt, tt)

    rests : SiteRests T T.logs.reach i (record s { held = filter (λ d. nat_lt s.firm d.position) held })
    rests = record {
      is = refl;
      member = rested.member;
      joiner = rested.joiner;
      counts = rested.counts;
      acks = rested.acks;
      joiners = rested.joiners;
      alone = rested.alone;
      leads = rested.leads;
      counted = rested.counted;
      on_disk = rested.on_disk;
      held = λ u. all-filter HeldOk (λ d. nat_lt s.firm d.position) held (ok u);
    }

pub run-goes : (E : Database) (stamp : ℕ) (c : AskedCall) (T : LogState) (i : ℕ) → LogsHold T → 0 < site_start T i → leads T.words.deployment i (T.sites i) ≡ true
    → LogsGo T i (runs_call E T.words.deployment i stamp c (T.sites i))
run-goes E stamp c T i H up authoritative = by_known (known_to E T.words.deployment i c (T.sites i))
  where
    by_known : (k : Known) → LogsGo T i (runs_known E T.words.deployment i stamp c (T.sites i) k)
    by_known IsNew = anew-goes E stamp c T i H up authoritative
    by_known (IsAnswered e) = again-goes T i c e _ H up
    by_known IsPast = goes-same T i H

-- and it leads still
run-on : (E : Database) (D : Deployment) (stamp i : ℕ) (c : AskedCall) (s : SiteState) → leads D i s ≡ true → leads D i (runs_call E D i stamp c s).state ≡ true
run-on E D stamp i c s authoritative = by_known (known_to E D i c s)
  where
    e : Entry
    e = Sp c.call c.client stamp c.body

    by_known : (k : Known) → leads D i (runs_known E D i stamp c s k).state ≡ true
    by_known IsNew = leads-on E D i e (holds s (Agent c.host) (letter_to c.start (msg.Reply c.call c.start (end_of_reply (answer_behind E (part_of_slot D i) s.log e))))) authoritative
    by_known (IsAnswered e) = authoritative
    by_known IsPast = authoritative

pub runs-goes : (E : Database) (stamp : ℕ) (cs : List AskedCall) (T : LogState) (i : ℕ) → LogsHold T → 0 < site_start T i → leads T.words.deployment i (T.sites i) ≡ true
    → LogsGo T i (runs_calls E T.words.deployment i stamp cs (T.sites i))
runs-goes E stamp [] T i H up authoritative = goes-same T i H
runs-goes E stamp (c ∷ cs) T i H up authoritative =
    let g = run-goes E stamp c T i H up authoritative in
    goes-then T i (runs_call E T.words.deployment i stamp c (T.sites i)) (runs_calls E T.words.deployment i stamp cs) g
    (authoritative-from T i (runs_call E T.words.deployment i stamp c (T.sites i)).state (λ D. runs_calls E D i stamp cs) (λ S. runs-goes E stamp cs S i)
    (subst (λ x. 0 < x) (sym g.start) up) (run-on E T.words.deployment stamp i c (T.sites i) authoritative))

-- A leader runs those that wait; any other site waits.
pub works-goes : (E : Database) (T : LogState) (i stamp : ℕ) → LogsHold T → 0 < site_start T i → LogsGo T i (works_calls E T.words.deployment i stamp (T.sites i))
works-goes E T i stamp H up = cond_both (leads T.words.deployment i (T.sites i) && nothing_open (T.sites i).log) _ _ (LogsGo T i)
    (λ q. goes-then T i (becomes (record (T.sites i) { calls = [] })) (runs_calls E T.words.deployment i stamp (T.sites i).calls) (calls-goes T i [] H)
    (authoritative-from T i (record (T.sites i) { calls = [] }) (λ D. runs_calls E D i stamp (T.sites i).calls) (λ S. runs-goes E stamp (T.sites i).calls S i) up
    (and_parts (leads T.words.deployment i (T.sites i)) (nothing_open (T.sites i).log) q).0))
    (λ q. goes-same T i H)

-- from whatever state in which the site is so
works-from : (E : Database) (stamp : ℕ) (S : LogState) (i : ℕ) (s : SiteState) → 0 < s.start → GoesFrom S i s (works_calls E S.words.deployment i stamp s)
works-from E stamp S i s up = part-from S i s (λ D. works_calls E D i stamp) (λ T. works-goes E T i stamp) up

pub on_sp_call-goes : (E : Database) (T : LogState) → LogsHold T → (i stamp : ℕ) (c : AskedCall) → 0 < site_start T i
    → LogsGo T i (on_sp_call E T.words.deployment i stamp (T.sites i) c)
on_sp_call-goes E T H i stamp c up =
    let calls = (T.sites i).calls ++ c ∷ [] in
    goes-then T i (becomes (record (T.sites i) { calls = calls })) (works_calls E T.words.deployment i stamp) (calls-goes T i calls H)
    (works-from E stamp T i (record (T.sites i) { calls = calls }) up)

-- ---- rounds and ends of transactions

-- A leader appends the entry, and holds the answer to it for the initiator.
entry-goes : (E : Database) (T : LogState) (i : ℕ) (e : Entry) (first : Option (ℕ × ℕ)) (m : Msg Blocks) → ((h term start : ℕ) → HeldFor (Agent h) (letter_in term start m))
    → LogsHold T → 0 < site_start T i → leads T.words.deployment i (T.sites i) ≡ true → LogsGo T i (leads_with E T.words.deployment i e (holds_for (T.sites i) first m))
entry-goes E T i e None m k H up authoritative = leads-goes E T i e H up authoritative
entry-goes E T i e (Some first) m k H up authoritative =
    let l = letter_in (site_term (T.sites i)) first.1 m in
    goes-then T i (becomes (holds (T.sites i) (Agent first.0) l)) (leads_with E T.words.deployment i e) (held-goes T i first.0 l (k first.0 (site_term (T.sites i)) first.1) H)
    (authoritative-from T i (holds (T.sites i) (Agent first.0) l) (λ D. leads_with E D i e) (λ S. leads-goes E S i e) up authoritative)

pub on_frag-goes : (E : Database) (T : LogState) → LogsHold T → (i m round : ℕ) (body : List ℕ) → 0 < site_start T i
    → LogsGo T i (on_frag E T.words.deployment i (T.sites i) m round body)
on_frag-goes E T H i m round body up = cond_both (leads T.words.deployment i (T.sites i)) _ _ (LogsGo T i)
    (λ q. entry-goes E T i e (initiator_in (T.sites i).view) (msg.FragDone m round partial) (λ h term start. tt) H up q) (λ q. goes-same T i H)
  where
    e : Entry
    e = Frag m round body

    partial : List ℕ
    partial = answer_behind E (part_of_slot T.words.deployment i) (T.sites i).log e

pub on_done-goes : (E : Database) (T : LogState) → LogsHold T → (i stamp m : ℕ) (o : Outcome) → 0 < site_start T i → LogsGo T i (on_done E T.words.deployment i stamp (T.sites i) m o)
on_done-goes E T H i stamp m o up = cond_both (leads T.words.deployment i (T.sites i)) _ _ (LogsGo T i)
    (λ q.
    let g = entry-goes E T i (Done m o) (initiator_in (T.sites i).view) (msg.Finished m) (λ h term start. tt) H up q in
    goes-then T i t (works_calls E T.words.deployment i stamp) g (works-from E stamp T i t.state (subst (λ x. 0 < x) (sym g.start) up)))
    (λ q. goes-same T i H)
  where
    t : Turn SiteState
    t = leads_with E T.words.deployment i (Done m o) (holds_for (T.sites i) (initiator_in (T.sites i).view) (msg.Finished m))
