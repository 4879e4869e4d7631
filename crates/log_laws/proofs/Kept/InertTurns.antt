-- Turns of a site in which nothing changes that is looked at: what holds, holds after them.
use Rattle.log_laws.proofs.Names.{◌≡◌, Bool, true, false, List, [], ◌∷◌, refl, ◌==◌, ℕ, ◌&&◌, ◌+◌, not, nat_lt, if◌then◌else◌, replicate, Option, Some, None, AllByRecursion, Outcome, Actor, Director, Agent, Site, Database, Deployment, part_of_slot, Letter, Sends, Turn, becomes, sending, only, letter_in, open_in, last_done, nothing_open, SiteState, AskedCall, site_term, leads, is_joiner, tells_initiator, is_first_term, has_all_on_disk, initiator_in, shows, looked, on_look, on_power, all-from, all-if, all-mono, term_of, subst, sym, LogState, LogsHold, HeldOk, SiteLetterOk, ToldOk, site_start, end_of, end_in}
use Rattle.volt_base.specs.declared.entry.LastReply.{LastReply}
use Rattle.cluster_model.specs.Replies.{last_replies}
use Rattle.volt_wire.specs.declared.message.Msg.TheVariants as msg
use Rattle.cluster_model.specs.Site.{tells, standing}
use Rattle.log_laws.proofs.Kept.Moves.{after_site, LogsGo}
use Rattle.log_laws.proofs.Plain.{flat-none, if-empty}
use Rattle.log_laws.proofs.Kept.Plumbing.{goes-same}
use Rattle.log_laws.proofs.Kept.Rests.{Bare, SaysRests, SiteRests, reach-same, rests-goes, rests-holds, site-same}

-- ---- what isn't looked at

-- the first site with what isn't looked at of the second one
abbrev pub with_unwatched : SiteState → SiteState → SiteState
with_unwatched s t = record s {
  stop = t.stop;
  mark = t.mark;
  base = t.base;
  owes = t.owes;
  held = t.held;
  has_told = t.has_told;
  calls = t.calls;
  scans = t.scans;
  scanning = t.scanning;
  looks = t.looks;
  contents = t.contents;
  plans = t.plans;
}

-- A site is another one in that alone; answers that are held are for agents still.
pub record Unwatched (s t : SiteState) : Type 0 where
  pub same : t ≡ with_unwatched s t
  pub held : AllByRecursion HeldOk s.held → AllByRecursion HeldOk t.held

-- a message that isn't looked at, by who gets it
abbrev pub Silent : Actor → Letter → Type 0
Silent (Site c) l = elim l.body as (λ _. Type 0) [
  | msg.Put position e floor ↦ ⊥
  | msg.Repair from entries ↦ ⊥
  | msg.Task position e ↦ ⊥
  | msg.StreamStart head ↦ ⊥
  | msg.StreamEnd count ↦ ⊥
  | msg.Ack n ↦ ⊥
  | msg.Report position floor tail ↦ ⊥
  | msg.JoinAsk a slot ↦ ⊥
  | msg.Start a ↦ ⊥
  | _ ↦ Unit {0}
]
Silent (Agent h) l = elim l.body as (λ _. Type 0) [ msg.Loaded a ↦ ⊥ | _ ↦ Unit {0} ]
Silent b l = Unit {0}

-- such a message says nothing of logs, nor that a stream is whole
silent-bare : (S : LogState) (i c : ℕ) (l : Letter) → Silent (Site c) l → (Bare l × SiteLetterOk S i c l) × (end_in l.body ≡ [])
silent-bare S i c l k = elim l.body as (λ m. Silent (Site c) (record l { body = m }) → (Bare (record l { body = m }) × SiteLetterOk S i c (record l { body = m })) × (end_in m ≡ [])) [
  | msg.Put position e floor ↦ λ k. absurd k
  | msg.Repair from entries ↦ λ k. absurd k
  | msg.Task position e ↦ λ k. absurd k
  | msg.StreamStart head ↦ λ k. absurd k
  | msg.StreamEnd count ↦ λ k. absurd k
  | msg.Ack n ↦ λ k. absurd k
  | msg.Report position floor tail ↦ λ k. absurd k
  | msg.JoinAsk a slot ↦ λ k. absurd k
  | msg.Start a ↦ λ k. absurd k
  | m ↦ λ k. (((refl, refl, refl, tt), tt), refl)
] k

silent-told : (S : LogState) (i h : ℕ) (l : Letter) → Silent (Agent h) l → ToldOk S i l
silent-told S i h l k = elim l.body as (λ m. Silent (Agent h) (record l { body = m }) → ToldOk S i (record l { body = m })) [
  | msg.Loaded a ↦ λ k. absurd k
  | m ↦ λ k. tt
] k

-- ---- the turn

-- A turn in which nothing changes that is looked at, and nothing is sent that is: the history stays.
module _ (S : LogState) (i : ℕ) (s : SiteState) (out : Sends) (H : LogsHold S) (u : Unwatched (S.sites i) s) (silent : (b : Actor) → AllByRecursion (Silent b) (out b)) where
  unwatched-rests : SiteRests S S.logs.reach i s
  unwatched-rests = subst (SiteRests S S.logs.reach i) (sym u.same) (let o = site-same S H i S.logs.reach i in record {
    is = refl;
    member = o.member;
    joiner = o.joiner;
    counts = o.counts;
    acks = o.acks;
    joiners = o.joiners;
    alone = o.alone;
    leads = o.leads;
    counted = o.counted;
    on_disk = o.on_disk;
    held = λ up. u.held (o.held up);
  })

  says-silent : SaysRests S i out
  says-silent = record {
    sites = λ c. all-mono (Silent (Site c)) (λ l. Bare l × SiteLetterOk S i c l) (λ l k. (silent-bare S i c l k).0) (out (Site c)) (silent (Site c));
    ended = λ c w _ _ _. flat-none (end_of (site_start S c) (term_of w)) (out (Site c)) (all-mono (Silent (Site c)) (λ l. end_of (site_start S c) (term_of w) l ≡ [])
        (λ l k. if-empty _ _ (silent-bare S i c l k).1) (out (Site c)) (silent (Site c)));
    told = λ h. all-mono (Silent (Agent h)) (ToldOk S i) (silent-told S i h) (out (Agent h)) (silent (Agent h));
  }

  pub inert-after : LogsHold (after_site S i s out S.logs)
  inert-after = rests-holds S H i s out S.logs.reach unwatched-rests (reach-same S H) says-silent

pub inert-goes : (S : LogState) (i : ℕ) (t : Turn SiteState) → LogsHold S → Unwatched (S.sites i) t.state → ((b : Actor) → AllByRecursion (Silent b) (t.sends b)) → LogsGo S i t
inert-goes S i t H u silent =
    rests-goes S H i t.state t.sends S.logs.reach (unwatched-rests S i t.state t.sends H u silent) (reach-same S H) (says-silent S i t.state t.sends H u silent)

-- one in which nothing is sent
pub inert-becomes : (S : LogState) (i : ℕ) (s : SiteState) → LogsHold S → Unwatched (S.sites i) s → LogsGo S i (becomes s)
inert-becomes S i s H u = inert-goes S i (becomes s) H u (λ b. tt)

-- ---- the inert turns of a site

-- what is made of one case holds, if it does in each
goes-if : (S : LogState) (i : ℕ) (b : Bool) (t u : Turn SiteState) → LogsGo S i t → LogsGo S i u → LogsGo S i (if b then t else u)
goes-if S i true t u g h = g
goes-if S i false t u g h = h

goes-if-becomes : (S : LogState) (i : ℕ) (b : Bool) (s t : SiteState) → LogsGo S i (becomes s) → LogsGo S i (becomes t) → LogsGo S i (becomes (if b then s else t))
goes-if-becomes S i true s t g h = g
goes-if-becomes S i false s t g h = h

-- one message to an agent
silent-only : (h : ℕ) (l : Letter) → Silent (Agent h) l → (b : Actor) → AllByRecursion (Silent b) (only (Agent h) l b)
silent-only h l k (Agent g) = all-if (Silent (Agent g)) (h == g) (l ∷ []) [] (k, tt) tt
silent-only h l k from = tt

-- the leader tells the initiator how its partition stands
pub tells-goes : (E : Database) (D : Deployment) (S : LogState) (i : ℕ) → LogsHold S → LogsGo S i (tells E D i (S.sites i))
tells-goes E D S i H = goes-if S i (leads D i s && not s.has_told && not (is_first_term s.view) && has_all_on_disk D i s)
    (tells_initiator E D i s (initiator_in s.view)) (becomes s) (told (initiator_in s.view)) (goes-same S i H)
  where
    s : SiteState
    s = S.sites i

    stands : (h term start : ℕ) (o : Option ℕ) (last : Option (ℕ × Outcome)) (replies : List LastReply) → Silent (Agent h) (letter_in term start (standing o last replies))
    stands h term start (Some m) last replies = tt
    stands h term start None None replies = tt
    stands h term start None (Some last) replies = tt

    told : (o : Option (ℕ × ℕ)) → LogsGo S i (tells_initiator E D i s o)
    told None = goes-same S i H
    told (Some first) = inert-goes S i (tells_initiator E D i s (Some first)) H
        (record { same = refl; held = λ k. k })
        (silent-only first.0 (letter_in (site_term s) first.1 (standing (open_in s.log) (last_done E (part_of_slot D i) s.log) (last_replies E (part_of_slot D i) s.log)))
        (stands first.0 (site_term s) first.1 (open_in s.log) (last_done E (part_of_slot D i) s.log) (last_replies E (part_of_slot D i) s.log)))

-- a look is answered
pub shows-goes : (E : Database) (D : Deployment) (S : LogState) (i : ℕ) → LogsHold S → LogsGo S i (shows E D i (S.sites i))
shows-goes E D S i H = goes-if S i (nat_lt 0 s.looks && nothing_open s.log) shown (becomes s)
    (inert-goes S i shown H
    (record { same = refl; held = λ k. k })
    silent)
    (goes-same S i H)
  where
    s : SiteState
    s = S.sites i

    shown : Turn SiteState
    shown = sending (record s { looks = 0 }) (λ b. elim b as (λ _. List Letter) [ Director ↦ replicate s.looks (looked E D i s) | _ ↦ [] ])

    silent : (b : Actor) → AllByRecursion (Silent b) (shown.sends b)
    silent Director = all-from (Silent Director) (replicate s.looks (looked E D i s)) (λ l k. tt)
    silent from = tt

-- a look, and a cut of power, are noted
pub look-goes : (S : LogState) (i : ℕ) → LogsHold S → LogsGo S i (becomes (on_look (S.sites i)))
look-goes S i H = goes-if-becomes S i (is_joiner (S.sites i)) (S.sites i) (record (S.sites i) { looks = (S.sites i).looks + 1 }) (goes-same S i H)
    (inert-becomes S i (record (S.sites i) { looks = (S.sites i).looks + 1 }) H (record { same = refl; held = λ k. k }))

pub power-goes : (S : LogState) (i call choice : ℕ) → LogsHold S → LogsGo S i (becomes (on_power (S.sites i) call choice))
power-goes S i call choice H = inert-becomes S i (on_power (S.sites i) call choice) H (record { same = refl; held = λ k. k })

-- other calls wait
pub calls-goes : (S : LogState) (i : ℕ) (calls : List AskedCall) → LogsHold S → LogsGo S i (becomes (record (S.sites i) { calls = calls }))
calls-goes S i calls H = inert-becomes S i (record (S.sites i) { calls = calls }) H (record { same = refl; held = λ k. k })
