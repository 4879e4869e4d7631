-- A turn in which the log of a member grows: what holds, holds after it, where the messages and the copies of its partition allow it.
use Rattle.log_laws.proofs.Names.{◌≡◌, ◌<◌, Bool, true, false, List, [], ◌++◌, refl, sym, subst, ap, ◌∙◌, inl, true≢false, arith, length-append, ℕ, ◌≤◌, Option, Some, None, AllByRecursion, Entry, Membership, Actor, Director, Agent, Site, host_of_slot, term_of, leader, Letter, Waiting, SiteState, Joining, Joiner, Scanning, set_at, starts_in, In, all-mono, none-and-some, set-here, set-there, set-both, channel-holds, prefix-grows, same-some, LogState, Leadership, FollowsIn, LeadsIn, MemberOk, JoinerOk, SiteWaitingOk, KeepsOk, SiteOk, SiteLetterOk, ForeignOk, ToldOk, BeginsAt, IsSlot, IsCounted, LogsHold, agent_to_site, follows, line, flow, between, part, site_start, log_at, term_at}
use Rattle.log_laws.proofs.Kept.Moves.{SiteRises, site-stays, Stays, LogsLater, SameLeaderships, JoinsOn}
use Rattle.log_laws.proofs.Kept.Laters.{letter-later, ask-later, leaderships-later, unleds-later, loads-later, entereds-later, streameds-later, asks-later, counteds-later, keeps-at, waitings-later, first-later}
use Rattle.log_laws.proofs.Kept.Plumbing.{words-later, later-by}
use Rattle.log_laws.proofs.Kept.Keeps.{still-same, kept-same, counted-from, keeps-with, site-keeps-with, RunsOn, site-runs}
use Rattle.log_laws.proofs.Kept.KeepsViews.{views-keeps-with, leaves-same}
use Rattle.log_laws.proofs.Plain.{one-and-others}

-- What must be so of the messages behind it: those from agents and the director are as they were, others may be new or taken.
pub record Carries (S : LogState) (ch : Actor → Actor → List Letter) : Type 0 where
  pub agents : (h : ℕ) (b : Actor) → ch (Agent h) b ≡ S.words.channel (Agent h) b
  pub director : (h : ℕ) → ch Director (Agent h) ≡ S.words.channel Director (Agent h)
  pub foreign : (from : Actor) (c : ℕ) → AllByRecursion (ForeignOk S c from) (ch from (Site c))
  pub told : (c h : ℕ) → AllByRecursion (ToldOk S c) (ch (Site c) (Agent h))
  pub letters : (j c : ℕ) → IsSlot S c → AllByRecursion (SiteLetterOk S j c) (ch (Site j) (Site c))
  pub begins : (j c start term stream_start : ℕ) → AllByRecursion (BeginsAt stream_start) (flow start term (between S j c)) → AllByRecursion (BeginsAt stream_start) (flow start term (ch (Site j) (Site c)))

-- the site with more entries, and what may change with them
abbrev pub grew : SiteState → List Entry → ℕ → Bool → Option ℕ → ℕ → Option Scanning → SiteState
grew s more floor repaired owes scans scanning =
    record s { log = s.log ++ more; floor = floor; repaired = repaired; owes = owes; scans = scans; scanning = scanning }

-- the state with that site, these messages, and what terms were led with
abbrev pub grown_to : LogState → ℕ → SiteState → (Actor → Actor → List Letter) → (ℕ → ℕ → Option Leadership) → LogState
grown_to S i s ch R = record S { words = record S.words { channel = ch }; sites = set_at S.sites i s; logs = record S.logs { leadership = R } }

module _ (S : LogState) (H : LogsHold S) (i : ℕ) (more : List Entry) (floor : ℕ) (repaired : Bool) (owes : Option ℕ) (scans : ℕ) (scanning : Option Scanning)
    (ch : Actor → Actor → List Letter) (R : ℕ → ℕ → Option Leadership) where
  abbrev s : SiteState
  s = grew (S.sites i) more floor repaired owes scans scanning

  abbrev T : LogState
  T = grown_to S i s ch R

  -- ---- what only grows

  stays : (c : ℕ) → Stays S T c
  stays c = set-both (λ h x. SiteRises (S.sites h) x) S.sites i s (record {
    start = refl;
    earlier = refl;
    greatest = omega arith;
    log = rw length-append (omega arith);
    term = omega arith;
    member = λ e. e;
    loaded = λ m e. (m, e, λ y. y);
  }) (λ h n. site-stays (S.sites h)) c

  pub grew-later : LogsLater S T
  grew-later = later-by S T (words-later S ch) refl refl refl stays (λ p t. omega arith)

  pub grew-other : (c : ℕ) → (c ≡ i → ⊥) → T.sites c ≡ S.sites c
  grew-other c n = set-there S.sites i s c n

  joins-on : (c : ℕ) → JoinsOn S T c
  joins-on c w = set-both (λ h x. ((j : Joining) × ((S.sites h).joining ≡ Some j) × ((S.sites h).view ≡ Some w)) → (j : Joining) × (x.joining ≡ Some j) × (x.view ≡ Some w))
      S.sites i s (λ k. k) (λ h n k. k) c

  waits : (c : ℕ) (ws : List Waiting) → AllByRecursion (SiteWaitingOk S c) ws → AllByRecursion (SiteWaitingOk T c) ws
  waits c = waitings-later S T H grew-later c (stays c).start joins-on

  -- ---- the site itself

  own : T.sites i ≡ s
  own = set-here S.sites i s

  -- Of its term it is given anew whom it leads and follows.
  pub grew-member : (w : Membership) → repaired ≡ true → floor ≤ S.logs.reach (part S i) (term_of w)
      → (leader S.words.deployment w (part S i) ≡ Some i → LeadsIn s (R (part S i) (term_of w)))
      → ((l : ℕ) → follows S.words.deployment w i l ≡ true → FollowsIn s (line (site_start S i) (term_of w) (ch (Site l) (Site i))) (R (part S i) (term_of w)))
      → ((l : ℕ) → follows S.words.deployment w i l ≡ false → line (site_start S i) (term_of w) (ch (Site l) (Site i)) ≡ [])
      → MemberOk S i w → MemberOk T i w
  grew-member w is below leading following others m = record {
    decided = m.decided;
    start_is = rw (own, site_start) m.start_is;
    entered = m.entered;
    is_entered = m.is_entered;
    since = rw (own, site_start) m.since;
    earlier = rw own m.earlier;
    grown = rw (own, log_at) (prefix-grows m.entered.log (log_at S i) more m.grown);
    still = rw own (λ e. absurd (true≢false (sym is ∙ e)));
    floor = rw own below;
    firm = rw own m.firm;
    leading = rw own leading;
    following = rw (own, site_start) following;
    others = rw (own, site_start) others;
  }

  keeps-own : 0 < site_start S i → KeepsOk S i → KeepsOk T i
  keeps-own up k = keeps-at S T H grew-later i s own refl k.acks k.reports (counteds-later S T H grew-later (part S i) (term_at S i) (S.sites i).joiners k.joiners) k.alone k.leads
      (asks-later S T H grew-later (part S i) (term_at S i) joins-on (S.sites i).asks k.asks) (waits i (S.sites i).waiting k.waiting) (waits i (S.pending i) k.pending)
      (rw length-append (let a = k.on_disk in omega (arith, a))) k.held

  site-own : 0 < site_start S i → (S.sites i).joining ≡ None → (w : Membership) → (S.sites i).view ≡ Some w → MemberOk T i w → SiteOk T i
  site-own up none w view mine = site-runs S T H grew-later i (subst (RunsOn (S.sites i)) (sym own) search) refl (λ _ _ v is _. subst (MemberOk T i) (same-some (sym view ∙ is)) mine)
      (λ j k is _ _. absurd (none-and-some none is)) keeps-own (λ z _. absurd (omega (arith, up, z))) (H.sites i)

  site-other : (c : ℕ) → (c ≡ i → ⊥) → ((v : Membership) → MemberOk S c v → MemberOk T c v) → ((j : Joining) → JoinerOk S c j → JoinerOk T c j) → SiteOk T c
  site-other c n member joiner = site-keeps-with S T H grew-later c (still-same (S.sites c) (T.sites c) (grew-other c n)) refl
      (λ up none v view. member v)
      (λ j e. joiner j)
      (λ up k. keeps-with S T H grew-later c (still-same (S.sites c) (T.sites c) (grew-other c n)) (kept-same (S.sites c) (T.sites c) (grew-other c n))
      (λ a. ask-later S T H grew-later (part S c) a.slot (term_at S c) a.start (joins-on a.slot))
      (subst (λ x. AllByRecursion (SiteWaitingOk T c) x.waiting) (sym (grew-other c n)) (waits c (S.sites c).waiting k.waiting)) (waits c (S.pending c) k.pending) k)
      (λ e k. subst (λ x. (x.waiting ≡ []) × (x.asks ≡ []) × (x.joiners ≡ []) × (S.pending c ≡ [])) (sym (grew-other c n)) k)
      (H.sites c)

  -- ---- all of it

  pub grew-holds : 0 < site_start S i → (S.sites i).joining ≡ None → SameLeaderships S.logs (record S.logs { leadership = R }) → Carries S ch
      → (w : Membership) → (S.sites i).view ≡ Some w → MemberOk T i w
      → ((c : ℕ) → (c ≡ i → ⊥) → (v : Membership) → MemberOk S c v → MemberOk T c v)
      → ((c : ℕ) → (c ≡ i → ⊥) → (j : Joining) → JoinerOk S c j → JoinerOk T c j)
      → LogsHold T
  grew-holds up none same carries w view mine members joiners = record {
    words = channel-holds S.words ch (λ h g. carries.agents h (Agent g)) (λ h. ap starts_in (carries.director h)) H.words;
    sites = one-and-others (SiteOk T) i (site-own up none w view mine) (λ c n. site-other c n (members c n) (joiners c n));
    views = λ c. views-keeps-with S T H grew-later c (stays c).start
        (set-both (λ h x. x.view ≡ (S.sites h).view) S.sites i s refl (λ h n. refl) c) refl refl (λ a m. m)
        (leaves-same (site_start S c) (agent_to_site S c) (agent_to_site T c) (carries.agents (host_of_slot S.words.deployment c) (Site c))) (H.views c);
    letters = λ j c slot. all-mono (SiteLetterOk S j c) (SiteLetterOk T j c)
        (λ l. letter-later S T H grew-later j c l (joins-on j) (λ k _ _ _ _. carries.begins j c l.start l.term k.stream_start) (λ k x is start. inl is))
        (ch (Site j) (Site c)) (carries.letters j c slot);
    foreign = carries.foreign;
    loads = loads-later S T H grew-later refl refl carries.told (λ h g. carries.agents h (Agent g));
    entered = entereds-later S T H grew-later same (λ p t. refl);
    streamed = λ c t x is. let k = H.streamed c t x is in streameds-later S T H grew-later same (λ p t. refl) c t x k k.apart (counted c x.start x.stream_start k.word);
    leaderships = leaderships-later S T H grew-later same (λ p t g is. (H.leaderships p t g is).within);
    unled = λ p t. unleds-later S T H grew-later same p t refl;
    some = H.some;
    first = first-later S T H grew-later same;
  }
    where
      counted : (c a stream_start : ℕ) (v : Membership) → IsCounted S c a stream_start v → IsCounted T c a stream_start v
      counted c a stream_start v = counted-from S T H grew-later i grew-other c a stream_start v
          (subst (λ x. 0 < x.start → x.joining ≡ None → x.view ≡ Some v → (j : Joiner) × In j x.joiners × (j.slot ≡ c) × (j.start ≡ a) × (j.stream_start ≡ stream_start)) (sym own))
