-- Moves of sites that leave words, terms and what was entered as they are: what holds, holds after them.
use Rattle.log_laws.proofs.Names.{List, ap, arith, inl, refl, sym, true, ◌≡◌, ◌∙◌, ◌⊎◌, ◌<◌, ◌≤◌, [], AllByRecursion, None, Option, Some, length, map, ℕ, Membership, Actor, Agent, Director, Site, starts_in, Letter, Waiting, Ask, Joiner, Joining, SiteState, is_leader, host_of_slot, term_of, channel-holds, Distinct, term_in, AsksToJoin, CountedOk, ForeignOk, LogsHold, IsCounted, IsSlot, JoinerOk, KeepsOk, LogState, MemberOk, SiteLetterOk, SiteOk, StreamedOk, Streaming, SiteWaitingOk, between, line, part, site_start, term_at}
use Rattle.log_laws.proofs.Kept.Keeps.{SameFrom, SiteStays, joiner-keeps, member-keeps, RunsOn, site-runs}
use Rattle.log_laws.proofs.Kept.Laters.{leaderships-later, same-leaderships, unleds-later, entereds-later, asks-later, counteds-later, keeps-at, waitings-later, loads-later}
use Rattle.log_laws.proofs.Kept.Moves.{JoinsOn, LogsLater, SameLeaderships, Unentered}
use Rattle.log_laws.proofs.Kept.Plumbing.{words-later}
use Rattle.log_laws.proofs.Kept.KeepsViews.{views-keeps}

-- ---- a move

-- the state with these channels and sites, with what is pending, and with the streams that were taken
abbrev pub shifted : LogState → (Actor → Actor → List Letter) → (ℕ → SiteState) → (ℕ → List Waiting) → (ℕ → ℕ → Option Streaming) → LogState
shifted S ch f pend st = record S {
  words = record S.words { channel = ch };
  sites = f;
  pending = pend;
  logs = record S.logs { streamed = st };
}

-- A site goes on: a member as one, and a joiner as one, whose base is still on disk if it was.
pub record SiteGoesOn (s t : SiteState) : Type 0 where
  pub start : t.start ≡ s.start
  pub greatest : t.greatest ≡ s.greatest
  pub earlier : t.earlier ≡ s.earlier
  pub view : t.view ≡ s.view
  pub acks : t.acks ≡ s.acks
  pub reports : t.reports ≡ s.reports
  pub held : t.held ≡ s.held
  pub waiting : t.waiting ≡ s.waiting
  pub log : length s.log ≤ length t.log
  pub member : s.joining ≡ None → t.joining ≡ None
  pub joins : (j : Joining) → s.joining ≡ Some j → (k : Joining) × (t.joining ≡ Some k)
  pub loaded : (k : Joining) → t.joining ≡ Some k → (j : Joining) × (s.joining ≡ Some j) × (j.is_based ≡ true → k.is_based ≡ true)

pub goes-runs : (s t : SiteState) → SiteGoesOn s t → RunsOn s t
goes-runs s t g = record { start = g.start; greatest = g.greatest; earlier = g.earlier; view = g.view; member = g.member; joins = g.joins }

pub goes-on-same : (s : SiteState) → SiteGoesOn s s
goes-on-same s = search arith

-- All sites go on, agents' channels stay, and so does each stream that was taken.
pub record Steady (S : LogState) (ch : Actor → Actor → List Letter) (f : ℕ → SiteState) (st : ℕ → ℕ → Option Streaming) : Type 0 where
  pub sites : (c : ℕ) → SiteGoesOn (S.sites c) (f c)
  pub agents : (h : ℕ) (b : Actor) → ch (Agent h) b ≡ S.words.channel (Agent h) b
  pub told : (c h : ℕ) → ch (Site c) (Agent h) ≡ S.words.channel (Site c) (Agent h)
  pub director : (h : ℕ) → ch Director (Agent h) ≡ S.words.channel Director (Agent h)
  pub streamed : (c t : ℕ) (x : Streaming) → S.logs.streamed c t ≡ Some x → st c t ≡ Some x
  pub fresh : (c t : ℕ) (x : Streaming) → st c t ≡ Some x → (S.logs.streamed c t ≡ Some x) ⊎ Unentered S.logs c x.start

-- ---- what is kept in it

module _ (S : LogState) (ch : Actor → Actor → List Letter) (f : ℕ → SiteState) (pend : ℕ → List Waiting) (st : ℕ → ℕ → Option Streaming)
    (H : LogsHold S) (m : Steady S ch f st) where
  pub steady-later : LogsLater S (shifted S ch f pend st)
  steady-later = record {
    words = words-later S ch;
    ran = λ c a i. i;
    greatest = λ c. let e = (m.sites c).greatest in omega (arith, e);
    sites = λ c. let g = m.sites c in inl (record {
      start = g.start;
      earlier = g.earlier;
      greatest = let e = g.greatest in omega (arith, e);
      log = g.log;
      term = rw g.view (omega arith);
      member = g.member;
      loaded = g.loaded;
    });
    entered = λ c t e is. is;
    entered_now = λ c t e is. inl is;
    streamed = m.streamed;
    streamed_now = m.fresh;
    reach = λ p t. omega arith;
  }

  pub steady-joins : (c : ℕ) → JoinsOn S (shifted S ch f pend st) c
  steady-joins c w (j, is, view) = let k = (m.sites c).joins j is in (k.0, k.1, (m.sites c).view ∙ view)

  pub steady-leaderships : SameLeaderships S.logs (shifted S ch f pend st).logs
  steady-leaderships = same-leaderships S.logs (shifted S ch f pend st).logs refl

  -- what waits, and what was asked and counted
  pub steady-waiting : (c : ℕ) (ws : List Waiting) → AllByRecursion (SiteWaitingOk S c) ws → AllByRecursion (SiteWaitingOk (shifted S ch f pend st) c) ws
  steady-waiting c = waitings-later S (shifted S ch f pend st) H steady-later c (m.sites c).start steady-joins

  pub steady-asks : (p t : ℕ) (as_ : List Ask) → AllByRecursion (λ a. AsksToJoin S p a.slot t a.start) as_ → AllByRecursion (λ a. AsksToJoin (shifted S ch f pend st) p a.slot t a.start) as_
  steady-asks p t = asks-later S (shifted S ch f pend st) H steady-later p t steady-joins

  pub steady-counted : (p t : ℕ) (js : List Joiner) → AllByRecursion (CountedOk S p t) js → AllByRecursion (CountedOk (shifted S ch f pend st) p t) js
  steady-counted = counteds-later S (shifted S ch f pend st) H steady-later

  -- what a site keeps, but for those that it counts, those that asked, and what is pending
  pub steady-keeps : (c : ℕ) → KeepsOk S c
      → AllByRecursion (CountedOk (shifted S ch f pend st) (part S c) (term_at S c)) (f c).joiners
      → Distinct (map (λ j. j.slot) (f c).joiners)
      → (((f c).joiners ≡ []) ⊎ (is_leader S.words.deployment c (f c) ≡ true))
      → AllByRecursion (λ a. AsksToJoin (shifted S ch f pend st) (part S c) a.slot (term_at S c) a.start) (f c).asks
      → AllByRecursion (SiteWaitingOk S c) (pend c)
      → (f c).on_disk ≤ length (f c).log
      → KeepsOk (shifted S ch f pend st) c
  steady-keeps c k counted alone leads asks pending disk = let g = m.sites c in keeps-at S (shifted S ch f pend st) H steady-later c (f c) refl (ap term_in g.view)
      (rw g.acks k.acks) (rw g.reports k.reports) counted alone leads asks (rw g.waiting (steady-waiting c (S.sites c).waiting k.waiting)) (steady-waiting c (pend c) pending) disk
      (rw g.held k.held)

  -- All holds after it, where this holds of what it changes.
  pub steady-holds :
      ((c : ℕ) (w : Membership) → 0 < site_start S c → (S.sites c).joining ≡ None → MemberOk S c w → MemberOk (shifted S ch f pend st) c w)
      → ((c : ℕ) (k : Joining) → (f c).joining ≡ Some k → JoinerOk (shifted S ch f pend st) c k)
      → ((c : ℕ) → 0 < site_start S c → KeepsOk S c → KeepsOk (shifted S ch f pend st) c)
      → ((c : ℕ) → site_start S c ≡ 0 → (f c ≡ S.sites c) × (pend c ≡ S.pending c))
      → ((i c : ℕ) → IsSlot S c → AllByRecursion (SiteLetterOk (shifted S ch f pend st) i c) (ch (Site i) (Site c)))
      → ((from : Actor) (c : ℕ) → AllByRecursion (ForeignOk S c from) (ch from (Site c)))
      → ((c t : ℕ) (x : Streaming) → st c t ≡ Some x → StreamedOk (shifted S ch f pend st) c t x)
      → LogsHold (shifted S ch f pend st)
  steady-holds members joiners keeps stopped letters foreign streamed = record {
    words = channel-holds S.words ch (λ h g. m.agents h (Agent g)) (λ h. ap starts_in (m.director h)) H.words;
    sites = site;
    views = λ c. views-keeps S (shifted S ch f pend st) H steady-later c (m.sites c).start (m.sites c).view refl refl (λ s k. k)
        (m.agents (host_of_slot S.words.deployment c) (Site c)) (H.views c);
    letters = letters;
    foreign = foreign;
    loads = loads-later S (shifted S ch f pend st) H steady-later refl refl (λ c h. rw (m.told c h) (H.loads.told c h)) (λ h g. m.agents h (Agent g));
    entered = entereds-later S (shifted S ch f pend st) H steady-later steady-leaderships (λ p t. refl);
    streamed = streamed;
    leaderships = leaderships-later S (shifted S ch f pend st) H steady-later steady-leaderships (λ p t g is. (H.leaderships p t g is).within);
    unled = λ p t none. unleds-later S (shifted S ch f pend st) H steady-later steady-leaderships p t refl none;
    some = H.some;
    first = H.first;
  }
    where
      site : (c : ℕ) → SiteOk (shifted S ch f pend st) c
      site c = site-runs S (shifted S ch f pend st) H steady-later c (goes-runs (S.sites c) (f c) (m.sites c)) refl (λ up none w _. members c w up none) (λ j k _ is _. joiners c k is) (keeps c)
          (λ z k. let e = stopped c z in rw (e.0, e.1) k) (H.sites c)

-- ---- slots of which nothing changes but what they keep

module _ (S : LogState) (ch : Actor → Actor → List Letter) (f : ℕ → SiteState) (pend : ℕ → List Waiting) (st : ℕ → ℕ → Option Streaming)
    (H : LogsHold S) (m : Steady S ch f st) (c : ℕ) (site : SiteStays (S.sites c) (f c)) where
  pub steady-member : ((l a t : ℕ) → line a t (ch (Site l) (Site c)) ≡ line a t (between S l c))
      → (w : Membership) → MemberOk S c w → MemberOk (shifted S ch f pend st) c w
  steady-member lines w k = member-keeps S (shifted S ch f pend st) H (steady-later S ch f pend st H m) c site w k (λ l. lines l (site_start S c) (term_of w)) refl

  pub steady-joiner : ((t : ℕ) (x : Streaming) → st c t ≡ Some x → x.start ≡ site_start S c → S.logs.streamed c t ≡ Some x)
      → ((l : ℕ) → SameFrom S (shifted S ch f pend st) c l (term_at S c))
      → ((stream_start : ℕ) (w : Membership) → IsCounted S c (site_start S c) stream_start w → IsCounted (shifted S ch f pend st) c (site_start S c) stream_start w)
      → (k : Joining) → (f c).joining ≡ Some k → JoinerOk (shifted S ch f pend st) c k
  steady-joiner streamed from counted k e = joiner-keeps S (shifted S ch f pend st) H (steady-later S ch f pend st H m) c site k (record { entered = λ t e is start. is; streamed = streamed })
      (record { leadership = refl; reach = refl }) from counted ((H.sites c).joiner k (sym site.joining ∙ e))
