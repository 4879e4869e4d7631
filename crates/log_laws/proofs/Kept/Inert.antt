-- States in which other messages are under way, and sites know of others that wait, of other asks and reports: what holds, holds in them.
use Rattle.log_laws.proofs.Names.{◌≡◌, ◌<◌, List, [], refl, sym, subst, inl, arith, ℕ, AllByRecursion, Actor, Agent, Site, host_of_slot, Letter, Waiting, set_at, all-mono, set-both, fun_ext, set-here, set-there, set-same, SiteState, LogState, LogsHold, SiteLetterOk, ForeignOk, ToldOk, SiteWaitingOk, BeginsAt, MeantFor, IsSlot, site_start, term_at, between, agent_to_site, line, flow, stream_ends_in, part, AsksToJoin, KeepsOk, ReportOk}
use Rattle.word_laws.specs.Histories as word
use Rattle.log_laws.proofs.Kept.Moves.{LogsLater, JoinsOn, SameLeaderships}
use Rattle.log_laws.proofs.Kept.Asked.{AsksLess}
use Rattle.log_laws.proofs.Kept.Laters.{same-leaderships, ask-later, letter-later-with, end-later-if, loads-later, leaderships-later, entereds-later, streameds-later, waitings-later, asks-later, counteds-later, keeps-at}
use Rattle.log_laws.proofs.Kept.Keeps.{site-keeps}
use Rattle.log_laws.proofs.Kept.KeepsViews.{LeavesViews, foreign-later, leaves-same, views-keeps-with}
use Rattle.log_laws.proofs.Kept.Plumbing.{words-later, later-by}
use Rattle.log_laws.proofs.Plain.{one-and-others}

-- ---- the state

-- a site with what waits, the asks and the reports of the second one
abbrev pub noting : SiteState → SiteState → SiteState
noting s u = record s { waiting = u.waiting; asks = u.asks; reports = u.reports }

-- with other channels, other such sites, and other messages that are to be taken
abbrev pub logs_moved : LogState → (Actor → Actor → List Letter) → (ℕ → SiteState) → (ℕ → List Waiting) → LogState
logs_moved S ch states pending = record S { words = record S.words { channel = ch }; sites = λ c. noting (S.sites c) (states c); pending = pending }

-- What is so of what a slot's site notes, and of what it is to take.
pub record NotesOk (S : LogState) (c : ℕ) (s : SiteState) (now : List Waiting) : Type 0 where
  pub waiting : 0 < site_start S c → AllByRecursion (SiteWaitingOk S c) s.waiting
  pub asks : 0 < site_start S c → AllByRecursion (λ a. AsksToJoin S (part S c) a.slot (term_at S c) a.start) s.asks
  pub reports : 0 < site_start S c → AllByRecursion (λ r. ReportOk S (part S c) r.slot (term_at S c) r.position r.floor r.tail) s.reports
  pub pending : 0 < site_start S c → AllByRecursion (SiteWaitingOk S c) now
  pub none : site_start S c ≡ 0 → (s.waiting ≡ []) × (s.asks ≡ []) × (now ≡ [])

pub notes-same : (S : LogState) → LogsHold S → (c : ℕ) → NotesOk S c (S.sites c) (S.pending c)
notes-same S H c = record {
  waiting = λ up. ((H.sites c).keeps up).waiting;
  asks = λ up. ((H.sites c).keeps up).asks;
  reports = λ up. ((H.sites c).keeps up).reports;
  pending = λ up. ((H.sites c).keeps up).pending;
  none = λ z. let k = (H.sites c).stopped z in (k.0, k.1, k.3);
}

-- ---- the channels

-- Channels that bring no site that runs another entry, stream or word than it was to get, and all of whose messages may be there.
pub record ChannelsOk (S : LogState) (ch : Actor → Actor → List Letter) : Type 0 where
  pub words : word.WordsHold (record S.words { channel = ch })
  pub lines : (l c : ℕ) → 0 < site_start S c → line (site_start S c) (term_at S c) (ch (Site l) (Site c)) ≡ line (site_start S c) (term_at S c) (between S l c)
  pub flows : (l c : ℕ) → 0 < site_start S c → flow (site_start S c) (term_at S c) (ch (Site l) (Site c)) ≡ flow (site_start S c) (term_at S c) (between S l c)
  pub ends : (l c : ℕ) → 0 < site_start S c → stream_ends_in (site_start S c) (term_at S c) (between S l c) ≡ [] → stream_ends_in (site_start S c) (term_at S c) (ch (Site l) (Site c)) ≡ []
  pub leaves : (c : ℕ) → LeavesViews (site_start S c) (agent_to_site S c) (ch (Agent (host_of_slot S.words.deployment c)) (Site c))
  pub letters : (l c : ℕ) → IsSlot S c → AllByRecursion (SiteLetterOk S l c) (ch (Site l) (Site c))
  pub foreign : (from : Actor) (c : ℕ) → AllByRecursion (ForeignOk S c from) (ch from (Site c))
  pub told : (c h : ℕ) → AllByRecursion (ToldOk S c) (ch (Site c) (Agent h))
  pub asked : (h g : ℕ) → ch (Agent h) (Agent g) ≡ S.words.channel (Agent h) (Agent g)

-- they are as they were
pub channels-same : (S : LogState) → LogsHold S → ChannelsOk S S.words.channel
channels-same S H = search (leaves-same, H.letters, H.loads)

-- ---- what holds

module _ (S : LogState) (ch : Actor → Actor → List Letter) (states : ℕ → SiteState) (pending : ℕ → List Waiting) (H : LogsHold S) (channels : ChannelsOk S ch)
    (asks : AsksLess S (logs_moved S ch states pending)) where
  abbrev T : LogState
  T = logs_moved S ch states pending

  moved-later : LogsLater S T
  moved-later = later-by S T (words-later S ch) refl refl refl (λ c. search arith) (λ p t. omega arith)

  moved-joins : (i : ℕ) → JoinsOn S T i
  moved-joins i w k = k

  letter : (i c : ℕ) (l : Letter) → SiteLetterOk S i c l → SiteLetterOk T i c l
  letter i c l = letter-later-with S T H moved-later i c l (λ a _ _. ask-later S T H moved-later (part S c) i l.term a (moved-joins i))
      (λ r k. end-later-if S T H moved-later i c l r k (λ j joins start term. subst (AllByRecursion (BeginsAt k.stream_start)) (sym (same r start term))) (λ x e _. inl e))
    where
      -- the flow to a joiner is the same
      same : MeantFor S c l → site_start S c ≡ l.start → term_at S c ≡ l.term → flow l.start l.term (between T i c) ≡ flow l.start l.term (between S i c)
      same r start term = subst (λ s. flow s l.term (between T i c) ≡ flow s l.term (between S i c)) start
          (subst (λ t. flow (site_start S c) t (between T i c) ≡ flow (site_start S c) t (between S i c)) term
          (channels.flows i c (subst (λ s. 0 < s) (sym start) r.0.0)))

  keeps : (c : ℕ) → NotesOk S c (states c) (pending c) → 0 < site_start S c → KeepsOk S c → KeepsOk T c
  keeps c n up k = keeps-at S T H moved-later c (T.sites c) refl refl k.acks (n.reports up)
      (counteds-later S T H moved-later (part S c) (term_at S c) (S.sites c).joiners k.joiners) k.alone k.leads
      (asks-later S T H moved-later (part S c) (term_at S c) moved-joins (states c).asks (n.asks up))
      (waitings-later S T H moved-later c refl moved-joins (states c).waiting (n.waiting up)) (waitings-later S T H moved-later c refl moved-joins (pending c) (n.pending up)) k.on_disk k.held

  -- What must hold of such a state, so that what holds, holds in it.
  pub moved-holds : ((c : ℕ) → NotesOk S c (states c) (pending c)) → LogsHold T
  moved-holds notes = record {
    words = channels.words;
    sites = λ c. site-keeps S T H moved-later c (search) refl (record { entered = λ t e i _. i; streamed = λ t x i _. i }) (record { leadership = refl; reach = refl })
        (λ up l. record { lines = channels.lines l c up; flows = channels.flows l c up; ends = channels.ends l c up; asks = asks c l (term_at S c); uncounted = λ k. k })
        (λ stream_start w k. k) (keeps c (notes c)) (λ z k. let o = (notes c).none z in (o.0, o.1, k.2, o.2)) (H.sites c);
    views = λ c. views-keeps-with S T H moved-later c refl refl refl refl (λ s m. m) (channels.leaves c) (H.views c);
    letters = λ i c slot. all-mono (SiteLetterOk S i c) (SiteLetterOk T i c) (letter i c) (ch (Site i) (Site c)) (channels.letters i c slot);
    foreign = λ a c. all-mono (ForeignOk S c a) (ForeignOk T c a) (foreign-later S T H moved-later c a) (ch a (Site c)) (channels.foreign a c);
    loads = loads-later S T H moved-later refl refl channels.told channels.asked;
    entered = entereds-later S T H moved-later same (λ p t. refl);
    streamed = λ c t x i. let k = H.streamed c t x i in streameds-later S T H moved-later same (λ p t. refl) c t x k k.apart (λ k. k);
    leaderships = leaderships-later S T H moved-later same (λ p t g is. (H.leaderships p t g is).within);
    unled = H.unled;
    some = H.some;
    first = H.first;
  }
    where
      same : SameLeaderships S.logs T.logs
      same = same-leaderships S.logs T.logs refl

-- where sites stay
pub channels-hold : (S : LogState) (ch : Actor → Actor → List Letter) → LogsHold S → ChannelsOk S ch → AsksLess S (record S { words = record S.words { channel = ch } })
    → LogsHold (record S { words = record S.words { channel = ch } })
channels-hold S ch H channels asks = moved-holds S ch S.sites S.pending H channels asks (notes-same S H)

-- where one does so
abbrev pub site_noted : LogState → ℕ → SiteState → (Actor → Actor → List Letter) → List Waiting → LogState
site_noted S i s ch now = record S { words = record S.words { channel = ch }; sites = set_at S.sites i s; pending = set_at S.pending i now }

pub noted-holds : (S : LogState) (i : ℕ) (s : SiteState) (ch : Actor → Actor → List Letter) (now : List Waiting) → LogsHold S → s ≡ noting (S.sites i) s → ChannelsOk S ch
    → NotesOk S i s now → AsksLess S (site_noted S i s ch now) → LogsHold (site_noted S i s ch now)
noted-holds S i s ch now H is channels notes asks = subst (λ f. LogsHold (record (site_noted S i s ch now) { sites = f })) (sym sites)
    (moved-holds S ch (set_at S.sites i s) (set_at S.pending i now) H channels (subst (λ f. AsksLess S (record (site_noted S i s ch now) { sites = f })) sites asks)
    (one-and-others (λ c. NotesOk S c (set_at S.sites i s c) (set_at S.pending i now c)) i
    (subst (λ x. NotesOk S i x (set_at S.pending i now i)) (sym (set-here S.sites i s)) (subst (NotesOk S i s) (sym (set-here S.pending i now)) notes))
    (λ c n. subst (λ x. NotesOk S c x (set_at S.pending i now c)) (sym (set-there S.sites i s c n)) (subst (NotesOk S c (S.sites c)) (sym (set-there S.pending i now c n)) (notes-same S H c)))))
  where
    sites : set_at S.sites i s ≡ (λ c. noting (S.sites c) (set_at S.sites i s c))
    sites = fun_ext (set-both (λ c x. x ≡ noting (S.sites c) x) S.sites i s is (λ c n. refl))

-- and is to take what it was to take
pub noted-same : (S : LogState) (i : ℕ) (s : SiteState) (ch : Actor → Actor → List Letter) → LogsHold S → s ≡ noting (S.sites i) s → ChannelsOk S ch → NotesOk S i s (S.pending i)
    → AsksLess S (record S { words = record S.words { channel = ch }; sites = set_at S.sites i s }) → LogsHold (record S { words = record S.words { channel = ch }; sites = set_at S.sites i s })
noted-same S i s ch H is channels notes asks = subst (λ p. LogsHold (record (site_noted S i s ch []) { pending = p })) (set-same S.pending i)
    (noted-holds S i s ch (S.pending i) H is channels notes (subst (λ p. AsksLess S (record (site_noted S i s ch []) { pending = p })) (sym (set-same S.pending i)) asks))
