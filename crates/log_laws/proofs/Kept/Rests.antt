-- Turns of a site in which its log and its term stay: what it counts, acknowledges and has on disk may change.
use Rattle.log_laws.proofs.Names.{◌≡◌, ◌<◌, ◌≤◌, true, false, List, [], ◌∷◌, ◌++◌, refl, sym, subst, ap, ◌∙◌, ◌⊎◌, inl, inr, append-nil, arith, fun_ext, ℕ, map, length, Option, Some, None, AllByRecursion, Membership, Actor, Agent, Site, Deployment, term_of, Letter, Sends, no_sends, Turn, sending, SiteState, Streamed, Joining, Joiner, is_leader, sent, set_at, In, Distinct, not-both, in-none, in-map, in-map-from, all-append, all-mono, none-and-some, same-some, set-both, leader-same, leader-view, LogState, Entered, Streaming, Leadership, Flow, LogsHold, SiteOk, BeginsAt, agent_to_site, IsSlot, AckOk, CountedOk, IsCounted, HeldOk, MemberOk, JoinerOk, ViewIn, StreamIn, Inert, Coming, KeepsOk, ForeignOk, LoadsOk, ToldOk, SiteLetterOk, JoinsIn, line_in, flow_in, ask_in, line_of, flow_of, ask_of, asks_waiting, asks_of_term, line, flow, stream_ends_in, asks_in, asked, follows, FollowsIn, part, site_start, log_at, term_at, between, end_of}
use Rattle.volt_wire.specs.declared.message.Msg.TheVariants as msg
use Rattle.log_laws.proofs.Kept.Moves.{after_site, LogsLater, LogsGo, NoStreamStart, JoinsOn, SameLeaderships}
use Rattle.log_laws.proofs.Kept.Grown.{grown-reach, enters-same}
use Rattle.log_laws.proofs.Kept.Laters.{letter-later, loads-later, entered-later, streamed-later, leaderships-later, unleds-later, asks-later, counteds-later, keeps-at, waitings-later}
use Rattle.log_laws.proofs.Plain.{flat-none, flat-same, if-empty}
use Rattle.log_laws.proofs.Kept.KeepsViews.{views-keeps-with, leaves-same}
use Rattle.log_laws.proofs.Kept.Plumbing.{GoesFrom, words-later, words-after, sent-either, later-by}
use Rattle.log_laws.proofs.Kept.Keeps.{RunsOn, site-runs, was-joiner, was-member}

-- ---- what such a turn may change

-- a site's state, where its log, its term and what it keeps of messages are those of the first one
abbrev pub settled : SiteState → SiteState → SiteState
settled a b = record b {
  start = a.start;
  greatest = a.greatest;
  earlier = a.earlier;
  view = a.view;
  log = a.log;
  repaired = a.repaired;
  reports = a.reports;
  asks = a.asks;
  waiting = a.waiting;
}

-- a join, where what came is as in the first one
abbrev pub flagged : Joining → Joining → Joining
flagged a b = record b { stream = a.stream; count = a.count; is_loaded = a.is_loaded; tasks = a.tasks }

pub record JoiningRests (j k : Joining) : Type 0 where
  pub same : k ≡ flagged j k
  pub told : k.has_told ≡ true → j.is_loaded ≡ true
  pub based : k.is_based ≡ true → j.is_loaded ≡ true
  pub still : j.is_based ≡ true → k.is_based ≡ true

-- the same starts are counted, from the same positions on
pub record SameJoiners (js ks : List Joiner) : Type 0 where
  pub kept : (j : Joiner) → In j js → (k : Joiner) × In k ks × (k.slot ≡ j.slot) × (k.start ≡ j.start) × (k.stream_start ≡ j.stream_start)
  pub back : (k : Joiner) → In k ks → (j : Joiner) × In j js × (j.slot ≡ k.slot) × (j.start ≡ k.start) × (j.stream_start ≡ k.stream_start)

-- Of the site of slot c, with what is everywhere in each term.
pub record SiteRests (S : LogState) (reach : ℕ → ℕ → ℕ) (c : ℕ) (s : SiteState) : Type 0 where
  pub is : s ≡ settled (S.sites c) s
  pub member : (S.sites c).joining ≡ None → s.joining ≡ None
  pub joiner : (j : Joining) → (S.sites c).joining ≡ Some j → (k : Joining) × (s.joining ≡ Some k) × JoiningRests j k
  -- Only a member that is repaired may take more to be everywhere.
  pub counts : ((s.floor ≡ (S.sites c).floor) × (s.firm ≡ (S.sites c).firm))
      ⊎ (((S.sites c).repaired ≡ true) × ((S.sites c).joining ≡ None)
      × ((w : Membership) → (S.sites c).view ≡ Some w → (s.floor ≤ reach (part S c) (term_of w)) × (s.firm ≤ reach (part S c) (term_of w))))
  pub acks : 0 < site_start S c → AllByRecursion (λ a. IsSlot S a.0 → AckOk S a.0 (term_at S c) a.1) s.acks
  pub joiners : 0 < site_start S c → AllByRecursion (CountedOk S (part S c) (term_at S c)) s.joiners
  pub alone : 0 < site_start S c → Distinct (map (λ j. j.slot) s.joiners)
  pub leads : 0 < site_start S c → (s.joiners ≡ []) ⊎ (is_leader S.words.deployment c (S.sites c) ≡ true)
  pub counted : SameJoiners (S.sites c).joiners s.joiners
  pub on_disk : 0 < site_start S c → s.on_disk ≤ length (log_at S c)
  pub held : 0 < site_start S c → AllByRecursion HeldOk s.held

-- Of what is everywhere in each term: it only rises, in terms that were led, and not above what is in the logs of that term.
pub record ReachRests (S : LogState) (reach : ℕ → ℕ → ℕ) : Type 0 where
  pub rises : (p t : ℕ) → S.logs.reach p t ≤ reach p t
  pub unled : (p t : ℕ) → S.logs.leadership p t ≡ None → reach p t ≡ S.logs.reach p t
  pub led : (p t : ℕ) (g : Leadership) → S.logs.leadership p t ≡ Some g → reach p t ≤ length g.log
  pub entered : (c t : ℕ) (e : Entered) → S.logs.entered c t ≡ Some e → site_start S c ≡ e.start → reach (part S c) t ≤ length (log_at S c)
  pub streamed : (c t : ℕ) (x : Streaming) → S.logs.streamed c t ≡ Some x → site_start S c ≡ x.start → reach (part S c) t ≤ length (log_at S c)
  pub since : (c t : ℕ) (e : Entered) → S.logs.entered c t ≡ Some e → (v : ℕ) (g : Leadership) → S.logs.leadership (part S c) v ≡ Some g → v < t
      → reach (part S c) v ≤ length e.log
  pub coming : (c : ℕ) (w : Membership) (fl : List Flow) → In w S.words.history.decided → log_at S c ≡ [] → (S.sites c).earlier < term_of w
      → (k : Coming S c w fl) → reach (part S c) (term_of w) ≤ length k.past

-- what says nothing that a copy appends or a joiner takes, and asks for nothing
abbrev pub Bare : Letter → Type 0
Bare l = (line_in l.body ≡ []) × (flow_in l.past l.body ≡ []) × (ask_in l.body ≡ []) × NoStreamStart l

-- Of what the site of slot i sends.
pub record SaysRests (S : LogState) (i : ℕ) (out : Sends) : Type 0 where
  pub sites : (c : ℕ) → AllByRecursion (λ l. Bare l × SiteLetterOk S i c l) (out (Site c))
  pub ended : (c : ℕ) (w : Membership) → JoinsIn S c w → In w S.words.history.decided
      → Inert S c w i ⊎ (follows S.words.deployment w c i ≡ false) → stream_ends_in (site_start S c) (term_of w) (out (Site c)) ≡ []
  pub told : (h : ℕ) → AllByRecursion (ToldOk S i) (out (Agent h))

-- ---- the state after it

abbrev pub rested : LogState → (ℕ → SiteState) → ℕ → Sends → (ℕ → ℕ → ℕ) → LogState
rested S states i out reach = record S {
  words = record S.words { channel = sent S.words.channel (Site i) out };
  sites = λ c. settled (S.sites c) (states c);
  logs = record S.logs { reach = reach };
}

module _ (S : LogState) (H : LogsHold S) (states : ℕ → SiteState) (i : ℕ) (out : Sends) (reach : ℕ → ℕ → ℕ)
    (rests : (c : ℕ) → SiteRests S reach c (states c)) (reaches : ReachRests S reach) (says : SaysRests S i out) where
  abbrev T : LogState
  T = rested S states i out reach

  -- joins
  on : (c : ℕ) → RunsOn (S.sites c) (T.sites c)
  on c = record { start = refl; greatest = refl; earlier = refl; view = refl; member = (rests c).member; joins = λ j e. let r = (rests c).joiner j e in (r.0, r.1) }

  joins-before : (c : ℕ) (k : Joining) → (states c).joining ≡ Some k → (j : Joining) × ((S.sites c).joining ≡ Some j) × JoiningRests j k
  joins-before c k e = let b = was-joiner (S.sites c) (T.sites c) (on c) k e in let r = (rests c).joiner b.0 b.1 in (b.0, b.1, subst (JoiningRests b.0) (same-some (sym r.1 ∙ e)) r.2)

  joins-on : (c : ℕ) → JoinsOn S T c
  joins-on c w k = let r = (rests c).joiner k.0 k.1 in (r.0, r.1, k.2)

  -- what is kept
  later : LogsLater S T
  later = later-by S T (words-later S T.words.channel) refl refl refl (λ c. record {
    start = refl;
    earlier = refl;
    greatest = omega arith;
    log = omega arith;
    term = omega arith;
    member = (rests c).member;
    loaded = λ k e. let b = joins-before c k e in (b.0, b.1, b.2.still);
  }) reaches.rises

  same-leaderships : SameLeaderships S.logs T.logs
  same-leaderships = record { kept = λ p t g is. (g, is, refl, ([], sym (append-nil g.log))); none = λ p t is. is }

  -- ---- what is under way

  -- what the site sent says nothing of these
  plain-out : (c : ℕ) → AllByRecursion Bare (out (Site c))
  plain-out c = all-mono (λ l. Bare l × SiteLetterOk S i c l) Bare (λ l k. k.0) (out (Site c)) (says.sites c)

  lines : (start term j c : ℕ) → line start term (between T j c) ≡ line start term (between S j c)
  lines start term j c = sent-either S i (S.sites i) out S.logs (λ j ls. line start term ls ≡ line start term (between S j c)) (Site c)
      (flat-same (line_of start term) (between S i c) (out (Site c)) (flat-none (line_of start term) (out (Site c))
      (all-mono Bare (λ l. line_of start term l ≡ []) (λ l k. if-empty _ _ k.0) (out (Site c)) (plain-out c)))) (λ j n. refl) j

  flows : (start term j c : ℕ) → flow start term (between T j c) ≡ flow start term (between S j c)
  flows start term j c = sent-either S i (S.sites i) out S.logs (λ j ls. flow start term ls ≡ flow start term (between S j c)) (Site c)
      (flat-same (flow_of start term) (between S i c) (out (Site c)) (flat-none (flow_of start term) (out (Site c))
      (all-mono Bare (λ l. flow_of start term l ≡ []) (λ l k. if-empty _ _ k.1) (out (Site c)) (plain-out c)))) (λ j n. refl) j

  asks-under : (term j c : ℕ) → asks_in term (between T j c) ≡ asks_in term (between S j c)
  asks-under term j c = sent-either S i (S.sites i) out S.logs (λ j ls. asks_in term ls ≡ asks_in term (between S j c)) (Site c)
      (flat-same (ask_of term) (between S i c) (out (Site c)) (flat-none (ask_of term) (out (Site c))
      (all-mono Bare (λ l. ask_of term l ≡ []) (λ l k. if-empty _ _ k.2) (out (Site c)) (plain-out c)))) (λ j n. refl) j

  askeds : (c l term : ℕ) → asked T c l term ≡ asked S c l term
  askeds c l term = ap (λ xs. xs ++ asks_waiting c term (S.sites l).waiting ++ asks_waiting c term (S.pending l) ++ asks_of_term c term (S.sites l)) (asks-under term c l)

  ends-from : (c l : ℕ) (w : Membership) → JoinsIn S c w → In w S.words.history.decided → Inert S c w l ⊎ (follows S.words.deployment w c l ≡ false)
      → stream_ends_in (site_start S c) (term_of w) (between S l c) ≡ [] → stream_ends_in (site_start S c) (term_of w) (between T l c) ≡ []
  ends-from c l w joins decided away none = sent-either S i (S.sites i) out S.logs
      (λ l ls. Inert S c w l ⊎ (follows S.words.deployment w c l ≡ false) → stream_ends_in (site_start S c) (term_of w) (between S l c) ≡ [] → stream_ends_in (site_start S c) (term_of w) ls ≡ []) (Site c)
      (λ q e. flat-same (end_of (site_start S c) (term_of w)) (between S i c) (out (Site c)) (says.ended c w joins decided q) ∙ e) (λ l n q e. e) l away none

  -- ---- who is counted

  counted-rests : (c a stream_start : ℕ) (w : Membership) → IsCounted S c a stream_start w → IsCounted T c a stream_start w
  counted-rests c a stream_start w k l authoritative up none view =
      let r = k l authoritative up (was-member (S.sites l) (T.sites l) (on l) none) view in
      let m = (rests l).counted.kept r.0 r.1 in
      (m.0, m.1, m.2 ∙ r.2, m.3 ∙ r.3, m.4 ∙ r.4)

  inert-rests : (c : ℕ) (w : Membership) (l : ℕ) → JoinsIn S c w → In w S.words.history.decided → Inert S c w l → Inert T c w l
  inert-rests c w l joins decided q = record {
    flow_is = flows (site_start S c) (term_of w) l c ∙ q.flow_is;
    ends_are = ends-from c l w joins decided (inl q) q.ends_are;
    uncounted = λ k here slot start. let b = (rests l).counted.back k here in q.uncounted b.0 b.1 (b.2 ∙ slot) (b.3 ∙ start);
    asks = λ slot. elim (q.asks slot) [ inl e ↦ inl (askeds c l (term_of w) ∙ e) | inr e ↦ inr (askeds c l (term_of w) ∙ e) ];
  }

  coming-rests : (c : ℕ) (w : Membership) (fl : List Flow) → In w S.words.history.decided → log_at S c ≡ [] → (S.sites c).earlier < term_of w → Coming S c w fl → Coming T c w fl
  coming-rests c w fl decided empty below k = search (reaches.coming, counted-rests)

  -- ---- members

  member-rests : (c : ℕ) (w : Membership) → (S.sites c).view ≡ Some w → MemberOk S c w → MemberOk T c w
  member-rests c w view m = record {
    decided = m.decided;
    start_is = m.start_is;
    entered = m.entered;
    is_entered = m.is_entered;
    since = m.since;
    earlier = m.earlier;
    grown = m.grown;
    still = λ e. let o = m.still e in elim (rests c).counts [ inl k ↦ (o.0, k.0 ∙ o.1, k.1 ∙ o.2) | inr k ↦ absurd (not-both (S.sites c).repaired k.0 e) ];
    floor = known.0;
    firm = known.1;
    leading = m.leading;
    following = λ l f. subst (λ ln. FollowsIn (T.sites c) ln (S.logs.leadership (part S c) (term_of w))) (sym (lines (site_start S c) (term_of w) l c)) (m.following l f);
    others = λ l f. lines (site_start S c) (term_of w) l c ∙ m.others l f;
  }
    where
      known : ((states c).floor ≤ reach (part S c) (term_of w)) × ((states c).firm ≤ reach (part S c) (term_of w))
      known = elim (rests c).counts [
        | inl k ↦ let r = reaches.rises (part S c) (term_of w) in let a = m.floor in let b = m.firm in
            (let e = k.0 in omega (arith, a, r, e), let e = k.1 in omega (arith, b, r, e))
        | inr k ↦ k.2 w view
      ]

  -- ---- joiners

  module _ (c : ℕ) (j k : Joining) (some : (S.sites c).joining ≡ Some j) (r : JoiningRests j k) (here : (states c).joining ≡ Some k) where
    same-counts : ((states c).floor ≡ (S.sites c).floor) × ((states c).firm ≡ (S.sites c).firm)
    same-counts = elim (rests c).counts [ inl e ↦ e | inr e ↦ absurd (none-and-some e.1 some) ]

    stream-rests : (w : Membership) → (S.sites c).view ≡ Some w → In w S.words.history.decided → (o : Option Streamed) → StreamIn S c w j o → StreamIn T c w (flagged j k) o
    stream-rests w view decided None u = record {
      loads = u.loads;
      counts = u.counts;
      tasks = u.tasks;
      empty = u.empty;
      floor = same-counts.0 ∙ u.floor;
      never = u.never;
      comes = λ l f below. elim (u.comes l f below) [
        | inl q ↦ inl (inert-rests c w l (j, some, view) decided q)
        | inr q ↦ inr (
          subst (Coming T c w) (sym (flows (site_start S c) (term_of w) l c)) (coming-rests c w (flow (site_start S c) (term_of w) (between S l c)) decided u.empty below q.0),
          askeds c l (term_of w) ∙ q.1,
        )
      ];
    }
    stream-rests w view decided (Some st) u = record {
      from = u.from;
      following = u.following;
      more = u.more;
      leadership = u.leadership;
      led = u.led;
      flow_is = flows (site_start S c) (term_of w) u.from c ∙ u.flow_is;
      whole = u.whole;
      streamed = u.streamed;
      loading = u.loading;
      loaded = u.loaded;
      ends = λ e. let b = u.ends e in let m = reaches.rises (part S c) (term_of w) in omega (arith, b, m);
      floor = same-counts.0 ∙ u.floor;
      asks = λ l slot. askeds c l (term_of w) ∙ u.asks l slot;
    }

    view-rests : (o : Option Membership) → (S.sites c).view ≡ o → ViewIn S c j o → ViewIn T c (flagged j k) o
    view-rests None view v = search (same-counts.0 ∙ v.floor)
    view-rests (Some w) view v = let decided = (H.words.history.took_ok (site_start S c) w v.took).0 in record {
      took = v.took;
      lines = λ l. lines (site_start S c) (term_of w) l c ∙ v.lines l;
      others = λ l f. let o = v.others l f in (
        flows (site_start S c) (term_of w) l c ∙ o.0,
        ends-from c l w (j, some, view) decided (inr f) o.1,
        λ slot below. askeds c l (term_of w) ∙ o.2 slot below,
      );
      stream = stream-rests w view decided j.stream v.stream;
    }

    joiner-rests : JoinerOk S c j → JoinerOk T c k
    joiner-rests o = subst (JoinerOk T c) (sym r.same) (search (same-counts.1 ∙ o.firm, r.told, r.based, view-rests (S.sites c).view refl o.view))

  -- ---- what a site keeps

  -- what came to slot c from slot j is still so
  letter-rests : (j c : ℕ) (l : Letter) → SiteLetterOk S j c l → SiteLetterOk T j c l
  letter-rests j c l k = letter-later S T H later j c l (joins-on j)
      (λ e n some start term b. subst (AllByRecursion (BeginsAt e.stream_start)) (sym (flows l.start l.term j c)) b) (λ e x is start. inl is) k

  leads-rests : (c : ℕ) → is_leader S.words.deployment c (S.sites c) ≡ true → is_leader S.words.deployment c (T.sites c) ≡ true
  leads-rests c e = leader-same S.words.deployment c (S.sites c) (T.sites c) refl
      (let none = (leader-view S.words.deployment c (S.sites c) e).0 in (rests c).member none ∙ sym none) ∙ e

  keeps-rests : (c : ℕ) → 0 < site_start S c → KeepsOk S c → KeepsOk T c
  keeps-rests c up k = let r = rests c in keeps-at S T H later c (T.sites c) refl refl (r.acks up) k.reports
      (counteds-later S T H later (part S c) (term_at S c) (states c).joiners (r.joiners up)) (r.alone up) (elim (r.leads up) [ inl e ↦ inl e | inr e ↦ inr (leads-rests c e) ])
      (asks-later S T H later (part S c) (term_at S c) joins-on (S.sites c).asks k.asks) (waitings-later S T H later c refl joins-on (S.sites c).waiting k.waiting)
      (waitings-later S T H later c refl joins-on (S.pending c) k.pending) (r.on_disk up) (r.held up)

  site_ok-rests : (c : ℕ) → SiteOk S c → SiteOk T c
  site_ok-rests c = site-runs S T H later c (on c) refl (λ _ _. member-rests c)
      (λ j k some here. let r = (rests c).joiner j some in joiner-rests c j k some (subst (JoiningRests j) (same-some (sym r.1 ∙ here)) r.2) here) (keeps-rests c)
      (λ _ k. (k.0, k.1, in-none (states c).joiners (λ j here. let b = (rests c).counted.back j here in subst (In b.0) k.2 b.1), k.3))

  -- ---- what comes from agents, and goes to them

  foreign-rests : (from : Actor) (c : ℕ) → AllByRecursion (ForeignOk T c from) (T.words.channel from (Site c))
  foreign-rests (Site j) c = sent-either S i (S.sites i) out S.logs (λ j ls. AllByRecursion (ForeignOk T c (Site j)) ls) (Site c)
      (all-append (ForeignOk T c (Site i)) (between S i c) (out (Site c)) (H.foreign (Site i) c)
      (all-mono (λ l. Bare l × SiteLetterOk S i c l) (ForeignOk T c (Site i)) (λ l k. no-start l k.1) (out (Site c)) (says.sites c))) (λ j n. H.foreign (Site j) c) j
    where
      no-start : (l : Letter) → SiteLetterOk S i c l → ForeignOk T c (Site i) l
      no-start l k = elim l.body as (λ m. SiteLetterOk S i c (record l { body = m }) → ForeignOk T c (Site i) (record l { body = m })) [
        | msg.Start a ↦ λ p. p
        | m ↦ λ p. tt
      ] k
  foreign-rests from c = H.foreign from c

  loads-rests : LoadsOk T
  loads-rests = loads-later S T H later refl refl
      (λ c h. sent-either S i (S.sites i) out S.logs (λ c ls. AllByRecursion (ToldOk S c) ls) (Agent h)
      (all-append (ToldOk S i) (S.words.channel (Site i) (Agent h)) (out (Agent h)) (H.loads.told i h) (says.told h)) (λ c n. H.loads.told c h) c)
      (λ h g. refl)

  -- ---- all of it

  holds-rests : LogsHold T
  holds-rests = record {
    words = words-after S i (S.sites i) out S.logs H.words;
    sites = λ c. site_ok-rests c (H.sites c);
    views = λ c. views-keeps-with S T H later c refl refl refl refl (λ s k. k) (leaves-same (site_start S c) (agent_to_site S c) (agent_to_site S c) refl) (H.views c);
    letters = λ j c slot. sent-either S i (S.sites i) out S.logs (λ j ls. AllByRecursion (SiteLetterOk T j c) ls) (Site c)
        (all-append (SiteLetterOk T i c) (between S i c) (out (Site c))
        (all-mono (SiteLetterOk S i c) (SiteLetterOk T i c) (letter-rests i c) (between S i c) (H.letters i c slot))
        (all-mono (λ l. Bare l × SiteLetterOk S i c l) (SiteLetterOk T i c) (λ l k. letter-rests i c l k.1) (out (Site c)) (says.sites c)))
        (λ j n. all-mono (SiteLetterOk S j c) (SiteLetterOk T j c) (letter-rests j c) (between S j c) (H.letters j c slot)) j;
    foreign = foreign-rests;
    loads = loads-rests;
    entered = λ c t e is. entered-later S T H later c t e (H.entered c t e is) same-leaderships (reaches.entered c t e is) (reaches.since c t e is);
    streamed = λ c t x is. let k = H.streamed c t x is in
        streamed-later S T H later c t x k (same-leaderships.kept (part S c) t k.leadership k.led) k.apart (reaches.streamed c t x is) (counted-rests c x.start x.stream_start k.word);
    leaderships = leaderships-later S T H later same-leaderships reaches.led;
    unled = λ p t none. unleds-later S T H later same-leaderships p t (reaches.unled p t none) none;
    some = H.some;
    first = H.first;
  }

-- ---- a turn of one site

pub same-joiners : (js : List Joiner) → SameJoiners js js
same-joiners js = record { kept = λ j k. (j, k, refl, refl, refl); back = λ j k. (j, k, refl, refl, refl) }

-- where each joiner becomes another one with its slot, its start and its first position
pub map-joiners : (f : Joiner → Joiner) → ((j : Joiner) → (f j).slot ≡ j.slot) → ((j : Joiner) → (f j).start ≡ j.start) → ((j : Joiner) → (f j).stream_start ≡ j.stream_start)
    → (js : List Joiner) → SameJoiners js (map f js)
map-joiners f slot start stream_start js = record {
  kept = λ j k. (f j, in-map f j js k, slot j, start j, stream_start j);
  back = λ k here. let r = in-map-from f k js here in
      (r.0, r.1, sym (slot r.0) ∙ ap (λ x. x.slot) r.2, sym (start r.0) ∙ ap (λ x. x.start) r.2, sym (stream_start r.0) ∙ ap (λ x. x.stream_start) r.2);
}

pub map-slots : (f : Joiner → Joiner) → ((j : Joiner) → (f j).slot ≡ j.slot) → (js : List Joiner) → map (λ j. j.slot) (map f js) ≡ map (λ j. j.slot) js
map-slots f slot [] = refl
map-slots f slot (j ∷ js) = rw (slot j) (ap (λ xs. j.slot ∷ xs) (map-slots f slot js))

-- a part of a turn, from whatever state it is in which the site is what the parts before made of it
pub part-from : (S : LogState) (i : ℕ) (s : SiteState) (part : Deployment → SiteState → Turn SiteState)
    → ((T : LogState) → LogsHold T → 0 < site_start T i → LogsGo T i (part T.words.deployment (T.sites i))) → 0 < s.start → GoesFrom S i s (part S.words.deployment s)
part-from S i s part goes up T here same pending H =
    subst (λ D. LogsGo T i (part D s)) same (subst (λ x. LogsGo T i (part T.words.deployment x)) here (goes T H (subst (λ x. 0 < x.start) (sym here) up)))

-- what is everywhere stays
pub reach-same : (S : LogState) → LogsHold S → ReachRests S S.logs.reach
reach-same S H = record {
  rises = λ p t. omega arith;
  unled = λ p t none. refl;
  led = λ p t g is. (H.leaderships p t g is).within;
  entered = λ c t e is runs. ((H.entered c t e is).running runs).2;
  streamed = λ c t x is runs. ((H.streamed c t x is).running runs).2;
  since = λ c t e is. (H.entered c t e is).since;
  coming = λ c w fl decided empty below k. k.reach;
}

module _ (S : LogState) (H : LogsHold S) (i : ℕ) where
  -- of a site that stays as it is
  pub site-same : (reach : ℕ → ℕ → ℕ) (c : ℕ) → SiteRests S reach c (S.sites c)
  site-same reach c = record {
    is = refl;
    member = λ e. e;
    joiner = λ j e. let o = (H.sites c).joiner j e in (j, e, record { same = refl; told = o.told; based = o.based; still = λ b. b });
    counts = inl (refl, refl);
    acks = λ up. ((H.sites c).keeps up).acks;
    joiners = λ up. ((H.sites c).keeps up).joiners;
    alone = λ up. ((H.sites c).keeps up).alone;
    leads = λ up. ((H.sites c).keeps up).leads;
    counted = same-joiners (S.sites c).joiners;
    on_disk = λ up. ((H.sites c).keeps up).on_disk;
    held = λ up. ((H.sites c).keeps up).held;
  }

  -- of one that counts, and knows of copies, joiners and answers, as before
  pub site-rests : (reach : ℕ → ℕ → ℕ) (s : SiteState) → s ≡ settled (S.sites i) s → s.floor ≡ (S.sites i).floor → s.firm ≡ (S.sites i).firm
      → s.acks ≡ (S.sites i).acks → s.joiners ≡ (S.sites i).joiners → s.held ≡ (S.sites i).held
      → ((S.sites i).joining ≡ None → s.joining ≡ None) → ((j : Joining) → (S.sites i).joining ≡ Some j → (k : Joining) × (s.joining ≡ Some k) × JoiningRests j k)
      → (0 < site_start S i → s.on_disk ≤ length (log_at S i)) → SiteRests S reach i s
  site-rests reach s is floor firm acks joiners held member joiner on_disk = let o = site-same reach i in record {
    is = is;
    member = member;
    joiner = joiner;
    counts = inl (floor, firm);
    acks = subst (λ x. 0 < site_start S i → AllByRecursion (λ a. IsSlot S a.0 → AckOk S a.0 (term_at S i) a.1) x) (sym acks) o.acks;
    joiners = subst (λ x. 0 < site_start S i → AllByRecursion (CountedOk S (part S i) (term_at S i)) x) (sym joiners) o.joiners;
    alone = subst (λ x. 0 < site_start S i → Distinct (map (λ j. j.slot) x)) (sym joiners) o.alone;
    leads = subst (λ x. 0 < site_start S i → (x ≡ []) ⊎ (is_leader S.words.deployment i (S.sites i) ≡ true)) (sym joiners) o.leads;
    counted = subst (SameJoiners (S.sites i).joiners) (sym joiners) o.counted;
    on_disk = on_disk;
    held = subst (λ x. 0 < site_start S i → AllByRecursion HeldOk x) (sym held) o.held;
  }

  -- a site that says nothing
  pub says-nothing : SaysRests S i no_sends
  says-nothing = record { sites = λ c. tt; ended = λ c w joins decided away. refl; told = λ h. tt }

  module _ (s : SiteState) (out : Sends) (reach : ℕ → ℕ → ℕ) (rests : SiteRests S reach i s) (reaches : ReachRests S reach) (says : SaysRests S i out) where
    pub rests-holds : LogsHold (after_site S i s out (record S.logs { reach = reach }))
    rests-holds = subst (λ f. LogsHold (record (rested S (set_at S.sites i s) i out reach) { sites = f })) (sym sites)
        (holds-rests S H (set_at S.sites i s) i out reach (set-both (SiteRests S reach) S.sites i s rests (λ c n. site-same reach c)) reaches says)
      where
        sites : set_at S.sites i s ≡ (λ c. settled (S.sites c) (set_at S.sites i s c))
        sites = fun_ext (set-both (λ c x. x ≡ settled (S.sites c) x) S.sites i s rests.is (λ c n. refl))

    pub rests-goes : LogsGo S i (sending s out)
    rests-goes = record {
      logs = record S.logs { reach = reach };
      start = ap (λ x. x.start) rests.is;
      view = ap (λ x. x.view) rests.is;
      plain = λ c. all-mono (λ l. Bare l × SiteLetterOk S i c l) NoStreamStart (λ l k. k.0.3) (out (Site c)) (says.sites c);
      holds = rests-holds;
      grown = grown-reach S.words.deployment i s S.logs (record S.logs { reach = reach }) refl reaches.rises;
      enters = enters-same i (length (log_at S i)) S.logs (record S.logs { reach = reach }) refl;
      longer = let e = ap (λ x. length x.log) rests.is in omega (arith, e);
    }
