-- What the laws of logs and of disks give of a message that a site takes, and of those that wait at it.
use Rattle.volt_wire.specs.declared.message.Msg.TheVariants as msg
use Rattle.transaction_laws.proofs.Names.{Actor, Agent, AllBefore, AllByRecursion, AskedCall, AskedIn, CallAsked, CallOf, Deployment, MayRun, SiteAsks, Submissions, WaitingAsked, part_of_slot, Blocks, Bool, Comes, Database, DisksHold, Environment, Firm, In, IsSlot, Joining, KeepsWord, Letter, List, LogState, LogsHold, Membership, Msg, NoWord, None, Option, ReportOf, ReportOk, Reported, Site, SiteLetterOk, SiteState, SiteWaitingFrom, SiteWaitingOk, Some, StreamDisk, Streamed, Taken, Turn, Waiting, WaitsPlain, [], all-at, all-both, all-from, all-mono, anew, ap, arith, arrival, between, cases_Bool, false, for-true, handler-keeps, inl, inr, is-leader, is_leader, later-term, leader-follows-none, leader-view, leads, length, line, flat-each, line_of, line_in, none-and-some, not-both, part, refl, same-some, site_handler, site_start, site_term, site_turn, site_turn-cases, stays_joiner, subst, sym, taken-here, term_at, term_in, term_of, true, unstreamed, whole-keeps, whole_turn, word-based, word-unnamed, ℕ, ◌<◌, ◌∙◌, ◌∷◌, ◌≡◌, ◌≤◌}
use Rattle.transaction_laws.proofs.Sites.SiteWalk.{WaitsCall, WaitsQuietly, quiet-word, waits-quietly, taken_by}
use Rattle.transaction_laws.proofs.Sites.SiteLogs.{SteadyLog, Started, stopped-not-leads, site-steady, site-starts}
use Rattle.transaction_laws.proofs.Sites.SiteCounts.{Counted, AboveMark, Unrepaired, site-counted, site-joined, site-unrepaired}

-- ---- what waits, and what was reported

pub site-waits : (S : LogState) → LogsHold S → (i : ℕ) → 0 < site_start S i → AllByRecursion (λ x. WaitsPlain x.from x.letter) (S.sites i).waiting
    → AllByRecursion WaitsQuietly (S.sites i).waiting
site-waits S H i up plain =
    all-both (SiteWaitingOk S i) (λ x. WaitsPlain x.from x.letter) WaitsQuietly (waits-quietly S i) (S.sites i).waiting ((H.sites i).keeps up).waiting plain

-- of partition p, in term t
abbrev pub ReportsOk : LogState → ℕ → ℕ → Reported → Type 0
ReportsOk S p t r = ReportOk S p r.slot t r.position r.floor r.tail

waiting-report : (S : LogState) (i t : ℕ) (x : Waiting) → SiteWaitingOk S i x → x.letter.term ≡ t → ReportOf (ReportsOk S (part S i) t) x.from x.letter
waiting-report S i t x k = go x.from x.letter k.1
  where
    go : (from : Actor) (l : Letter) → SiteWaitingFrom S i from l → l.term ≡ t → ReportOf (ReportsOk S (part S i) t) from l
    go (Site j) l = elim l.body as (λ b. SiteWaitingFrom S i (Site j) (record l { body = b }) → l.term ≡ t → ReportOf (ReportsOk S (part S i) t) (Site j) (record l { body = b })) [
      | msg.Report position floor tail ↦ λ k e. subst (λ n. ReportOk S (part S i) j n position floor tail) e k.1
      | b ↦ λ k e. tt
    ]
    go from l = λ k e. tt

pub waiting-reports : (S : LogState) → LogsHold S → (i : ℕ) → 0 < site_start S i → (t : ℕ)
    → AllByRecursion (λ x. x.letter.term ≡ t → ReportOf (ReportsOk S (part S i) t) x.from x.letter) (S.sites i).waiting
waiting-reports S H i up t =
    all-mono (SiteWaitingOk S i) (λ x. x.letter.term ≡ t → ReportOf (ReportsOk S (part S i) t) x.from x.letter) (waiting-report S i t) (S.sites i).waiting ((H.sites i).keeps up).waiting

-- ---- marks

pub site-marked : (S : LogState) (F : Firm) (halted : Bool) → DisksHold S F halted → (i : ℕ) → IsSlot S i → 0 < site_start S i
    → (S.sites i).joining ≡ None → (S.sites i).mark ≡ term_at S i → (S.sites i).repaired ≡ true
site-marked S F halted K i slot up joins = ((K.disks i slot).member up joins).marked

-- ---- a leader gets no entry from another site

module _ (S : LogState) (H : LogsHold S) (i : ℕ) (slot : IsSlot S i) (up : 0 < site_start S i) where
  abbrev s : SiteState
  s = S.sites i

  -- nothing is for it to append
  no-line : is_leader S.words.deployment i s ≡ true → (c : ℕ) → line (site_start S i) (term_at S i) (between S c i) ≡ []
  no-line authoritative c =
      let m = (H.sites i).member up (leader-view S.words.deployment i s authoritative).0 in
      let first = (is-leader S.words.deployment i s m.0 m.1 authoritative).1 in
      ap (λ o. line (site_start S i) (term_in o) (between S c i)) m.1 ∙ m.2.others c (leader-follows-none S.words.deployment m.0 i c first)

  -- so no message that it takes is
  module _ (c : ℕ) (l : Letter) (ls : List Letter) (is : between S c i ≡ l ∷ ls) (take : arrival (site_start S i) (term_at S i) l ≡ Taken) where
    lines : is_leader S.words.deployment i s ≡ true → (0 < l.start) × (0 < l.term) → line_in l.body ≡ []
    lines authoritative some =
        let a = taken-here (site_start S i) (term_at S i) l take some.0 some.1 in
        let here = flat-each (line_of (site_start S i) (term_at S i)) (between S c i) (no-line authoritative c) l (subst (In l) (sym is) (inl refl)) in
        rw (for-true (site_start S i) (term_at S i) l a.0 a.1) at here

    letter : SiteLetterOk S c i l
    letter = (subst (AllByRecursion (SiteLetterOk S c i)) is (H.letters c i slot)).0

    site-from : Comes S.words.deployment i s (Site c) l
    site-from = (elim l.body as (λ b. SiteLetterOk S c i (record l { body = b }) → (is_leader S.words.deployment i s ≡ true → (0 < l.start) × (0 < l.term) → line_in b ≡ [])
        → Comes S.words.deployment i s (Site c) (record l { body = b })) [
          | msg.Put position e floor ↦ λ k none authoritative. let r = none authoritative k.0.0 in absurd (cc)
          | msg.Repair from entries ↦ λ k none authoritative. let r = none authoritative k.0 in absurd (cc)
          | b ↦ λ k none. tt
        ]) letter lines

    report-from : ReportOf (ReportsOk S (part S i) (term_at S i)) (Site c) l
    report-from = (elim l.body as (λ b. SiteLetterOk S c i (record l { body = b }) → ReportOf (ReportsOk S (part S i) (term_at S i)) (Site c) (record l { body = b })) [
      | msg.Report position floor tail ↦ λ k. let a = taken-here (site_start S i) (term_at S i) l take k.0.0 k.0.1 in
          subst (λ n. ReportOk S (part S i) c n position floor tail) a.1 k.1
      | b ↦ λ k. tt
    ]) letter

  -- ---- a word that comes

  module _ (h : ℕ) (l : Letter) (w : Membership) (ls : List Letter) (is : S.words.channel (Agent h) (Site i) ≡ record l { body = msg.View w } ∷ ls)
      (take : arrival (site_start S i) (term_at S i) (record l { body = msg.View w }) ≡ Taken) where
    higher : term_at S i < term_of w
    higher = later-term S H i slot up h l w ls is take

    module _ (F : Firm) (halted : Bool) (K : DisksHold S F halted) where
      -- its mark is that of the word in which it took its stream
      stream-mark : (j : Joining) → s.joining ≡ Some j → (v : Membership) → s.view ≡ Some v → s.mark ≡ term_at S i
      stream-mark j joins v e = go j.stream refl
        where
          stopped : halted ≡ true → (st : Streamed) → j.stream ≡ Some st → ⊥
          stopped x st q = let k = (K.halts x).joiners i up in none-and-some (ap (λ y. y.stream) (same-some (sym joins ∙ k.1)) ∙ k.2) q

          on : halted ≡ false → (st : Streamed) → j.stream ≡ Some st → s.mark ≡ term_at S i
          on x st q = let k : StreamDisk S i j (Some st) = subst (StreamDisk S i j) q ((K.disks i slot).joiner x j joins) in (k.2 (word-based S H i slot up h l w ls is take j joins v e)).1 ∙ k.0

          go : (o : Option Streamed) → j.stream ≡ o → s.mark ≡ term_at S i
          go None q = absurd (not-both j.is_loaded (((H.sites i).joiner j joins).based (word-based S H i slot up h l w ls is take j joins v e)) (unstreamed S H i j joins q).0)
          go (Some st) q = elim (cases_Bool halted) [ inl x ↦ absurd (stopped x st q) | inr x ↦ on x st q ]

      below : stays_joiner S.words.deployment i s w ≡ false → s.mark < term_of w
      below enters = choice s.joining refl
        where
          joined : (j : Joining) → s.joining ≡ Some j → (o : Option Membership) → s.view ≡ o → s.mark < term_of w
          joined j joins None e = absurd (word-unnamed S H i slot up h l w ls is take j joins e enters)
          joined j joins (Some v) e = let a = stream-mark j joins v e in omega (arith, a, higher)

          choice : (o : Option Joining) → s.joining ≡ o → s.mark < term_of w
          choice None e = let a = ((K.disks i slot).member up e).mark in omega (arith, a, higher)
          choice (Some j) e = joined j e s.view refl

  -- ---- any message that it takes

  module _ (from : Actor) (l : Letter) (ls : List Letter) (is : S.words.channel from (Site i) ≡ l ∷ ls) (take : arrival (site_start S i) (term_at S i) l ≡ Taken) where
    pub site-comes : Comes S.words.deployment i s from l
    site-comes = go from is
      where
        agent : (h : ℕ) (m : Msg Blocks) → S.words.channel (Agent h) (Site i) ≡ record l { body = m } ∷ ls → Comes S.words.deployment i s (Agent h) (record l { body = m })
        agent h m = elim m as (λ m. S.words.channel (Agent h) (Site i) ≡ record l { body = m } ∷ ls → Comes S.words.deployment i s (Agent h) (record l { body = m })) [
          | msg.View w ↦ λ e. higher h l w ls e take
          | m ↦ λ e. tt
        ]

        go : (from : Actor) → S.words.channel from (Site i) ≡ l ∷ ls → Comes S.words.deployment i s from l
        go (Site c) e = site-from c l ls e take
        go (Agent h) e = agent h l.body e
        go from e = tt

    pub site-above : (F : Firm) (halted : Bool) → DisksHold S F halted → AboveMark S.words.deployment i s from l
    site-above F halted K = go from is
      where
        agent : (h : ℕ) (m : Msg Blocks) → S.words.channel (Agent h) (Site i) ≡ record l { body = m } ∷ ls → AboveMark S.words.deployment i s (Agent h) (record l { body = m })
        agent h m = elim m as (λ m. S.words.channel (Agent h) (Site i) ≡ record l { body = m } ∷ ls → AboveMark S.words.deployment i s (Agent h) (record l { body = m })) [
          | msg.View w ↦ λ e. below h l w ls e take F halted K
          | m ↦ λ e. tt
        ]

        go : (from : Actor) → S.words.channel from (Site i) ≡ l ∷ ls → AboveMark S.words.deployment i s from l
        go (Agent h) e = agent h l.body e
        go from e = tt

    pub site-report : ReportOf (ReportsOk S (part S i) (term_at S i)) from l
    site-report = go from is
      where
        go : (from : Actor) → S.words.channel from (Site i) ≡ l ∷ ls → ReportOf (ReportsOk S (part S i) (term_at S i)) from l
        go (Site c) e = report-from c l ls e take
        go from e = tt

-- ---- calls

-- A call that was submitted before may run.
may-run : (A : Submissions) (stamp p : ℕ) → AllBefore A stamp → (c : AskedCall) → CallAsked A p c → MayRun A p stamp c
may-run A stamp p past c k = let r = past c.call _ k.is in record { some = r.0; asked = record { at = k.at; is = k.is; before = r.1 } }

may-come : (D : Deployment) (A : Submissions) (stamp i : ℕ) → AllBefore A stamp → (from : Actor) (l : Letter) → AskedIn D A from (Site i) l → CallOf (MayRun A (part_of_slot D i) stamp) from l
may-come D A stamp i past (Agent h) l k =
    (elim l.body as (λ b. AskedIn D A (Agent h) (Site i) (record l { body = b }) → CallOf (MayRun A (part_of_slot D i) stamp) (Agent h) (record l { body = b })) [
      | msg.SpCall call start client body ↦ λ k. may-run A stamp (part_of_slot D i) past (record { call = call; client = client; host = h; start = start; body = body }) k
      | b ↦ λ k. tt
    ]) k
may-come D A stamp i past from l k = tt

-- ---- the turn

module _ (E : Database) (stamp : ℕ) (S : LogState) (H : LogsHold S) (i : ℕ) (slot : IsSlot S i) (up : 0 < site_start S i) (from : Actor) (l : Letter) (ls : List Letter)
    (is : S.words.channel from (Site i) ≡ l ∷ ls) (plain : AllByRecursion (λ x. WaitsPlain x.from x.letter) (S.sites i).waiting) (o : Environment) where
  -- the site behind it
  abbrev u : SiteState
  u = (site_turn E S.words.deployment stamp i (S.sites i) from l o).state

  waits : AllByRecursion WaitsQuietly (S.sites i).waiting
  waits = site-waits S H i up plain

  comes : arrival (site_start S i) (term_at S i) l ≡ Taken → Comes S.words.deployment i (S.sites i) from l
  comes = site-comes S H i slot up from l ls is

  -- what is known of the calls that wait, and of those that come
  abbrev Asks : Submissions → Type 0
  Asks A = AllBefore A stamp × SiteAsks S.words.deployment A i (S.sites i) × AskedIn S.words.deployment A from (Site i) l

  calls-may : (A : Submissions) → Asks A → AllByRecursion (MayRun A (part S i) stamp) (S.sites i).calls
  calls-may A k = all-mono (CallAsked A (part S i)) (MayRun A (part S i) stamp) (may-run A stamp (part S i) k.0) (S.sites i).calls k.1.calls

  waiting-may : (A : Submissions) → Asks A → AllByRecursion (WaitsCall (MayRun A (part S i) stamp)) (S.sites i).waiting
  waiting-may A k = all-mono (WaitingAsked S.words.deployment A (Site i)) (WaitsCall (MayRun A (part S i) stamp)) (λ x. may-come S.words.deployment A stamp i k.0 x.from x.letter)
      (S.sites i).waiting k.1.waiting

  pub given-steady : (A : Submissions) → Asks A → leads S.words.deployment i (S.sites i) ≡ true → leads S.words.deployment i u ≡ true → u.view ≡ (S.sites i).view
      → SteadyLog A (part S i) stamp (S.sites i) u (taken_by (S.sites i) from l)
  given-steady A k = site-steady E S.words.deployment A stamp i (S.sites i) from l o up comes waits (calls-may A k) (λ _. may-come S.words.deployment A stamp i k.0 from l k.2) (waiting-may A k)

  -- a message from a site leaves it in its word, or stops it
  site-same-word : leads S.words.deployment i u ≡ true → (c : ℕ) → from ≡ Site c → u.view ≡ (S.sites i).view
  site-same-word led c sender = site_turn-cases E S.words.deployment stamp i (S.sites i) from (λ t. leads S.words.deployment i t.state ≡ true → t.state.view ≡ (S.sites i).view)
      (λ start stop joining contents out inert led. absurd (stopped-not-leads S.words.deployment i (anew (S.sites i) start joining stop contents) refl led)) l o
      (λ stop plans aside led. refl) (λ up waits led. refl) (λ up takes led. behind) led
    where
      t : Turn SiteState
      t = site_handler E S.words.deployment stamp i (S.sites i) from l

      k : KeepsWord (S.sites i) t
      k = handler-keeps E S.words.deployment i stamp (S.sites i) from l (subst (λ f. NoWord f l) (sym sender) tt)

      behind : (whole_turn E S.words.deployment stamp i t).state.view ≡ (S.sites i).view
      behind = (whole-keeps E S.words.deployment i stamp t (all-from (λ x. NoWord x.from x.letter) t.state.waiting (λ x m.
          quiet-word x.from x.letter (all-at WaitsQuietly (S.sites i).waiting waits x (k.waits x m))))).view ∙ k.view

  -- a report that it takes is of its term
  own-report : leads S.words.deployment i u ≡ true → arrival (site_start S i) (term_at S i) l ≡ Taken → ReportOf (ReportsOk S (part S i) (site_term u)) from l
  own-report led take = go from (site-same-word led) (site-report S H i slot up from l ls is take)
    where
      go : (from : Actor) → ((c : ℕ) → from ≡ Site c → u.view ≡ (S.sites i).view) → ReportOf (ReportsOk S (part S i) (term_at S i)) from l
          → ReportOf (ReportsOk S (part S i) (site_term u)) from l
      go (Site c) same k = subst (λ n. ReportOf (ReportsOk S (part S i) n) (Site c) l) (sym (ap term_in (same c refl))) k
      go from same k = tt

  pub given-starts : (A : Submissions) → Asks A → leads S.words.deployment i u ≡ true → (leads S.words.deployment i (S.sites i) ≡ true → u.view ≡ (S.sites i).view → ⊥)
      → Started S.words.deployment A stamp i (S.sites i) u (ReportsOk S (part S i) (site_term u))
  given-starts A k led anew = site-starts E S.words.deployment A stamp i (S.sites i) from l o (ReportsOk S (part S i) (site_term u)) up comes waits
      (calls-may A k) (λ _. may-come S.words.deployment A stamp i k.0 from l k.2) (waiting-may A k) led anew
      (λ same. subst (λ n. AllByRecursion (ReportsOk S (part S i) n) (S.sites i).reports) (sym (ap term_in same)) ((H.sites i).keeps up).reports)
      (own-report led) (waiting-reports S H i up (site_term u))

  pub given-counted : (F : Firm) (halted : Bool) → DisksHold S F halted → (leads S.words.deployment i (S.sites i) ≡ true → Counted S.words.deployment i (S.sites i))
      → leads S.words.deployment i u ≡ true → Counted S.words.deployment i u
  given-counted F halted K counted = site-counted E S.words.deployment stamp i (S.sites i) from l o up comes (λ take. site-above S H i slot up from l ls is take F halted K) waits
      counted (site-marked S F halted K i slot up)

  pub given-joined : (low : ℕ) → (leads S.words.deployment i (S.sites i) ≡ true → u.view ≡ (S.sites i).view → AllByRecursion (λ j. low ≤ j.stream_start) (S.sites i).joiners)
      → Unrepaired (S.sites i) → leads S.words.deployment i u ≡ true → low ≤ length u.log → AllByRecursion (λ j. low ≤ j.stream_start) u.joiners
  given-joined low = site-joined E S.words.deployment stamp i (S.sites i) from l o low up comes waits

  pub given-unrepaired : Unrepaired (S.sites i) → Unrepaired u
  given-unrepaired = site-unrepaired E S.words.deployment stamp i (S.sites i) from l o comes waits
