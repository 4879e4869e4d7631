-- What is kept from one state to a later one.
use Rattle.log_laws.proofs.Names.{◌≡◌, ◌<◌, List, refl, sym, subst, ap, ◌∙◌, ◌⊎◌, inl, inr, ◌==◌, arith, ℕ, ◌≤◌, max, length, Option, Some, None, AllByRecursion, list_any, Entry, Membership, Actor, Agent, Site, start_of_slot, leader, Letter, Waiting, Queued, ToRun, Admission, Joiner, Joining, In, Prefix, all-mono, none-and-some, same-some, prefix-length, prefix-refl, prefix-trans, Distinct, is_leader, map, Ask, SiteState, site_term, [], true, LogState, Logs, epoch_base, LogsHold, HasBeen, WasIn, AckOk, ReportOk, AsksToJoin, CountedOk, EndOk, MeantFor, LoadedOk, BeginsAt, SiteLetterOk, SiteWaitingFrom, SiteWaitingOk, ToldOk, AskedOk, QueuedLoadedOk, LoadsOk, IsSlot, AllLoaded, Entered, Streaming, Leadership, EnteredOk, StreamedOk, LeadershipOk, UnledOk, Last, Came, IsCounted, WordOf, part, site_start, log_at, term_at, flow, between, HeldOk, KeepsOk, asked}
use Rattle.volt_wire.specs.declared.message.Msg.TheVariants as msg
use Rattle.log_laws.proofs.Kept.Moves.{LogsLater, EntersNow, Stays, JoinsOn, SameLeaderships}
use Rattle.log_laws.proofs.Plain.{none-or-some}

-- the same terms are led where nothing of them changes
pub same-leaderships : (G H : Logs) → H.leadership ≡ G.leadership → SameLeaderships G H
same-leaderships G H e = record { kept = λ p t g is. (g, ap (λ r. r p t) e ∙ is, refl, prefix-refl g.log); none = λ p t is. ap (λ r. r p t) e ∙ is }

-- who was in a term ran
pub was-ran : (S : LogState) → LogsHold S → (c t a : ℕ) → WasIn S c t a → In a (S.logs.ran c)
was-ran S H c t a (inl (e, is, start)) = subst (λ x. In x (S.logs.ran c)) start (H.entered c t e is).been.ran
was-ran S H c t a (inr (x, is, start)) = subst (λ y. In y (S.logs.ran c)) start (H.streamed c t x is).been.ran

module _ (S T : LogState) (H : LogsHold S) (f : LogsLater S T) where
  pub part-later : (c : ℕ) → part T c ≡ part S c
  part-later c = ap (λ w. part (record S { words = record S.words { deployment = w } }) c) f.words.deployment

  pub slot-later : (c : ℕ) → IsSlot S c → IsSlot T c
  slot-later c k = rw f.words.deployment k

  pub slot-before : (c : ℕ) → IsSlot T c → IsSlot S c
  slot-before c k = rw f.words.deployment at k

  pub base-later : epoch_base T ≡ epoch_base S
  base-later = ap (λ w. w.base) f.words.first

  -- A start that ran runs on, or not at all.
  pub stays : (c a : ℕ) → 0 < a → In a (S.logs.ran c) → site_start T c ≡ a → Stays S T c
  stays c a some ran is = elim (f.sites c) [
    | inl k ↦ k
    | inr (inl z) ↦ absurd (omega (arith, some, z, is))
    | inr (inr b) ↦ absurd (b.fresh (subst (λ x. In x (S.logs.ran c)) (sym is) ran))
  ]

  pub been-later : (c t a : ℕ) → HasBeen S c t a → HasBeen T c t a
  been-later c t a k = record {
    some = k.some;
    ran = f.ran c a k.ran;
    greatest = let g = f.greatest c in omega (arith, g, k.greatest);
    others = λ up other. elim (f.sites c) [
      | inl s ↦ rw s.earlier (k.others (rw s.start at up) (λ e. other (s.start ∙ e)))
      | inr (inl z) ↦ absurd (omega (arith, z, up))
      | inr (inr b) ↦ rw b.earlier k.greatest
    ];
  }

  pub was-later : (c t a : ℕ) → WasIn S c t a → WasIn T c t a
  was-later c t a (inl (e, is, start)) = inl (e, f.entered c t e is, start)
  was-later c t a (inr (x, is, start)) = inr (x, f.streamed c t x is, start)

  pub ack-later : (c t n : ℕ) → AckOk S c t n → AckOk T c t n
  ack-later c t n k = record {
    start = k.start;
    some = k.some;
    was = was-later c t k.start k.was;
    now = λ is. let s = stays c k.start k.some (was-ran S H c t k.start k.was) is in
        let n = k.now (sym s.start ∙ is) in let m = s.log in omega (arith, n, m);
    later = λ u e above is start. elim (f.entered_now c u e is) [
      | inl old ↦ k.later u e above old start
      | inr new ↦ let n = k.now (sym new.start ∙ start) in let m = new.log in omega (arith, n, m)
    ];
  }

  pub word_of-later : (t : ℕ) (w : Membership) → WordOf S t w → WordOf T t w
  word_of-later t w k = record { decided = f.words.decided w k.decided; term_is = k.term_is }

  pub report-later : (p c t n m : ℕ) (tail : List Entry) → ReportOk S p c t n m tail → ReportOk T p c t n m tail
  report-later p c t n m tail k = record {
    entered = k.entered;
    is_entered = f.entered c t k.entered k.is_entered;
    position_is = k.position_is;
    floor_is = k.floor_is;
    tail_is = k.tail_is;
    part_is = part-later c ∙ k.part_is;
    word = k.word;
    is_word = word_of-later t k.word k.is_word;
    follower = λ e. k.follower (ap (λ D. leader D k.word p) (sym f.words.deployment) ∙ e);
  }

  -- where a start that asks and runs on joins on
  pub ask-later-on : (p c t a : ℕ) → (Stays S T c → 0 < site_start T c → JoinsOn S T c) → AsksToJoin S p c t a → AsksToJoin T p c t a
  ask-later-on p c t a on k = record {
    been = been-later c t a k.been;
    part_is = part-later c ∙ k.part_is;
    joins = λ is. let s = stays c a k.been.some k.been.ran is in
        let j = k.joins (sym s.start ∙ is) in (j.0, on s (rw is (k.been.some)) j.0 j.1, j.2);
  }

  pub ask-later : (p c t a : ℕ) → JoinsOn S T c → AsksToJoin S p c t a → AsksToJoin T p c t a
  ask-later p c t a on = ask-later-on p c t a (λ _ _. on)

  pub counted-later : (p t : ℕ) (j : Joiner) → CountedOk S p t j → CountedOk T p t j
  counted-later p t j k = record {
    been = been-later j.slot t j.start k.been;
    part_is = part-later j.slot ∙ k.part_is;
    reached = λ is. let s = runs-on is in let r = k.reached (sym s.start ∙ is) in let m = s.term in omega (arith, r, m);
    position = λ is below. let s = runs-on is in
        let r = k.position (sym s.start ∙ is) (rw s.earlier at below) in let m = s.log in omega (arith, r, m);
    later = λ x is start u e above now same. elim (f.streamed_now j.slot t x is) [
      | inr fresh ↦ absurd (fresh u e now (same ∙ sym start))
      | inl old ↦ elim (f.entered_now j.slot u e now) [ inl then ↦ k.later x old start u e above then same | inr new ↦ entered-on x old start e same u new ]
    ];
  }
    where
      runs-on : site_start T j.slot ≡ j.start → Stays S T j.slot
      runs-on is = stays j.slot j.start k.been.some k.been.ran is

      -- what it acknowledged is in its log, with which it enters a term
      entered-on : (x : Streaming) → S.logs.streamed j.slot t ≡ Some x → x.start ≡ j.start → (e : Entered) → e.start ≡ j.start → (u : ℕ) → EntersNow S j.slot u e
          → j.position ≤ max j.stream_start (length e.log)
      entered-on x is start e same u new =
          let runs = sym new.start ∙ same in
          let n = k.position runs ((H.streamed j.slot t x is).running (runs ∙ sym start)).0 in
          let m = new.log in
          omega (arith, n, m)

  pub reached-later : (c : ℕ) (l : Letter) → MeantFor S c l → MeantFor T c l
  reached-later c l k = (
    k.0,
    f.ran c l.start k.1,
    λ is. let s = stays c l.start k.0.0 k.1 is in
        let r = k.2 (sym s.start ∙ is) in let m = s.term in omega (arith, r, m),
  )

  pub loaded-later : (c a : ℕ) → LoadedOk S c a → LoadedOk T c a
  loaded-later c a k = (
    f.ran c a k.0,
    λ up is j joins. let s = stays c a (omega (arith, up, is)) k.0 is in
        let old = s.loaded j joins in old.2 (k.1 (rw s.start at up) (sym s.start ∙ is) old.0 old.1),
  )

  pub all_loaded-later : (h a : ℕ) → AllLoaded S h a → AllLoaded T h a
  all_loaded-later h a k c is = loaded-later c a (k c (rw f.words.deployment at is))

  -- where what is under way from the leader begins where it did, and so does what was taken since
  pub end-later-if : (i c : ℕ) (l : Letter) → MeantFor S c l → (k : EndOk S i c l)
      → ((j : Joining) → (S.sites c).joining ≡ Some j → site_start S c ≡ l.start → term_at S c ≡ l.term
      → AllByRecursion (BeginsAt k.stream_start) (flow l.start l.term (between S i c)) → AllByRecursion (BeginsAt k.stream_start) (flow l.start l.term (between T i c)))
      → ((x : Streaming) → T.logs.streamed c l.term ≡ Some x → x.start ≡ l.start → (S.logs.streamed c l.term ≡ Some x) ⊎ (x.stream_start ≡ k.stream_start))
      → EndOk T i c l
  end-later-if i c l r k keeps taken = record {
    stream_start = k.stream_start;
    everywhere = rw (part-later c) (let a = f.reach (part S c) l.term in let b = k.everywhere in omega (arith, a, b));
    begun = λ j joins is term below. let s = before is in let old = s.loaded j joins in
        keeps old.0 old.1 (sym s.start ∙ is) (same-term is term) (k.begun old.0 old.1 (sym s.start ∙ is) (same-term is term) (rw s.earlier at below));
    taken = λ is term x e start. let s = before is in elim (taken x e start) [
      | inl old ↦ k.taken (sym s.start ∙ is) (same-term is term) x old start
      | inr new ↦ new
    ];
  }
    where
      before : site_start T c ≡ l.start → Stays S T c
      before is = stays c l.start r.0.0 r.1 is

      same-term : site_start T c ≡ l.start → term_at T c ≡ l.term → term_at S c ≡ l.term
      same-term is term = let s = before is in let low = r.2 (sym s.start ∙ is) in let m = s.term in omega (arith, term, low, m)

  pub end-later : (i c : ℕ) (l : Letter) → MeantFor S c l → (k : EndOk S i c l)
      → (AllByRecursion (BeginsAt k.stream_start) (flow l.start l.term (between S i c)) → AllByRecursion (BeginsAt k.stream_start) (flow l.start l.term (between T i c)))
      → ((x : Streaming) → T.logs.streamed c l.term ≡ Some x → x.start ≡ l.start → (S.logs.streamed c l.term ≡ Some x) ⊎ (x.stream_start ≡ k.stream_start))
      → EndOk T i c l
  end-later i c l r k keeps taken = end-later-if i c l r k (λ j joins is term. keeps) taken

  -- ---- messages, and what waits

  -- A message to slot c from slot i, where an ask and the end of a stream stay so.
  pub letter-later-with : (i c : ℕ) (l : Letter) → ((a slot : ℕ) → l.body ≡ msg.JoinAsk a slot → AsksToJoin S (part S c) i l.term a → AsksToJoin T (part S c) i l.term a)
      → (MeantFor S c l → EndOk S i c l → EndOk T i c l) → SiteLetterOk S i c l → SiteLetterOk T i c l
  letter-later-with i c l asks ends k = elim l.body as (λ m. ((a slot : ℕ) → m ≡ msg.JoinAsk a slot → AsksToJoin S (part S c) i l.term a → AsksToJoin T (part S c) i l.term a)
      → (MeantFor S c (record l { body = m }) → EndOk S i c (record l { body = m }) → EndOk T i c (record l { body = m }))
      → SiteLetterOk S i c (record l { body = m }) → SiteLetterOk T i c (record l { body = m })) [
        | msg.Put position e floor ↦ λ _ _ p. (
          reached-later c (record l { body = msg.Put position e floor }) p.0,
          rw (part-later c) (let a = f.reach (part S c) l.term in let b = p.1 in omega (arith, a, b)),
        )
        | msg.Repair from entries ↦ λ _ _. reached-later c (record l { body = msg.Repair from entries })
        | msg.Task position e ↦ λ _ _. reached-later c (record l { body = msg.Task position e })
        | msg.StreamStart head ↦ λ _ _. reached-later c (record l { body = msg.StreamStart head })
        | msg.StreamEnd count ↦ λ _ e p. (reached-later c (record l { body = msg.StreamEnd count }) p.0, e p.0 p.1)
        | msg.Ack n ↦ λ _ _ p. (p.0, ack-later i l.term n p.1)
        | msg.Report position floor tail ↦ λ _ _ p. (p.0, rw (part-later c) (report-later (part S c) i l.term position floor tail p.1))
        | msg.JoinAsk a slot ↦ λ asks _ p. (p.0, p.1, rw (part-later c) (asks a slot refl p.2))
        | msg.Start a ↦ λ _ _ p. p
        | m ↦ λ _ _ p. tt
      ] asks ends k

  pub letter-later : (i c : ℕ) (l : Letter) → JoinsOn S T i
      → ((k : EndOk S i c l) (j : Joining) → (S.sites c).joining ≡ Some j → site_start S c ≡ l.start → term_at S c ≡ l.term
      → AllByRecursion (BeginsAt k.stream_start) (flow l.start l.term (between S i c)) → AllByRecursion (BeginsAt k.stream_start) (flow l.start l.term (between T i c)))
      → ((k : EndOk S i c l) (x : Streaming) → T.logs.streamed c l.term ≡ Some x → x.start ≡ l.start → (S.logs.streamed c l.term ≡ Some x) ⊎ (x.stream_start ≡ k.stream_start))
      → SiteLetterOk S i c l → SiteLetterOk T i c l
  letter-later i c l on keeps taken k =
      letter-later-with i c l (λ a _ _. ask-later (part S c) i l.term a on) (λ r e. end-later-if i c l r e (keeps e) (taken e)) k

  -- What waits at slot c, where an ask stays so. Its start is meant, if one is.
  pub waiting-later-with : (c : ℕ) → site_start T c ≡ site_start S c → (x : Waiting)
      → ((i a slot : ℕ) → x.from ≡ Site i → x.letter.body ≡ msg.JoinAsk a slot → AsksToJoin S (part S c) i x.letter.term a → AsksToJoin T (part S c) i x.letter.term a)
      → SiteWaitingOk S c x → SiteWaitingOk T c x
  waiting-later-with c start x asks k = (rw start k.0, go x.from refl k.1)
    where
      site : (i : ℕ) → x.from ≡ Site i → SiteWaitingFrom S c (Site i) x.letter → SiteWaitingFrom T c (Site i) x.letter
      site i e p = elim x.letter.body as (λ m. x.letter.body ≡ m → SiteWaitingFrom S c (Site i) (record x.letter { body = m }) → SiteWaitingFrom T c (Site i) (record x.letter { body = m })) [
        | msg.Put position e floor ↦ λ _ p. p
        | msg.Repair from entries ↦ λ _ p. p
        | msg.Task position e ↦ λ _ p. p
        | msg.StreamStart head ↦ λ _ p. p
        | msg.StreamEnd count ↦ λ _ p. p
        | msg.JoinAsk a slot ↦ λ b p. (p.0, p.1, rw (part-later c) (asks i a slot e b p.2))
        | msg.Ack n ↦ λ _ p. (p.0, ack-later i x.letter.term n p.1)
        | msg.Report position floor tail ↦ λ _ p. (p.0, rw (part-later c) (report-later (part S c) i x.letter.term position floor tail p.1))
        | msg.Start a ↦ λ _ p. p
        | m ↦ λ _ _. tt
      ] refl p

      go : (from : Actor) → x.from ≡ from → SiteWaitingFrom S c from x.letter → SiteWaitingFrom T c from x.letter
      go (Site i) e p = site i e p
      go from e p = p

  -- where all starts that ask and run on join on
  pub waiting-later-on : (c : ℕ) → site_start T c ≡ site_start S c → ((i : ℕ) → Stays S T i → 0 < site_start T i → JoinsOn S T i) → (x : Waiting) → SiteWaitingOk S c x → SiteWaitingOk T c x
  waiting-later-on c start on x = waiting-later-with c start x (λ i a _ _ _. ask-later-on (part S c) i x.letter.term a (on i))

  pub waiting-later : (c : ℕ) → site_start T c ≡ site_start S c → ((i : ℕ) → JoinsOn S T i) → (x : Waiting) → SiteWaitingOk S c x → SiteWaitingOk T c x
  waiting-later c start on = waiting-later-on c start (λ i _ _. on i)

  -- all that wait, asked, or are counted
  pub waitings-later : (c : ℕ) → site_start T c ≡ site_start S c → ((i : ℕ) → JoinsOn S T i) → (ws : List Waiting) → AllByRecursion (SiteWaitingOk S c) ws → AllByRecursion (SiteWaitingOk T c) ws
  waitings-later c start on = all-mono (SiteWaitingOk S c) (SiteWaitingOk T c) (waiting-later c start on)

  pub asks-later : (p t : ℕ) → ((c : ℕ) → JoinsOn S T c) → (as_ : List Ask) → AllByRecursion (λ a. AsksToJoin S p a.slot t a.start) as_ → AllByRecursion (λ a. AsksToJoin T p a.slot t a.start) as_
  asks-later p t on = all-mono (λ a. AsksToJoin S p a.slot t a.start) (λ a. AsksToJoin T p a.slot t a.start) (λ a. ask-later p a.slot t a.start (on a.slot))

  pub counteds-later : (p t : ℕ) (js : List Joiner) → AllByRecursion (CountedOk S p t) js → AllByRecursion (CountedOk T p t) js
  counteds-later p t = all-mono (CountedOk S p t) (CountedOk T p t) (counted-later p t)

  -- What a slot's site keeps that has this state: what it knew of copies and reports it knows still.
  pub keeps-at : (c : ℕ) (s : SiteState) → T.sites c ≡ s → site_term s ≡ term_at S c
      → AllByRecursion (λ a. IsSlot S a.0 → AckOk S a.0 (term_at S c) a.1) s.acks
      → AllByRecursion (λ r. ReportOk S (part S c) r.slot (term_at S c) r.position r.floor r.tail) s.reports
      → AllByRecursion (CountedOk T (part S c) (term_at S c)) s.joiners → Distinct (map (λ j. j.slot) s.joiners)
      → ((s.joiners ≡ []) ⊎ (is_leader S.words.deployment c s ≡ true)) → AllByRecursion (λ a. AsksToJoin T (part S c) a.slot (term_at S c) a.start) s.asks
      → AllByRecursion (SiteWaitingOk T c) s.waiting → AllByRecursion (SiteWaitingOk T c) (T.pending c) → s.on_disk ≤ length s.log → AllByRecursion HeldOk s.held → KeepsOk T c
  keeps-at c s is term acks reports joiners alone leads asks waiting pending on_disk held = record {
    acks = rw (is, term) (all-mono (λ a. IsSlot S a.0 → AckOk S a.0 (term_at S c) a.1) (λ a. IsSlot T a.0 → AckOk T a.0 (term_at S c) a.1)
        (λ a p slot. ack-later a.0 (term_at S c) a.1 (p (slot-before a.0 slot))) s.acks acks);
    reports = rw (is, term, part-later c) (all-mono (λ r. ReportOk S (part S c) r.slot (term_at S c) r.position r.floor r.tail)
        (λ r. ReportOk T (part S c) r.slot (term_at S c) r.position r.floor r.tail) (λ r. report-later (part S c) r.slot (term_at S c) r.position r.floor r.tail) s.reports reports);
    joiners = rw (is, term, part-later c) joiners;
    alone = rw is alone;
    leads = rw (is, f.words.deployment) leads;
    asks = rw (is, term, part-later c) asks;
    waiting = rw is waiting;
    pending = pending;
    on_disk = rw (is, log_at) on_disk;
    held = rw is held;
  }

  -- ---- what was loaded

  pub told-later : (c : ℕ) (l : Letter) → ToldOk S c l → ToldOk T c l
  told-later c l k = elim l.body as (λ m. ToldOk S c (record l { body = m }) → ToldOk T c (record l { body = m })) [
    | msg.Loaded a ↦ loaded-later c a
    | m ↦ λ _. tt
  ] k

  pub asked-later : (from : Actor) (l : Letter) → AskedOk S from l → AskedOk T from l
  asked-later (Agent h) l k = elim l.body as (λ m. AskedOk S (Agent h) (record l { body = m }) → AskedOk T (Agent h) (record l { body = m })) [
    | msg.Admit a ↦ all_loaded-later h a
    | m ↦ λ _. tt
  ] k
  asked-later (Site i) l k = told-later i l k
  asked-later from l k = tt

  pub queued-later : (q : Queued) → QueuedLoadedOk S q → QueuedLoadedOk T q
  queued-later (ToRun job) k = tt
  queued-later (Admission a h term) k = all_loaded-later h a k

  -- ---- terms

  pub start-later : (w : Membership) (c : ℕ) → start_of_slot T.words.deployment w c ≡ start_of_slot S.words.deployment w c
  start-later w c = ap (λ D. start_of_slot D w c) f.words.deployment

  pub came-later : (c t a : ℕ) → Came S c t a → Came T c t a
  came-later c t a (inl e) = inl (ap (λ w. list_any (λ m. m.1 == a) w.first) f.words.first ∙ e)
  came-later c t a (inr (u, x, is, start, below)) = inr (u, x, f.streamed c u x is, start, below)

  -- the last leader's term is the same one, if the same terms were led
  pub last-before : (p q v t : ℕ) → q ≡ p → SameLeaderships S.logs T.logs → (l : Last T.logs q v t) → (k : Last S.logs p v t) × Prefix k.leadership.log l.leadership.log
  last-before p q v t eq same l = elim (none-or-some (S.logs.leadership p v)) [
    | inl e ↦ absurd (none-and-some (same.none p v e) led)
    | inr (g, e) ↦ let h = same.kept p v g e in (
      record { leadership = g; led = e; below = l.below; greatest = λ x k is. let r = same.kept p x k is in l.greatest x r.0 (at x r.0 r.1) },
      subst (λ z. Prefix g.log z.log) (same-some (sym h.1 ∙ led)) h.3,
    )
  ]
    where
      at : (x : ℕ) (g : Leadership) → T.logs.leadership p x ≡ Some g → T.logs.leadership q x ≡ Some g
      at x g is = ap (λ z. T.logs.leadership z x) eq ∙ is

      led : T.logs.leadership p v ≡ Some l.leadership
      led = ap (λ z. T.logs.leadership z v) (sym eq) ∙ l.led

  -- What is everywhere in a term in which a start was is in its log still.
  reach-later : (c t a : ℕ) → HasBeen S c t a → ((p t : ℕ) → T.logs.reach p t ≡ S.logs.reach p t) → (site_start S c ≡ a → S.logs.reach (part S c) t ≤ length (log_at S c))
      → site_start T c ≡ a → T.logs.reach (part T c) t ≤ length (log_at T c)
  reach-later c t a been reach within runs = let s = stays c a been.some been.ran runs in
      let n = within (sym s.start ∙ runs) in let m = s.log in let r = reach (part S c) t in rw (part-later c) (omega (arith, n, m, r))

  -- Of a slot that entered a term, where what is everywhere is in its log still.
  pub entered-later : (c t : ℕ) (e : Entered) → EnteredOk S c t e → SameLeaderships S.logs T.logs
      → (site_start T c ≡ e.start → T.logs.reach (part T c) t ≤ length (log_at T c))
      → ((v : ℕ) (g : Leadership) → S.logs.leadership (part S c) v ≡ Some g → v < t → T.logs.reach (part S c) v ≤ length e.log) → EnteredOk T c t e
  entered-later c t e k same reach since = record {
    slot = slot-later c k.slot;
    word = k.word;
    is_word = word_of-later t k.word k.is_word;
    start_is = start-later k.word c ∙ k.start_is;
    been = been-later c t e.start k.been;
    came = came-later c t e.start k.came;
    reach = rw (part-later c) (let a = f.reach (part S c) t in let b = k.reach in omega (arith, a, b));
    behind = λ v l. let old = last-before (part S c) (part T c) v t (part-later c) same l in
        let b = k.behind v old.0 in (
          prefix-trans e.log old.0.leadership.log l.leadership.log b.0 old.1,
          rw (part-later c) (let r = f.reach (part S c) v in let n = b.1 in omega (arith, r, n)),
        );
    still = λ v g below then start none. elim (f.entered_now c v g then) [
      | inl old ↦ k.still v g below old start (let u = rw (part-later c) at none in λ x g is. let r = same.kept (part S c) x g is in u x r.0 r.1)
      | inr new ↦ let up = (k.running (sym new.start ∙ start)).1 in let low = new.above in absurd (omega (arith, up, low, below))
    ];
    running = λ at_start. let s = stays c e.start k.been.some k.been.ran at_start in
        let r = k.running (sym s.start ∙ at_start) in
        (s.member r.0, (let a = r.1 in let b = s.term in omega (arith, a, b)), reach at_start);
    since = λ v g led below. rw (part-later c) (led-before v (S.logs.leadership (part S c) v) refl (ap (λ p. T.logs.leadership p v) (sym (part-later c)) ∙ led) below);
  }
    where
      led-before : (v : ℕ) (o : Option Leadership) → S.logs.leadership (part S c) v ≡ o → {g : Leadership} → T.logs.leadership (part S c) v ≡ Some g → v < t → T.logs.reach (part S c) v ≤ length e.log
      led-before v None none led below = absurd (none-and-some (same.none (part S c) v none) led)
      led-before v (Some h) old led below = since v h old below

  -- Of a slot that took the stream of a term, where it didn't enter it, what is everywhere is in its log still, and it is counted.
  pub streamed-later : (c t : ℕ) (x : Streaming) → (k : StreamedOk S c t x)
      → (h : Leadership) × (T.logs.leadership (part S c) t ≡ Some h) × (h.begun ≡ k.leadership.begun) × Prefix k.leadership.log h.log → T.logs.entered c t ≡ None
      → (site_start T c ≡ x.start → T.logs.reach (part T c) t ≤ length (log_at T c))
      → (IsCounted S c x.start x.stream_start k.word → IsCounted T c x.start x.stream_start k.word) → StreamedOk T c t x
  streamed-later c t x k r apart reach counted = record {
    word = k.word;
    took = f.words.took_word x.start k.word k.took;
    term_is = k.term_is;
    apart = apart;
    later = λ u e is start. elim (f.entered_now c u e is) [
      | inl old ↦ k.later u e old start
      | inr new ↦ let r = k.running (sym new.start ∙ start) in let up = r.1 in let above = new.above in let n = r.3 in let m = new.log in
          (omega (arith, up, above), omega (arith, n, m))
    ];
    leadership = r.0;
    led = rw (part-later c) r.1;
    behind = rw r.2 k.behind;
    been = been-later c t x.start k.been;
    running = λ is. let s = stays c x.start k.been.some k.been.ran is in
        let o = k.running (sym s.start ∙ is) in (
          rw s.earlier o.0,
          (let a = o.1 in let b = s.term in omega (arith, a, b)),
          reach is,
          (let a = o.3 in let b = s.log in omega (arith, a, b)),
        );
    counted = counted k.counted;
  }

  -- So it is of all, where the same terms are led, and what is everywhere in them is the same.
  pub entereds-later : SameLeaderships S.logs T.logs → ((p t : ℕ) → T.logs.reach p t ≡ S.logs.reach p t) → (c t : ℕ) (e : Entered) → S.logs.entered c t ≡ Some e → EnteredOk T c t e
  entereds-later same reach c t e is = let k = H.entered c t e is in entered-later c t e k same (reach-later c t e.start k.been reach (λ runs. (k.running runs).2))
      (λ v g led below. let a = k.since v g led below in let r = reach (part S c) v in omega (arith, a, r))

  pub streameds-later : SameLeaderships S.logs T.logs → ((p t : ℕ) → T.logs.reach p t ≡ S.logs.reach p t) → (c t : ℕ) (x : Streaming) (k : StreamedOk S c t x) → T.logs.entered c t ≡ None
      → (IsCounted S c x.start x.stream_start k.word → IsCounted T c x.start x.stream_start k.word) → StreamedOk T c t x
  streameds-later same reach c t x k apart = streamed-later c t x k (same.kept (part S c) t k.leadership k.led) apart (reach-later c t x.start k.been reach (λ runs. (k.running runs).2))

  -- Of a term that a leader began.
  pub leadership-later : (p t : ℕ) (g h : Leadership) → h.begun ≡ g.begun → Prefix g.log h.log → T.logs.reach p t ≤ length g.log → LeadershipOk S p t g → LeadershipOk T p t h
  leadership-later p t g h begun more within k = record {
    word = k.word;
    is_word = word_of-later t k.word k.is_word;
    grown = rw begun (prefix-trans g.begun g.log h.log k.grown more);
    within = let l = prefix-length g.log h.log more in omega (arith, within, l);
    entered = λ c a slot is start. let r = k.entered c a (slot-before c slot) (sym (part-later c) ∙ is) (sym (start-later k.word c) ∙ start) in
        (r.0, f.entered c t r.0 r.1, r.2, rw begun r.3);
    begun_by = λ above. let r = k.begun_by (rw base-later at above) in
        (r.0, r.1, slot-later r.0 r.2, part-later r.0 ∙ r.3, f.entered r.0 t r.1 r.4, r.5 ∙ sym begun);
  }

  -- where what is everywhere is in its log still
  pub leaderships-later : SameLeaderships S.logs T.logs → ((p t : ℕ) (g : Leadership) → S.logs.leadership p t ≡ Some g → T.logs.reach p t ≤ length g.log)
      → (p t : ℕ) (h : Leadership) → T.logs.leadership p t ≡ Some h → LeadershipOk T p t h
  leaderships-later same within p t h led = elim (none-or-some (S.logs.leadership p t)) [
    | inl e ↦ absurd (none-and-some (same.none p t e) led)
    | inr (g, e) ↦ let r = same.kept p t g e in
        let is = same-some (sym r.1 ∙ led) in
        leadership-later p t g h (ap (λ z. z.begun) (sym is) ∙ r.2) (subst (λ z. Prefix g.log z.log) is r.3) (within p t g e) (H.leaderships p t g e)
  ]

  -- Of one that none began.
  pub unled-later : (p t : ℕ) → T.logs.reach p t ≡ S.logs.reach p t → UnledOk S p t → UnledOk T p t
  unled-later p t same (inl e) = inl (same ∙ e)
  unled-later p t same (inr (c, e, is, entered, reach)) = inr (c, e, part-later c ∙ is, f.entered c t e entered, same ∙ reach)

  pub unleds-later : SameLeaderships S.logs T.logs → (p t : ℕ) → T.logs.reach p t ≡ S.logs.reach p t → T.logs.leadership p t ≡ None → UnledOk T p t
  unleds-later same p t reach led = elim (none-or-some (S.logs.leadership p t)) [
    | inl e ↦ unled-later p t reach (H.unled p t e)
    | inr (g, e) ↦ absurd (none-and-some led (same.kept p t g e).1)
  ]

  pub first-later : SameLeaderships S.logs T.logs → (p : ℕ) → (g : Leadership) × (T.logs.leadership p (epoch_base T) ≡ Some g)
  first-later same p = let o = H.first p in let r = same.kept p (epoch_base S) o.0 o.1 in (r.0, rw base-later r.1)

  -- Who asks to be admitted has loaded all, and has it on disk, where no agent moves, and all that sites tell agents is so.
  pub loads-later : T.words.agents ≡ S.words.agents → T.words.history.admitted ≡ S.words.history.admitted
      → ((c h : ℕ) → AllByRecursion (ToldOk S c) (T.words.channel (Site c) (Agent h)))
      → ((h g : ℕ) → T.words.channel (Agent h) (Agent g) ≡ S.words.channel (Agent h) (Agent g)) → LoadsOk T
  loads-later agents admitted told asked = record {
    told = λ c h. all-mono (ToldOk S c) (ToldOk T c) (told-later c) (T.words.channel (Site c) (Agent h)) (told c h);
    heard = rw agents (λ h c up is. loaded-later c (S.words.agents h).start (H.loads.heard h c up is));
    asked = λ h g. rw (asked h g) (all-mono (AskedOk S (Agent h)) (AskedOk T (Agent h)) (asked-later (Agent h)) (S.words.channel (Agent h) (Agent g)) (H.loads.asked h g));
    waiting = subst (λ a. (h : ℕ) → AllByRecursion (λ x. AskedOk T x.from x.letter) (a h).waiting) (sym agents)
        (λ h. all-mono (λ x. AskedOk S x.from x.letter) (λ x. AskedOk T x.from x.letter) (λ x. asked-later x.from x.letter) (S.words.agents h).waiting (H.loads.waiting h));
    queued = subst (λ a. (h : ℕ) → AllByRecursion (QueuedLoadedOk T) (a h).initiating.queue) (sym agents)
        (λ h. all-mono (QueuedLoadedOk S) (QueuedLoadedOk T) queued-later (S.words.agents h).initiating.queue (H.loads.queued h));
    admitted = λ x i. subst (λ o. AllLoaded T (o x.start) x.start) (sym f.words.owner)
        (all_loaded-later (S.words.owner x.start) x.start (H.loads.admitted x (subst (In x) admitted i)));
  }
